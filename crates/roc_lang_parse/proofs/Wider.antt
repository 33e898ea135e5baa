-- Limits of which the second is further in each, and exact readers of integers within bounds.
use Rattle.std.proofs.Common.{◌≡◌, ℕ, ◌-◌, ◌^◌, ◌<◌, ◌≤◌, Bool, true, false, cond, List, [], ◌∷◌, Option, Some, None, refl, sym, ap, subst, ◌∙◌, arith}
use Rattle.std.specs.Prelude.{Ok, Err, ◌&&◌, nat_le}
use Rattle.std.proofs.lemmas.Bool.{leb-true, le-leb}
use Rattle.roc_lang.specs.Tokens.{Integer, Token}
use Rattle.roc_lang.specs.Grammar.{Limits, IsInteger}
use Rattle.roc_lang_parse.specs.Stuck.{Stuck, Reading}
use Rattle.roc_lang_parse.specs.Parts.{small_integer, bounded_by, bounded_at}
use Rattle.roc_lang_parse.proofs.Exact.{any, Consumed, Front, Refused, Exact, ok_same, err_same, ok-err}
use Rattle.roc_lang_parse.proofs.Terminals.{small_made, small_taken}

-- how many of a kind
pub record Deeper (k k' : ℕ) : Type 0 where
  pub above : 1 ≤ k
  pub further : k < k'

pub fewer : (k k' : ℕ) → Deeper k k' → k - 1 < k' - 1
fewer k k' d = omega (arith, d.above, d.further)

pub higher : (k k' : ℕ) → Deeper k k' → 1 ≤ k'
higher k k' d = omega (arith, d.above, d.further)

-- bounds of an integer: the second ones hold of each
pub record Looser (least most least' most' : ℕ) : Type 0 where
  pub some : least ≤ most
  pub low : least < 2 ^ 63
  pub no_least : least' ≤ 0
  pub no_most : 2 ^ 63 ≤ most'

pub record Further (limits limits' : Limits) : Type 0 where
  pub tables : limits.tables < limits'.tables
  pub columns : Deeper limits.columns limits'.columns
  pub arity : Looser limits.least_arity limits.arity limits'.least_arity limits'.arity
  pub ids : Deeper limits.ids limits'.ids
  pub inits : limits.inits < limits'.inits
  pub procedures : limits.procedures < limits'.procedures
  pub arguments : Deeper limits.arguments limits'.arguments
  pub pieces : Deeper limits.pieces limits'.pieces
  pub statements : limits.statements < limits'.statements
  pub depth : Deeper limits.depth limits'.depth

-- ---- integers within bounds

pub record Bounded (l m : ℕ) (ts us : List Token) (n : ℕ) : Type 0 where
  pub is : IsInteger ts us n
  pub least : l ≤ n
  pub most : n ≤ m

and_true : (b c : Bool) → (b && c) ≡ true → (b ≡ true) × (c ≡ true)
and_true true c e = (refl, e)
and_true false c e = absurd cc

within_both : (l m n : ℕ) → (nat_le l n && nat_le n m) ≡ true → (l ≤ n) × (n ≤ m)
within_both l m n e = let p = and_true (nat_le l n) (nat_le n m) e in (leb-true l n p.0, leb-true n m p.1)

bounded_all : (l m : ℕ) (ts us : List Token) (n : ℕ) → Bounded l m ts us n → bounded_at l m ts ≡ Ok (n, us)
unfolding bounded_at
bounded_all l m ts us n b = rw (b.is.is.is, small_taken n b.is.fits, le-leb l n b.least, le-leb n m b.most) refl

bounded_one : (n : ℕ) → n < 2 ^ 63 → (us : List Token) → let t : Token = record { kind = Integer n; line = 1 } in IsInteger (t ∷ us) us n
bounded_one n fits us = record { is = record { line = 1; is = refl }; fits = fits }

bounded_reads : (l m : ℕ) (ts us : List Token) (n : ℕ) → bounded_at l m ts ≡ Ok (n, us) → Consumed (Bounded l m) any ts us n
unfolding bounded_at
bounded_reads l m [] us n read = absurd (ok-err (n, us) (record { past = false; rest = [] }) (sym read))
bounded_reads l m (t ∷ ts) us n read = go (small_integer t.kind) refl read
  where
    within : (k : ℕ) → small_integer t.kind ≡ Some k → (b : Bool) → (nat_le l k && nat_le k m) ≡ b → cond {A = Reading ℕ} b (Ok (k, ts)) (Err (record { past = true; rest = t ∷ ts })) ≡ Ok (n, us) → Consumed (Bounded l m) any (t ∷ ts) us n
    within k e true h r =
        let same = ok_same (k, ts) (n, us) r in
        let p = within_both l m k h in
        let made : (rest : List Token) → Bounded l m (t ∷ rest) rest k = λ rest. record { is = small_made t rest k e; least = p.0; most = p.1 } in
        record { taken = t ∷ []; split = ap (λ z. t ∷ z.1) same; is = λ rest a. subst (λ z. Bounded l m (t ∷ rest) rest z.0) same (made rest) }
    within k e false h r = absurd (ok-err (n, us) (record { past = true; rest = t ∷ ts }) (sym r))

    go : (o : Option ℕ) → small_integer t.kind ≡ o → bounded_by l m t ts o ≡ Ok (n, us) → Consumed (Bounded l m) any (t ∷ ts) us n
    go None e r = absurd (ok-err (n, us) (record { past = false; rest = t ∷ ts }) (sym r))
    go (Some k) e r = within k e (nat_le l k && nat_le k m) refl r

bounded_front : (l m : ℕ) → l ≤ m → l < 2 ^ 63 → Front (Bounded l m) any []
bounded_front l m some low = record { more = (let t : Token = record { kind = Integer l; line = 1 } in t ∷ []); value = l; is = λ rest a. record { is = bounded_one l low rest; least = omega arith; most = some } }

abbrev token_of : Token → List Token → Token
token_of d [] = d
token_of d (t ∷ ts) = t

-- the value of a token is that of the integer
same_value : (t : Token) (ts us : List Token) (n : ℕ) → IsInteger (t ∷ ts) us n → small_integer t.kind ≡ Some n
same_value t ts us n i = let same = ap (token_of t) i.is.is in ap (λ z. small_integer z.kind) same ∙ small_taken n i.fits

bounded_stuck : (l m l' m' : ℕ) → Looser l m l' m' → (ts : List Token) (s : Stuck) → bounded_at l m ts ≡ Err s → Refused (Bounded l m) (Bounded l' m') any ts s
unfolding bounded_at
bounded_stuck l m l' m' h [] s read = subst (λ z. Refused (Bounded l m) (Bounded l' m') any [] z) (err_same (record { past = false; rest = [] }) s read) (record { taken = []; split = refl; front = bounded_front l m h.some h.low; why = tt })
bounded_stuck l m l' m' h (t ∷ ts) s read = go (small_integer t.kind) refl read
  where
    none : small_integer t.kind ≡ None → Refused (Bounded l m) (Bounded l' m') any (t ∷ ts) (record { past = false; rest = t ∷ ts })
    none e = record { taken = []; split = refl; front = bounded_front l m h.some h.low; why = λ ws rest x a b. let v = same_value t ws rest x b.is in absurd (cc (e, v)) }

    beyond : (k : ℕ) → small_integer t.kind ≡ Some k → (nat_le l k && nat_le k m) ≡ false → Refused (Bounded l m) (Bounded l' m') any (t ∷ ts) (record { past = true; rest = t ∷ ts })
    beyond k e f =
        let made : (rest : List Token) → IsInteger (t ∷ rest) rest k = λ rest. small_made t rest k e in
        record {
          taken = [];
          split = refl;
          front = bounded_front l m h.some h.low;
          why = (
            (λ ws rest x a b.
                let v = same_value t ws rest x b.is in
                let same : k ≡ x = cc (e, v) in
                let p : (nat_le l x && nat_le x m) ≡ true = rw (le-leb l x b.least, le-leb x m b.most) refl in
                absurd (cc (f, p, same))),
            record { more = []; value = k; is = λ rest a. record { is = made rest; least = omega (arith, h.no_least); most = omega (arith, h.no_most, (made rest).fits) } },
          );
        }

    within : (k : ℕ) → small_integer t.kind ≡ Some k → (b : Bool) → (nat_le l k && nat_le k m) ≡ b → cond {A = Reading ℕ} b (Ok (k, ts)) (Err (record { past = true; rest = t ∷ ts })) ≡ Err s → Refused (Bounded l m) (Bounded l' m') any (t ∷ ts) s
    within k e true f r = absurd (ok-err (k, ts) s r)
    within k e false f r = subst (λ z. Refused (Bounded l m) (Bounded l' m') any (t ∷ ts) z) (err_same (record { past = true; rest = t ∷ ts }) s r) (beyond k e f)

    go : (o : Option ℕ) → small_integer t.kind ≡ o → bounded_by l m t ts o ≡ Err s → Refused (Bounded l m) (Bounded l' m') any (t ∷ ts) s
    go None e r = subst (λ z. Refused (Bounded l m) (Bounded l' m') any (t ∷ ts) z) (err_same (record { past = false; rest = t ∷ ts }) s r) (none e)
    go (Some k) e r = within k e (nat_le l k && nat_le k m) refl r

bounded_weaker : (l m l' m' : ℕ) → Looser l m l' m' → (ts us : List Token) (n : ℕ) → Bounded l m ts us n → Bounded l' m' ts us n
bounded_weaker l m l' m' h ts us n b = record { is = b.is; least = omega (arith, h.no_least); most = omega (arith, h.no_most, b.is.fits) }

pub exact_bounded : (l m l' m' : ℕ) → Looser l m l' m' → Exact (Bounded l m) (Bounded l' m') any (bounded_at l m) (bounded_at l' m')
exact_bounded l m l' m' h = record {
  weaker = bounded_weaker l m l' m' h;
  some = bounded_front l m h.some h.low;
  all = λ ts us n b a. bounded_all l m ts us n b;
  all_any = λ ts us n b a. bounded_all l' m' ts us n b;
  reads = bounded_reads l m;
  stuck = bounded_stuck l m l' m' h;
}
