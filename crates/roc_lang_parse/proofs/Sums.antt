-- The readers of products and sums are exact, in each room.
use Rattle.std.proofs.Common.{◌≡◌, ℕ, ◌-◌, ◌≤◌, Bool, true, false, ◌||◌, List, [], ◌∷◌, refl, sym, ap, subst, ◌∙◌, arith}
use Rattle.std.specs.Prelude.{Ok}
use Rattle.std.proofs.lemmas.Bool.Decides.{nat_tests}
use Rattle.roc_lang.specs.Syntax.{Expression}
use Rattle.roc_lang.specs.Tokens.{Kind, Word, Integer, Mark, Token}
use Rattle.roc_lang.specs.Grammar.{plus, minus, star}
use Rattle.roc_lang_parse.specs.Stuck.{Reading, head_is}
use Rattle.roc_lang_parse.specs.Parts.{has_mark}
use Rattle.roc_lang_parse.specs.Reading.{Deep, is_sign, times, plus_or_minus, factor_at, signed_term_at, loop_at, atom_with, term_with, sum_with}
use Rattle.roc_lang_parse.proofs.Exact.{Rule, Stop, IsStopAt, any, Front, Exact, ok_same, when_ok, Then, exact_bind, exact_next}
use Rattle.roc_lang_parse.proofs.Choices.{Mapped, exact_mapped, exact_same}
use Rattle.roc_lang_parse.proofs.Several.{other_than, ended, unended}
use Rattle.roc_lang_parse.proofs.Terminals.{token_made, Tokens, exact_mark, mark_kind, token_begins, sign_mark, Signs, exact_sign}
use Rattle.roc_lang_parse.proofs.Depths.{Summed, Multiplied, term, sum, difference, atom, product, single_deep, multiplied_deep, variable}
use Rattle.roc_lang_parse.proofs.Loops.{Within, depth_of, IsRead, Tail, stays, goes, Looping, Loop, tail_deep, tail_snoc, stay_front, complete_loop, exact_loop, loop_ends}
use Rattle.roc_lang_parse.proofs.Atoms.{SumRule, AtomRule, Sums, Atoms, is_operator, sum_stop}
use Rattle.roc_lang_parse.proofs.Atom.{a, named, Roomy, exact_atom, complete_atom}

abbrev pub TermRule : Rule Deep
TermRule ts us v = Multiplied ts us v.0 v.1

abbrev pub Terms : ℕ → Rule Deep
Terms room = Within TermRule depth_of room

abbrev pub term_stop : Stop
term_stop = other_than (has_mark star)

-- ---- factors

abbrev pub Factor : Rule Deep
Factor = Then (Tokens (Mark star)) (λ s. AtomRule)

one_atom : (us : List Token) → AtomRule (a us) us named
one_atom us = variable (record { is = refl; free = refl })

factor_front : (t : Token) → has_mark star t.kind ≡ true → Front (Within Factor depth_of 1) any (t ∷ [])
factor_front t e = record { more = a []; value = named; is = λ rest end. record { is = record { first = tt; between = a rest; left = token_made t (Mark star) _ (mark_kind star t.kind e); right = one_atom rest }; fits = omega arith } }

looping_factors : Looping Factor depth_of times (has_mark star) any term_stop
looping_factors = record {
  join_deep = λ v x. refl;
  starts_item = λ ts us x t. token_begins (has_mark star) (Mark star) true ts t.between t.left refl;
  apart = λ us e. unended (has_mark star) us e;
  weaken = λ us e. refl;
  starts_stop = λ us e. refl;
  end = refl;
  opens = factor_front;
}

factor_to : (k : ℕ) (ts us : List Token) (v : Deep) → Then (Tokens (Mark star)) (λ s. Atoms k) ts us v → Within Factor depth_of k ts us v
factor_to k ts us v t = record { is = record { first = tt; between = t.between; left = t.left; right = t.right.is }; fits = t.right.fits }

factor_from : (k : ℕ) (ts us : List Token) (v : Deep) → Within Factor depth_of k ts us v → Then (Tokens (Mark star)) (λ s. Atoms k) ts us v
factor_from k ts us v t = record { first = tt; between = t.is.between; left = t.is.left; right = record { is = t.is.right; fits = t.fits } }

exact_factor : (k k' : ℕ) (atom atom' : List Token → Reading Deep) → Exact (Atoms k) (Atoms k') any atom atom' → Exact (Within Factor depth_of k) (Within Factor depth_of k') any (factor_at atom) (factor_at atom')
unfolding factor_at
exact_factor k k' one one' e = exact_same (factor_to k) (factor_from k) (factor_to k') (factor_from k') (exact_next (exact_mark star) (λ s. e))

read_factor : (k : ℕ) (atom : List Token → Reading Deep) → IsRead AtomRule depth_of k any atom → IsRead Factor depth_of k any (factor_at atom)
unfolding factor_at
read_factor k one read ts us v t fits end = rw ((exact_mark star).all ts t.between tt t.left refl) (read t.between us v t.right fits end)

-- ---- terms

tail_term : {v w : Deep} {ms us : List Token} → Tail Factor times v ms us w → (ts : List Token) → TermRule ts ms v → TermRule ts us w
tail_term stays ts m = m
tail_term (goes p t) ts m = tail_term t ts (product m p.left p.right)

-- what a term begins with, and what is behind
record TermBegun (ts us : List Token) (v : Deep) : Type 0 where
  first : Deep
  between : List Token
  is : AtomRule ts between first
  tail : Tail Factor times first between us v

term_begun : {ts us : List Token} {e : Expression} {d : ℕ} → Multiplied ts us e d → TermBegun ts us (e, d)
term_begun (atom {b = b} {e = e} {d = d} s) = record { first = (e, d); between = b; is = s; tail = stays }
term_begun (product {c = c} m s x) = let b = term_begun m in record { first = b.first; between = b.between; is = b.is; tail = tail_snoc b.tail (record { first = tt; between = c; left = s; right = x }) }

term_to : (room : ℕ) (ts us : List Token) (v : Deep) → Then (Atoms room) (λ x. Loop Factor times room x) ts us v → Terms room ts us v
term_to room ts us v t = record { is = tail_term t.right.is ts (atom t.left.is); fits = t.right.fits }

term_from : (room : ℕ) (ts us : List Token) (v : Deep) → Terms room ts us v → Then (Atoms room) (λ x. Loop Factor times room x) ts us v
term_from room ts us v t =
    let b = term_begun t.is in
    let h = tail_deep looping_factors b.tail in
    let f = t.fits in
    record { first = b.first; between = b.between; left = record { is = b.is; fits = omega arith }; right = record { is = b.tail; fits = f } }

pub exact_term : (room room' : ℕ) (inner inner' lower lower' : List Token → Reading Deep) → Roomy room room' inner inner' → (2 ≤ room → Roomy (room - 1) (room' - 1) lower lower') → IsRead SumRule depth_of (room' - 1 - 1) sum_stop lower'
    → Exact (Terms room) (Terms room') term_stop (term_with inner lower room) (term_with inner' lower' room')
unfolding term_with
exact_term room room' inner inner' lower lower' r below read =
    let factors = read_factor (room' - 1) (atom_with lower' (room' - 1)) (complete_atom (room' - 1) lower' read) in
    exact_same (term_to room) (term_from room) (term_to room') (term_from room')
    (exact_bind (exact_atom room room' inner inner' r) (record {
      exact = λ ts us x i. let f = i.fits in exact_loop room room' r.further looping_factors (λ h. exact_factor (room - 1) (room' - 1) (atom_with lower (room - 1)) (atom_with lower' (room' - 1)) (exact_atom (room - 1) (room' - 1) lower lower' (below h))) factors (λ ts us x read. refl) room room' x (single_deep i.is) f (omega arith) (omega arith);
      some = λ ts us x i. stay_front Factor times room' x term_stop i.fits;
      all = λ ts us x i ms vs w t a. complete_loop _ room' looping_factors factors room' t.is t.fits (omega arith) a;
    }) (λ ts us x read. refl) (record { is = λ x ms us y t a. refl; end = refl }))

pub complete_term : (room : ℕ) (inner lower : List Token → Reading Deep) → IsRead SumRule depth_of (room - 1) sum_stop inner → IsRead SumRule depth_of (room - 1 - 1) sum_stop lower → IsRead TermRule depth_of room term_stop (term_with inner lower room)
unfolding term_with
complete_term room inner lower read read' ts us v i fits a =
    let t = term_from room ts us v (record { is = i; fits = fits }) in
    let factors = read_factor (room - 1) (atom_with lower (room - 1)) (complete_atom (room - 1) lower read') in
    let one = complete_atom room inner read ts t.between t.first t.left.is t.left.fits refl in
    let others = complete_loop _ room looping_factors factors room t.right.is t.right.fits (omega arith) a in
    rw one others

pub term_ends : (inner lower : List Token → Reading Deep) (room : ℕ) (ts us : List Token) (v : Deep) → term_with inner lower room ts ≡ Ok (v, us) → IsStopAt term_stop us
unfolding term_with
term_ends inner lower room ts us v read = when_ok {A = Deep × List Token} (atom_with inner room ts) (λ x. loop_at (has_mark star) (factor_at (atom_with lower (room - 1))) times room room x.0 x.1) (v, us) read (λ x first others. ended (has_mark star) us (loop_ends (has_mark star) (factor_at (atom_with lower (room - 1))) times room any (λ ts us x read. refl) room x.0 v x.1 us refl others).0)

-- ---- signed terms

abbrev pub Signed : Rule (Bool × Deep)
Signed = Then Signs (λ s. Mapped (λ x. (s, x)) TermRule)

abbrev pub signed_depth : Bool × Deep → ℕ
signed_depth x = x.1.1

sign_is : (s : Bool) → is_sign (Mark (sign_mark s)) ≡ true
sign_is true = refl
sign_is false = refl

or_left : (b c : Bool) → (b || c) ≡ false → b ≡ false
or_left true c e = e
or_left false c e = refl

or_right : (b c : Bool) → (b || c) ≡ false → c ≡ false
or_right true c e = absurd cc
or_right false c e = e

-- what is no operator is no sign, and no star
no_sign : (us : List Token) → IsStopAt sum_stop us → head_is is_sign us ≡ false
no_sign [] e = refl
no_sign (t ∷ us) e = or_left (is_sign t.kind) (has_mark star t.kind) (unended is_operator (t ∷ us) e)

no_star : (us : List Token) → IsStopAt sum_stop us → head_is (has_mark star) us ≡ false
no_star [] e = refl
no_star (t ∷ us) e = or_right (is_sign t.kind) (has_mark star t.kind) (unended is_operator (t ∷ us) e)

no_operator : (us : List Token) → head_is is_sign us ≡ false → IsStopAt term_stop us → IsStopAt sum_stop us
no_operator [] e f = refl
no_operator (t ∷ us) e f = ended is_operator (t ∷ us) (rw (e, unended (has_mark star) (t ∷ us) f) refl)

sign_kind_stops : (k : Kind) → is_sign k ≡ true → has_mark star k ≡ false
sign_kind_stops (Word letters) e = refl
sign_kind_stops (Integer n) e = refl
sign_kind_stops (Mark b) e = grind (arith, nat_tests)

sign_stops : (us : List Token) → head_is is_sign us ≡ true → IsStopAt term_stop us
sign_stops [] e = refl
sign_stops (t ∷ us) e = ended (has_mark star) (t ∷ us) (sign_kind_stops t.kind e)

one_term : (us : List Token) → TermRule (a us) us named
one_term us = atom (one_atom us)

-- a sign is + or -
sign_of_kind : (k : Kind) → is_sign k ≡ true → (s : Bool) × (k ≡ Mark (sign_mark s))
sign_of_kind k e = go (has_mark plus k) refl
  where
    or_false : (b c : Bool) → b ≡ false → (b || c) ≡ true → c ≡ true
    or_false true c f g = absurd cc
    or_false false c f g = g

    go : (b : Bool) → has_mark plus k ≡ b → (s : Bool) × (k ≡ Mark (sign_mark s))
    go true f = (true, mark_kind plus k f)
    go false f = (false, mark_kind minus k (or_false (has_mark plus k) (has_mark minus k) f e))

signed_front : (t : Token) → is_sign t.kind ≡ true → Front (Within Signed signed_depth 1) term_stop (t ∷ [])
signed_front t e =
    let s = sign_of_kind t.kind e in
    record {
      more = a [];
      value = (s.0, named);
      is = λ rest end.
          record { is = record { first = s.0; between = a rest; left = token_made t (Mark (sign_mark s.0)) _ s.1; right = record { from = named; is = one_term rest; value = refl } }; fits = omega arith };
    }

looping_sums : Looping Signed signed_depth plus_or_minus is_sign term_stop sum_stop
looping_sums = record {
  join_deep = λ v x. refl;
  starts_item = λ ts us x t. token_begins is_sign (Mark (sign_mark t.first)) true ts t.between t.left (sign_is t.first);
  apart = no_sign;
  weaken = λ us e. ended (has_mark star) us (no_star us e);
  starts_stop = sign_stops;
  end = refl;
  opens = signed_front;
}

signed_to : (k : ℕ) (ts us : List Token) (y : Bool × Deep) → Then Signs (λ s. Mapped (λ x. (s, x)) (Terms k)) ts us y → Within Signed signed_depth k ts us y
signed_to k ts us y t =
    let f = t.right.is.fits in
    let e = ap (λ z. z.1.1) t.right.value in
    record { is = record { first = t.first; between = t.between; left = t.left; right = record { from = t.right.from; is = t.right.is.is; value = t.right.value } }; fits = omega arith }

signed_from : (k : ℕ) (ts us : List Token) (y : Bool × Deep) → Within Signed signed_depth k ts us y → Then Signs (λ s. Mapped (λ x. (s, x)) (Terms k)) ts us y
signed_from k ts us y t =
    let f = t.fits in
    let e = ap (λ z. z.1.1) t.is.right.value in
    record { first = t.is.first; between = t.is.between; left = t.is.left; right = record { from = t.is.right.from; is = record { is = t.is.right.is; fits = omega arith }; value = t.is.right.value } }

exact_signed : (k k' : ℕ) (one one' : List Token → Reading Deep) → Exact (Terms k) (Terms k') term_stop one one' → Exact (Within Signed signed_depth k) (Within Signed signed_depth k') term_stop (signed_term_at one) (signed_term_at one')
unfolding signed_term_at
exact_signed k k' one one' e = exact_same (signed_to k) (signed_from k) (signed_to k') (signed_from k') (exact_next exact_sign (λ s. exact_mapped (λ x. (s, x)) e))

read_signed : (k : ℕ) (one : List Token → Reading Deep) → IsRead TermRule depth_of k term_stop one → IsRead Signed signed_depth k term_stop (signed_term_at one)
unfolding signed_term_at
read_signed k one read ts us y t fits end =
    let e = ap (λ z. z.1.1) t.right.value in
    rw (exact_sign.all ts t.between t.first t.left refl, read t.between us t.right.from t.right.is (omega arith) end, t.right.value) refl

signed_ends : (one : List Token → Reading Deep) → ((ts us : List Token) (v : Deep) → one ts ≡ Ok (v, us) → IsStopAt term_stop us) → (ts us : List Token) (y : Bool × Deep) → signed_term_at one ts ≡ Ok (y, us) → IsStopAt term_stop us
unfolding signed_term_at
signed_ends one ends ts us y read = when_ok {A = Bool × List Token} _ _ (y, us) read (λ s first others. when_ok {A = Deep × List Token} _ _ (y, us) others (λ x second made.
    ends s.1 us x.0 (second ∙ ap (λ z. Ok (x.0, z)) (ap (λ z. z.1) (ok_same ((s.0, x.0), x.1) (y, us) made)))))

-- ---- sums

sum_joined : (s : Bool) (ts ms vs us : List Token) (v x : Deep) → SumRule ts ms v → Signs ms vs s → TermRule vs us x → SumRule ts us (plus_or_minus v (s, x))
sum_joined true ts ms vs us v x m i t = sum m i t
sum_joined false ts ms vs us v x m i t = difference m i t

tail_sum : {v w : Deep} {ms us : List Token} → Tail Signed plus_or_minus v ms us w → (ts : List Token) → SumRule ts ms v → SumRule ts us w
tail_sum stays ts m = m
tail_sum (goes {v = v} {ts = ms} {ms = us} {x = x} p t) ts m =
    let made = sum_joined p.first ts ms p.between us v p.right.from m p.left p.right.is in
    tail_sum t ts (subst (λ z. SumRule ts us (plus_or_minus v z)) (sym p.right.value) made)

record SumBegun (ts us : List Token) (v : Deep) : Type 0 where
  first : Deep
  between : List Token
  is : TermRule ts between first
  tail : Tail Signed plus_or_minus first between us v

sum_begun : {ts us : List Token} {e : Expression} {d : ℕ} → Summed ts us e d → SumBegun ts us (e, d)
sum_begun (term {b = b} {e = e} {d = d} m) = record { first = (e, d); between = b; is = m; tail = stays }
sum_begun (sum {c = c} {f = f} {g = g} m s x) = let b = sum_begun m in record { first = b.first; between = b.between; is = b.is; tail = tail_snoc b.tail {x = (true, (f, g))} (record { first = true; between = c; left = s; right = record { from = (f, g); is = x; value = refl } }) }
sum_begun (difference {c = c} {f = f} {g = g} m s x) = let b = sum_begun m in record { first = b.first; between = b.between; is = b.is; tail = tail_snoc b.tail {x = (false, (f, g))} (record { first = false; between = c; left = s; right = record { from = (f, g); is = x; value = refl } }) }

sum_to : (room : ℕ) (ts us : List Token) (v : Deep) → Then (Terms room) (λ x. Loop Signed plus_or_minus room x) ts us v → Sums room ts us v
sum_to room ts us v t = record { is = tail_sum t.right.is ts (term t.left.is); fits = t.right.fits }

sum_from : (room : ℕ) (ts us : List Token) (v : Deep) → Sums room ts us v → Then (Terms room) (λ x. Loop Signed plus_or_minus room x) ts us v
sum_from room ts us v t =
    let b = sum_begun t.is in
    let h = tail_deep looping_sums b.tail in
    let f = t.fits in
    record { first = b.first; between = b.between; left = record { is = b.is; fits = omega arith }; right = record { is = b.tail; fits = f } }

tail_term_stop : {v w : Deep} {ts us : List Token} → Tail Signed plus_or_minus v ts us w → IsStopAt sum_stop us → IsStopAt term_stop ts
tail_term_stop (stays {ts = ts}) e = ended (has_mark star) ts (no_star ts e)
tail_term_stop (goes {ts = ts} p t) e = sign_stops ts (token_begins is_sign (Mark (sign_mark p.first)) true ts p.between p.left (sign_is p.first))

pub exact_sum : (room room' : ℕ) (i i' l l' o o' : List Token → Reading Deep) → Roomy room room' i i' → (2 ≤ room → Roomy (room - 1) (room' - 1) l l') → (3 ≤ room → Roomy (room - 1 - 1) (room' - 1 - 1) o o')
    → IsRead SumRule depth_of (room' - 1 - 1) sum_stop l' → IsRead SumRule depth_of (room' - 1 - 1 - 1) sum_stop o' → Exact (Sums room) (Sums room') sum_stop (sum_with i l o room) (sum_with i' l' o' room')
unfolding sum_with
exact_sum room room' i i' l l' o o' r below lowest read read' =
    let signed = read_signed (room' - 1) (term_with l' o' (room' - 1)) (complete_term (room' - 1) l' o' read read') in
    let exact : 2 ≤ room → Exact (Terms (room - 1)) (Terms (room' - 1)) term_stop (term_with l o (room - 1)) (term_with l' o' (room' - 1)) =
    λ h. exact_term (room - 1) (room' - 1) l l' o o' (below h) (λ k. lowest (omega arith)) read' in
    exact_same (sum_to room) (sum_from room) (sum_to room') (sum_from room')
    (exact_bind (exact_term room room' i i' l l' r below read) (record {
      exact = λ ts us x t. let f = t.fits in exact_loop room room' r.further looping_sums (λ h. exact_signed (room - 1) (room' - 1) (term_with l o (room - 1)) (term_with l' o' (room' - 1)) (exact h)) signed
          (signed_ends (term_with l o (room - 1)) (term_ends l o (room - 1))) room room' x (multiplied_deep t.is) f (omega arith) (omega arith);
      some = λ ts us x t. stay_front Signed plus_or_minus room' x sum_stop t.fits;
      all = λ ts us x t ms vs w y a. complete_loop (signed_term_at (term_with l' o' (room' - 1))) room' looping_sums signed room' y.is y.fits (omega arith) a;
    }) (term_ends i l room) (record { is = λ x ms us y t a. tail_term_stop t.is a; end = refl }))

pub complete_sum : (room : ℕ) (i l o : List Token → Reading Deep) → IsRead SumRule depth_of (room - 1) sum_stop i → IsRead SumRule depth_of (room - 1 - 1) sum_stop l → IsRead SumRule depth_of (room - 1 - 1 - 1) sum_stop o → IsRead SumRule depth_of room sum_stop (sum_with i l o room)
unfolding sum_with
complete_sum room i l o read read' read'' ts us v is fits a =
    let t = sum_from room ts us v (record { is = is; fits = fits }) in
    let signed = read_signed (room - 1) (term_with l o (room - 1)) (complete_term (room - 1) l o read' read'') in
    let one = complete_term room i l read read' ts t.between t.first t.left.is t.left.fits (tail_term_stop t.right.is a) in
    let others = complete_loop (signed_term_at (term_with l o (room - 1))) room looping_sums signed room t.right.is t.right.fits (omega arith) a in
    rw one others

pub sum_ends : (i l o : List Token → Reading Deep) (room : ℕ) (ts us : List Token) (v : Deep) → sum_with i l o room ts ≡ Ok (v, us) → IsStopAt sum_stop us
unfolding sum_with
sum_ends i l o room ts us v read = when_ok {A = Deep × List Token} (term_with i l room ts) (λ x. loop_at is_sign (signed_term_at (term_with l o (room - 1))) plus_or_minus room room x.0 x.1) (v, us) read (λ x first others.
    let e = loop_ends is_sign (signed_term_at (term_with l o (room - 1))) plus_or_minus room term_stop (signed_ends (term_with l o (room - 1)) (term_ends l o (room - 1))) room x.0 v x.1 us (term_ends i l room ts x.1 x.0 first) others in
    no_operator us e.0 e.1)
