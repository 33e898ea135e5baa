-- Exact readers of several with commas between.
use Rattle.std.proofs.Common.{◌≡◌, ℕ, ◌+◌, ◌<◌, ◌≤◌, Bool, true, false, List, [], ◌∷◌, ◌++◌, length, refl, sym, ap, subst, ◌∙◌, arith}
use Rattle.std.specs.Prelude.{Ok, ◌||◌}
use Rattle.roc_lang.specs.Tokens.{Kind, Mark, Token}
use Rattle.roc_lang.specs.Grammar.{Each, none, first, Separated, last, more, comma}
use Rattle.roc_lang_parse.specs.Stuck.{Reading, head_is}
use Rattle.roc_lang_parse.specs.Parts.{has_mark, mark_at, behind_comma_at, separated_at}
use Rattle.roc_lang_parse.proofs.Exact.{Rule, Stop, IsStopAt, any, Front, Exact, Then, exact_next, bind_ends, some_any}
use Rattle.roc_lang_parse.proofs.Choices.{exact_same}
use Rattle.roc_lang_parse.proofs.Several.{other_than, ended, unended, Repeats, Some', exact_some, some_ends, some_follow}
use Rattle.roc_lang_parse.proofs.Terminals.{Tokens, exact_mark, mark_kind, token_made, token_begins}

abbrev pub BehindComma : {A : Type 0} → Rule A → Rule A
BehindComma R = Then (Tokens (Mark comma)) (λ c. R)

pub exact_behind_comma : {A : Type 0} {In Any : Rule A} {stop : Stop} {item item' : List Token → Reading A} → Exact In Any stop item item' → Exact (BehindComma In) (BehindComma Any) stop (behind_comma_at item) (behind_comma_at item')
unfolding behind_comma_at
exact_behind_comma e = exact_next (exact_mark comma) (λ c. e)

pub behind_comma_ends : {A : Type 0} (item : List Token → Reading A) (stop : Stop) → ((ts us : List Token) (x : A) → item ts ≡ Ok (x, us) → IsStopAt stop us) → (ts us : List Token) (x : A) → behind_comma_at item ts ≡ Ok (x, us) → IsStopAt stop us
unfolding behind_comma_at
behind_comma_ends item stop ends = bind_ends (mark_at comma) (λ c. item) stop (λ c. ends)

-- what is asked of a rule with commas between: within is what may follow one, stop what may follow all
pub record Separable {A : Type 0} (In Any : Rule A) (within stop : Stop) (item item' : List Token → Reading A) : Type 0 where
  pub exact : Exact In Any within item item'
  pub ends : (ts us : List Token) (x : A) → item ts ≡ Ok (x, us) → IsStopAt within us
  pub apart : (us : List Token) → IsStopAt stop us → head_is (has_mark comma) us ≡ false
  pub weaken : (us : List Token) → IsStopAt stop us → IsStopAt within us
  pub comma_stop : (us : List Token) → head_is (has_mark comma) us ≡ true → IsStopAt within us
  pub end : IsStopAt within []

comma_front : {A : Type 0} {In Any : Rule A} {within : Stop} {item item' : List Token → Reading A} → Exact In Any within item item' → (t : Token) → has_mark comma t.kind ≡ true → Front (BehindComma Any) within (t ∷ [])
comma_front e t begun =
    let f = some_any e in
    record { more = f.more; value = f.value; is = λ rest end. record { first = tt; between = f.more ++ rest; left = token_made t (Mark comma) _ (mark_kind comma t.kind begun); right = f.is rest end } }

behind_repeat : {A : Type 0} {In Any : Rule A} {within stop : Stop} {item item' : List Token → Reading A} → Separable In Any within stop item item' → Repeats (BehindComma In) (BehindComma Any) (has_mark comma) within stop (behind_comma_at item) (behind_comma_at item')
behind_repeat {within = within} {item = item} s = record {
  exact = exact_behind_comma s.exact;
  ends = behind_comma_ends item within s.ends;
  starts_any = λ ts us x t. token_begins (has_mark comma) (Mark comma) true ts t.between t.left refl;
  apart = s.apart;
  weaken = s.weaken;
  starts_stop = s.comma_stop;
  end = s.end;
  opens = comma_front s.exact;
}

-- at most so many behind the first
pub record Few {A : Type 0} (R : Rule A) (n : ℕ) (ts us : List Token) (xs : List A) : Type 0 where
  pub is : Separated R ts us xs
  pub fits : length xs ≤ n + 1

separated : {A : Type 0} {R : Rule A} {ms us : List Token} {xs : List A} → Each (BehindComma R) ms us xs → {ts : List Token} {x : A} → R ts ms x → Separated R ts us (x ∷ xs)
separated none i = last i
separated (first t others) i = more i t.left (separated others t.right)

-- the first, and the others
pub record Parted {A : Type 0} (R : Rule A) (ts us : List Token) (xs : List A) : Type 0 where
  pub one : A
  pub between : List Token
  pub others : List A
  pub is : R ts between one
  pub each : Each (BehindComma R) between us others
  pub parts : xs ≡ one ∷ others

pub parted : {A : Type 0} {R : Rule A} {ts us : List Token} {xs : List A} → Separated R ts us xs → Parted R ts us xs
parted (last {b = b} {x = x} i) = record { one = x; between = b; others = []; is = i; each = none; parts = refl }
parted (more {b = b} {c = c} {x = x} i m s) =
    let p = parted s in
    record { one = x; between = b; others = p.one ∷ p.others; is = i; each = first (record { first = tt; between = c; left = m; right = p.is }) p.each; parts = ap (λ ns. x ∷ ns) p.parts }

few_to : {A : Type 0} (R : Rule A) (n : ℕ) (ts us : List Token) (xs : List A) → Some' R (BehindComma R) n ts us xs → Few R n ts us xs
few_to R n ts us xs t =
    let f = t.right.is.fits in
    let made : Few R n ts us (t.first ∷ t.right.from) = record { is = separated t.right.is.each t.left; fits = omega arith } in
    subst (λ z. Few R n ts us z) (sym t.right.value) made

few_from : {A : Type 0} (R : Rule A) (n : ℕ) (ts us : List Token) (xs : List A) → Few R n ts us xs → Some' R (BehindComma R) n ts us xs
few_from R n ts us xs i =
    let p = parted i.is in
    let f = i.fits in
    let l = ap length p.parts in
    record { first = p.one; between = p.between; left = p.is; right = record { from = p.others; is = record { each = p.each; fits = omega arith }; value = p.parts } }

pub exact_few : {A : Type 0} {In Any : Rule A} {within stop : Stop} {item item' : List Token → Reading A} → Separable In Any within stop item item' → (n n' : ℕ) → n < n' → Exact (Few In n) (Few Any n') stop (separated_at item n) (separated_at item' n')
exact_few {In = In} {Any = Any} s n n' lt = exact_same (few_to In n) (few_from In n) (few_to Any n') (few_from Any n') (exact_some s.exact s.ends (behind_repeat s) n n' lt)

-- ---- where anything may follow one of them

abbrev pub no_comma : Stop
no_comma = other_than (has_mark comma)

pub separable : {A : Type 0} {In Any : Rule A} {item item' : List Token → Reading A} → Exact In Any any item item' → Separable In Any any no_comma item item'
separable e = record { exact = e; ends = λ ts us x read. refl; apart = λ us a. unended (has_mark comma) us a; weaken = λ us a. refl; comma_stop = λ us a. refl; end = refl }

pub few_end : {A : Type 0} (item : List Token → Reading A) (n : ℕ) (ts us : List Token) (xs : List A) → separated_at item n ts ≡ Ok (xs, us) → IsStopAt no_comma us
few_end item n ts us xs read = ended (has_mark comma) us (some_ends (has_mark comma) item (behind_comma_at item) n ts us xs read)

-- ---- where some kinds may not

abbrev pub no_comma_or : (Kind → Bool) → Stop
no_comma_or test = other_than (λ k. has_mark comma k || test k)

first_false : (b c : Bool) → (b || c) ≡ false → b ≡ false
first_false true c e = absurd cc
first_false false c e = refl

second_false : (b c : Bool) → (b || c) ≡ false → c ≡ false
second_false true c e = absurd cc
second_false false c e = e

comma_apart : (test : Kind → Bool) (us : List Token) → IsStopAt (no_comma_or test) us → head_is (has_mark comma) us ≡ false
comma_apart test [] a = refl
comma_apart test (t ∷ us) a = first_false (has_mark comma t.kind) (test t.kind) (unended (λ k. has_mark comma k || test k) (t ∷ us) a)

comma_weaken : (test : Kind → Bool) (us : List Token) → IsStopAt (no_comma_or test) us → IsStopAt (other_than test) us
comma_weaken test [] a = refl
comma_weaken test (t ∷ us) a = ended test (t ∷ us) (second_false (has_mark comma t.kind) (test t.kind) (unended (λ k. has_mark comma k || test k) (t ∷ us) a))

comma_stops : (test : Kind → Bool) → test (Mark comma) ≡ false → (us : List Token) → head_is (has_mark comma) us ≡ true → IsStopAt (other_than test) us
comma_stops test e [] a = refl
comma_stops test e (t ∷ us) a = ended test (t ∷ us) (ap test (mark_kind comma t.kind a) ∙ e)

pub separable_apart : {A : Type 0} {In Any : Rule A} (test : Kind → Bool) {item item' : List Token → Reading A} → Exact In Any (other_than test) item item' → ((ts us : List Token) (x : A) → item ts ≡ Ok (x, us) → IsStopAt (other_than test) us) → test (Mark comma) ≡ false
    → Separable In Any (other_than test) (no_comma_or test) item item'
separable_apart test e ends c = record { exact = e; ends = ends; apart = comma_apart test; weaken = comma_weaken test; comma_stop = comma_stops test c; end = refl }

both_false : (b c : Bool) → b ≡ false → c ≡ false → (b || c) ≡ false
both_false true c e f = e
both_false false c e f = f

no_comma_or_kind : (test : Kind → Bool) (us : List Token) → head_is (has_mark comma) us ≡ false → IsStopAt (other_than test) us → IsStopAt (no_comma_or test) us
no_comma_or_kind test [] c a = refl
no_comma_or_kind test (t ∷ us) c a = ended (λ k. has_mark comma k || test k) (t ∷ us) (both_false (has_mark comma t.kind) (test t.kind) c (unended test (t ∷ us) a))

pub few_end_apart : {A : Type 0} (test : Kind → Bool) (item : List Token → Reading A) → ((ts us : List Token) (x : A) → item ts ≡ Ok (x, us) → IsStopAt (other_than test) us)
    → (n : ℕ) (ts us : List Token) (xs : List A) → separated_at item n ts ≡ Ok (xs, us) → IsStopAt (no_comma_or test) us
few_end_apart test item ends n ts us xs read =
    no_comma_or_kind test us (some_ends (has_mark comma) item (behind_comma_at item) n ts us xs read) (some_follow (has_mark comma) item (behind_comma_at item) (other_than test) ends (behind_comma_ends item (other_than test) ends) n ts us xs read)
