-- Numbers that are read by `parse`.
use Rattle.std.proofs.Common.{◌≡◌, ℕ, ◌<◌, ◌≤◌, ◌^◌, Bool, true, false, ◌&&◌, ◌||◌, cond, List, [], ◌∷◌, length, Option, Some, None, Result, Ok, Err, refl, sym, ap, subst, ◌∙◌, arith}
use Rattle.std.specs.Prelude.{nat_le, not, ◌==◌, OkIff}
use Rattle.std.specs.List.{list_all}
use Rattle.std.specs.Char.{is_ascii_digit}
use Rattle.std.specs.Str.{all_ascii_digits}
use Rattle.std.specs.Str.Parse.{ParsesUnsigned, digits_value}
use Rattle.std.proofs.lemmas.Bool.{leb-true, leb-false, false≢true}
use Rattle.std.proofs.lemmas.Str.Parse.{IsNumeralModel, numerals_by_value, tells_all_ascii_digits, parse_digits}
use Rattle.roc_cli_words.specs.Values.{is_plain_number, number_within}

are_digits : (text : List ℕ) → list_all is_ascii_digit text ≡ all_ascii_digits text
are_digits [] = refl
are_digits (d ∷ ds) = ap (λ b. is_ascii_digit d && b) (are_digits ds)

first_holds : (a b : Bool) → (a && b) ≡ true → a ≡ true
first_holds true b e = refl
first_holds false b e = e

plain_digits : (text : List ℕ) → is_plain_number text ≡ true → (0 < length text) × (all_ascii_digits text ≡ true)
plain_digits [] e = absurd (false≢true e)
plain_digits (d ∷ ds) e = (omega arith, sym (are_digits (d ∷ ds)) ∙ first_holds (list_all is_ascii_digit (d ∷ ds)) (length ds == 0 || not (d == 48)) e)

-- what a plain number is in its range
abbrev within : (least most n : ℕ) → Option ℕ
within least most n = cond (nat_le least n && nat_le n most) (Some n) None

pub unplain : (least most : ℕ) (text : List ℕ) → is_plain_number text ≡ false → None ≡ number_within least most text
unfolding number_within
unplain least most text e = ap (λ b. cond (b && (nat_le least (digits_value 10 text) && nat_le (digits_value 10 text) most)) (Some (digits_value 10 text)) None) (sym e)

pub plain : (least most : ℕ) (text : List ℕ) → is_plain_number text ≡ true → within least most (digits_value 10 text) ≡ number_within least most text
unfolding number_within
plain least most text e = ap (λ b. cond (b && (nat_le least (digits_value 10 text) && nat_le (digits_value 10 text) most)) (Some (digits_value 10 text)) None) (sym e)

own : IsNumeralModel (λ ds. all_ascii_digits ds ≡ true) (digits_value 10)
own = numerals_by_value _ tells_all_ascii_digits

-- what `parse` says of a plain number
parsed : {E : Type 0} (text : List ℕ) (r : Result ℕ E) → ParsesUnsigned 64 10 text r → is_plain_number text ≡ true → OkIff r ((0 < length text) × (digits_value 10 text < 2 ^ 64)) (digits_value 10 text)
parsed text r h p = parse_digits own 64 text r h (plain_digits text p).1

-- it gives the number
number_read : {E : Type 0} (text : List ℕ) (r : Result ℕ E) (n : ℕ) → ParsesUnsigned 64 10 text r → r ≡ Ok n → is_plain_number text ≡ true → digits_value 10 text ≡ n
number_read text r n h is p =
    let gives = subst (λ x. OkIff x ((0 < length text) × (digits_value 10 text < 2 ^ 64)) (digits_value 10 text)) is (parsed text r h p) in
    sym gives.1

too_great : (least most n : ℕ) → most < n → within least most n ≡ None
too_great least most n h = go (nat_le least n) (nat_le n most) refl
  where
    go : (a b : Bool) → nat_le n most ≡ b → cond (a && b) (Some n) None ≡ None
    go a true e = absurd (let fits = leb-true n most e in omega (arith, fits, h))
    go true false e = refl
    go false false e = refl

-- in its range
pub read : {E : Type 0} (least most : ℕ) (text : List ℕ) (r : Result ℕ E) (n : ℕ) → ParsesUnsigned 64 10 text r → r ≡ Ok n → is_plain_number text ≡ true
    → within least most n ≡ number_within least most text
read least most text r n h is p = ap (within least most) (sym (number_read text r n h is p)) ∙ plain least most text p

-- or nothing, where it does not fit 64 bits
pub unread : {E : Type 0} (least most : ℕ) (text : List ℕ) (r : Result ℕ E) (e : E) → ParsesUnsigned 64 10 text r → r ≡ Err e → is_plain_number text ≡ true → most < 2 ^ 64
    → None ≡ number_within least most text
unread least most text r e h is p fits = sym (too_great least most (digits_value 10 text) (go (nat_le (digits_value 10 text) most) refl)) ∙ plain least most text p
  where
    fails : (0 < length text) × (digits_value 10 text < 2 ^ 64) → ⊥
    fails = subst (λ x. OkIff x ((0 < length text) × (digits_value 10 text < 2 ^ 64)) (digits_value 10 text)) is (parsed text r h p)

    go : (b : Bool) → nat_le (digits_value 10 text) most ≡ b → most < digits_value 10 text
    go true small = absurd (fails ((plain_digits text p).0, let le = leb-true (digits_value 10 text) most small in omega (arith, le, fits)))
    go false great = leb-false (digits_value 10 text) most great

-- ---- the three ways in which a number is tested

pub inside : (least most n : ℕ) → least ≤ n → n ≤ most → Some n ≡ within least most n
inside least most n low high = go (nat_le least n) (nat_le n most) refl refl
  where
    go : (a b : Bool) → nat_le least n ≡ a → nat_le n most ≡ b → Some n ≡ cond (a && b) (Some n) None
    go true true e f = refl
    go true false e f = absurd (let above = leb-false n most f in omega (arith, above, high))
    go false b e f = absurd (let below = leb-false least n e in omega (arith, below, low))

pub above : (least most n : ℕ) → most < n → None ≡ within least most n
above least most n h = sym (too_great least most n h)

pub below : (least most n : ℕ) → n < least → None ≡ within least most n
below least most n h = go (nat_le least n) (nat_le n most) refl
  where
    go : (a b : Bool) → nat_le least n ≡ a → None ≡ cond (a && b) (Some n) None
    go true b e = absurd (let low = leb-true least n e in omega (arith, low, h))
    go false b e = refl
