-- Digits one after the other, as a loop reads them.
use Rattle.std.proofs.Common.{◌≡◌, ℕ, ◌+◌, ◌-◌, ◌*◌, ◌≤◌, Bool, true, false, ◌&&◌, cond, List, [], ◌∷◌, length, drop, Option, Some, None, refl, sym, ap, ◌∙◌, arith}
use Rattle.std.specs.Prelude.{nat_le}
use Rattle.std.specs.List.{fold, list_all}
use Rattle.std.specs.Char.{is_ascii_digit}
use Rattle.std.proofs.Math.ListN.{drop_of_length-le}
use Rattle.std.proofs.lemmas.Bool.{leb-true, leb-false, false≢true}
use Rattle.std.proofs.lemmas.Option.{same_Some, none-some}
use Rattle.roc_lang.specs.Tokens.{decimal}
use Rattle.roc_sched.specs.Numbers.{is_decimal, number_up_to}
use Rattle.roc_sched.specs.Inner.Reading.{with_digit, digits_onto, begins_number}

-- more digits make no smaller number
pub grows : (n : ℕ) (digits : List ℕ) → n ≤ fold with_digit n digits
grows n [] = omega arith
grows n (d ∷ ds) = let more = grows (with_digit n d) ds in omega (arith, more)

-- what one digit more gives
abbrev pub one_more : (greatest value d : ℕ) → Option ℕ
one_more greatest value d = cond (is_ascii_digit d && nat_le (value * 10 + (d - 48)) greatest) (Some (value * 10 + (d - 48))) None

-- a digit that was read: the others go on from its number
pub digit_goes_on : (greatest value next d : ℕ) (ds : List ℕ) → one_more greatest value d ≡ Some next → (digits_onto greatest value (d ∷ ds) ≡ digits_onto greatest next ds) × (next ≤ greatest)
digit_goes_on greatest value next d ds e = go (is_ascii_digit d) (nat_le (with_digit value d) greatest) refl refl e
  where
    go : (p q : Bool) → is_ascii_digit d ≡ p → nat_le (with_digit value d) greatest ≡ q → cond (p && q) (Some (with_digit value d)) None ≡ Some next → (digits_onto greatest value (d ∷ ds) ≡ digits_onto greatest next ds) × (next ≤ greatest)
    go true true hp hq is =
        let same : with_digit value d ≡ next = same_Some (with_digit value d) next is in
        let fits = leb-true (with_digit value d) greatest hq in
        (rw hp (ap (λ n. digits_onto greatest n ds) same), omega (arith, fits, same))
    go true false hp hq is = absurd (none-some next is)
    go false q hp hq is = absurd (none-some next is)

-- one that was not
pub digit_stops : (greatest value d : ℕ) (ds : List ℕ) → one_more greatest value d ≡ None → digits_onto greatest value (d ∷ ds) ≡ None
digit_stops greatest value d ds e = go (is_ascii_digit d) (nat_le (with_digit value d) greatest) refl refl e
  where
    past : (p : Bool) → nat_le (fold with_digit (with_digit value d) ds) greatest ≡ p → nat_le (with_digit value d) greatest ≡ false → digits_onto greatest value (d ∷ ds) ≡ None
    past true h hq =
        let more = grows (with_digit value d) ds in
        let fits = leb-true (fold with_digit (with_digit value d) ds) greatest h in
        let above = leb-false (with_digit value d) greatest hq in
        absurd (omega (arith, more, fits, above))
    past false h hq = too_great (is_ascii_digit d && list_all is_ascii_digit ds)
      where
        too_great : (b : Bool) → cond (b && nat_le (fold with_digit (with_digit value d) ds) greatest) (Some (fold with_digit (with_digit value d) ds)) None ≡ None
        too_great true = rw h refl
        too_great false = refl

    go : (p q : Bool) → is_ascii_digit d ≡ p → nat_le (with_digit value d) greatest ≡ q → cond (p && q) (Some (with_digit value d)) None ≡ None → digits_onto greatest value (d ∷ ds) ≡ None
    go true true hp hq is = absurd (none-some (with_digit value d) (sym is))
    go true false hp hq is = past (nat_le (fold with_digit (with_digit value d) ds) greatest) refl hq
    go false q hp hq is = rw hp refl

-- behind the last digit
pub digits_end : (greatest value i : ℕ) (digits : List ℕ) → length digits ≤ i → value ≤ greatest → digits_onto greatest value (drop i digits) ≡ Some value
digits_end greatest value i digits past fits =
    let nothing : drop i digits ≡ [] = drop_of_length-le digits past in
    ap (λ ds. digits_onto greatest value ds) nothing ∙ go (nat_le value greatest) refl
  where
    go : (b : Bool) → nat_le value greatest ≡ b → cond b (Some value) None ≡ Some value
    go true h = refl
    go false h = absurd (let above = leb-false value greatest h in omega (arith, above, fits))

-- ---- a whole word

begun : (a b : Bool) → b ≡ true → (a && b) ≡ a
begun true b h = h
begun false b h = refl

not_begun : (a b : Bool) → b ≡ false → (a && b) ≡ false
not_begun true b h = h
not_begun false b h = refl

decimal_tests : (word : List ℕ) → begins_number word ≡ true → is_decimal word ≡ list_all is_ascii_digit word
decimal_tests [] h = absurd (false≢true h)
decimal_tests (d ∷ ds) h = begun (list_all is_ascii_digit (d ∷ ds)) (begins_number (d ∷ ds)) h

decimal_fails : (word : List ℕ) → begins_number word ≡ false → is_decimal word ≡ false
decimal_fails [] h = refl
decimal_fails (d ∷ ds) h = not_begun (list_all is_ascii_digit (d ∷ ds)) (begins_number (d ∷ ds)) h

pub number_begun : (greatest : ℕ) (word : List ℕ) → begins_number word ≡ true → digits_onto greatest 0 word ≡ number_up_to greatest word
unfolding number_up_to
number_begun greatest word h = ap (λ b. cond (b && nat_le (decimal word) greatest) (Some (decimal word)) None) (sym (decimal_tests word h))

pub number_not_begun : (greatest : ℕ) (word : List ℕ) → begins_number word ≡ false → None ≡ number_up_to greatest word
unfolding number_up_to
number_not_begun greatest word h = ap (λ b. cond (b && nat_le (decimal word) greatest) (Some (decimal word)) None) (sym (decimal_fails word h))
