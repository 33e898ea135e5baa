-- What is written of a number is read as it.
use Rattle.std.proofs.Common.{◌≡◌, ℕ, suc, ℤ, pos, ◌+◌, ◌-◌, ◌*◌, ◌/◌, ◌%◌, ◌^◌, ◌<◌, ◌≤◌, Bool, true, false, not, ◌&&◌, ◌||◌, ◌==◌, cond, List, [], ◌∷◌, ◌++◌, length, map, Some, FitsSigned, w64, refl, ap, ◌∙◌, arith}
use Rattle.std.specs.Prelude.{negsuc, neg_ℤ}
use Rattle.std.specs.List.{AllByRecursion, list_all}
use Rattle.std.specs.Option.{option_map}
use Rattle.std.specs.Char.{is_ascii_digit}
use Rattle.std.specs.Fmt as fmt
use Rattle.std.proofs.lemmas.Bool.{eqb-true, le-leb}
use Rattle.std.proofs.lemmas.Bool.Decides.{nat_tests}
use Rattle.std.proofs.lemmas.Int.{ints}
use Rattle.std.proofs.lemmas.List.Sums.{fold-append}
use Rattle.std.proofs.lemmas.Fmt.{decimal_by_steps}
use Rattle.roc_sequence.proofs.Holds.{all_pass}
use Rattle.roc_lang.specs.Tokens.{decimal}
use Rattle.roc_lang.proofs.Digits.{digit}
use Rattle.roc_sched.specs.Each.{each}
use Rattle.roc_sched.specs.Lines.{is_empty}
use Rattle.roc_sched.specs.Numbers.{is_decimal, number_up_to, integer_of}

-- ---- digits

abbrev onto : ℕ → ℕ → ℕ
onto n d = n * 10 + (d - 48)

abbrev pub AllDigits : List ℕ → Type 0
AllDigits ds = AllByRecursion (λ c. is_ascii_digit c ≡ true) ds

-- a first digit 0 stands alone, and spells 0
abbrev Leads : ℕ → List ℕ → Type 0
Leads n [] = ⊥
Leads n (d ∷ ds) = d ≡ 48 → (n ≡ 0) × (ds ≡ [])

pub record Spells (n : ℕ) (ds : List ℕ) : Type 0 where
  pub all : AllDigits ds
  pub leads : Leads n ds
  pub value : decimal ds ≡ n

one_more : (ds : List ℕ) (d : ℕ) → AllDigits ds → is_ascii_digit d ≡ true → AllDigits (ds ++ d ∷ [])
one_more [] d all is = (is, tt)
one_more (c ∷ ds) d all is = (all.0, one_more ds d all.1 is)

still_leads : (m n : ℕ) (ds : List ℕ) (d : ℕ) → (m ≡ 0 → ⊥) → Leads m ds → Leads n (ds ++ d ∷ [])
still_leads m n [] d positive leads = absurd leads
still_leads m n (c ∷ ds) d positive leads = λ z. absurd (positive (leads z).0)

pub spells : (n : ℕ) → n < 2 ^ 64 → Spells n (fmt.decimal n)
spells n small = decimal_by_steps (λ m ds. Spells m ds) one more n small
  where
    one : (m : ℕ) → m < 10 → Spells m ((48 + m) ∷ [])
    one m h = record { all = (digit m h, tt); leads = λ z. (omega arith, refl); value = omega arith }

    more : (m : ℕ) (ds : List ℕ) → 10 ≤ m → Spells (m / 10) ds → Spells m (ds ++ (48 + m % 10) ∷ [])
    more m ds h s =
        let last : m % 10 < 10 = omega arith in
        let positive : m / 10 ≡ 0 → ⊥ = λ z. omega arith in
        let whole : onto (m / 10) (48 + m % 10) ≡ m = omega arith in
        record {
          all = one_more ds (48 + m % 10) s.all (digit (m % 10) last);
          leads = still_leads (m / 10) m ds (48 + m % 10) positive s.leads;
          value = fold-append onto 0 ds ((48 + m % 10) ∷ []) ∙ ap (λ k. onto k (48 + m % 10)) s.value ∙ whole;
        }

-- ---- numbers

some_bytes : (b : ℕ) (bytes : List ℕ) → is_empty (b ∷ bytes) ≡ false
some_bytes b bytes = go (is_empty (b ∷ bytes)) refl
  where
    go : (t : Bool) → is_empty (b ∷ bytes) ≡ t → t ≡ false
    go true e = absurd (let none = eqb-true (length (b ∷ bytes)) 0 e in omega arith)
    go false e = refl

is_number : (n : ℕ) (word : List ℕ) → Spells n word → is_decimal word ≡ true
is_number n [] s = absurd s.leads
is_number n (d ∷ []) s = rw (s.all.0) refl
is_number n (d ∷ e ∷ ds) s = rw (some_bytes e ds) (go (d == 48) refl)
  where
    go : (b : Bool) → (d == 48) ≡ b → (list_all is_ascii_digit (d ∷ e ∷ ds) && (false || not b)) ≡ true
    go true h = absurd (let none : e ∷ ds ≡ [] = (s.leads (eqb-true d 48 h)).1 in let k = ap length none in omega arith)
    go false h = rw (all_pass is_ascii_digit (d ∷ e ∷ ds) s.all) refl

pub number_read : (greatest n : ℕ) → n ≤ greatest → n < 2 ^ 64 → number_up_to greatest (fmt.decimal n) ≡ Some n
unfolding number_up_to
number_read greatest n fits small =
    let s = spells n small in
    rw (is_number n (fmt.decimal n) s, s.value, le-leb n greatest fits) refl

-- ---- integers

digit_above : (d : ℕ) → is_ascii_digit d ≡ true → 47 < d
digit_above d h = grind (arith, nat_tests)

plain_read : (word : List ℕ) (n : ℕ) → Spells n word → number_up_to 9223372036854775807 word ≡ Some n → integer_of word ≡ Some (pos n)
unfolding integer_of
plain_read [] n s e = absurd s.leads
plain_read (b ∷ bs) n s e = go (b == 45) refl
  where
    go : (t : Bool) → (b == 45) ≡ t → cond t (option_map (λ n. neg_ℤ (pos n)) (number_up_to 9223372036854775808 bs)) (option_map pos (number_up_to 9223372036854775807 (b ∷ bs))) ≡ Some (pos n)
    go true h = absurd (let high = digit_above b s.all.0 in let same = eqb-true b 45 h in omega arith)
    go false h = ap (option_map pos) e

magnitude : (n : ℕ) → FitsSigned w64 (pos n) → n < 2 ^ 63
magnitude n h = omega (arith, ints)

negative_magnitude : (n : ℕ) → FitsSigned w64 (negsuc n) → suc n ≤ 2 ^ 63
negative_magnitude n h = omega (arith, ints)

negative_read : (n : ℕ) → suc n ≤ 2 ^ 63 → integer_of (45 ∷ fmt.decimal (suc n)) ≡ Some (negsuc n)
unfolding integer_of
negative_read n fits = ap (option_map (λ m. neg_ℤ (pos m))) (number_read 9223372036854775808 (suc n) (omega (arith, fits)) (omega (arith, fits)))

pub integer_read : (z : ℤ) → FitsSigned w64 z → integer_of (fmt.signed_decimal z) ≡ Some z
integer_read (pos n) h = let small = magnitude n h in plain_read (fmt.decimal n) n (spells n (omega (arith, small))) (number_read 9223372036854775807 n (omega (arith, small)) (omega (arith, small)))
integer_read (negsuc n) h = negative_read n (negative_magnitude n h)

pub integers_read : (args : List ℤ) → AllByRecursion (FitsSigned w64) args → each integer_of (map fmt.signed_decimal args) ≡ Some args
integers_read [] all = refl
integers_read (z ∷ args) all = rw (integer_read z all.0, integers_read args all.1) refl

-- ---- what they are written with

-- each byte is above this one
abbrev pub AllAbove : ℕ → List ℕ → Type 0
AllAbove least bytes = AllByRecursion (λ b. least < b) bytes

digits_above : (ds : List ℕ) → AllDigits ds → AllAbove 46 ds
digits_above [] all = tt
digits_above (d ∷ ds) all = ((let high = digit_above d all.0 in omega (arith, high)), digits_above ds all.1)

pub decimal_above : (n : ℕ) → n < 2 ^ 64 → AllAbove 46 (fmt.decimal n)
decimal_above n small = digits_above (fmt.decimal n) (spells n small).all

pub above_less : (least less : ℕ) (bytes : List ℕ) → less ≤ least → AllAbove least bytes → AllAbove less bytes
above_less least less [] h all = tt
above_less least less (b ∷ bytes) h all = ((let one = all.0 in omega (arith, one, h)), above_less least less bytes h all.1)

integer_above : (z : ℤ) → FitsSigned w64 z → AllAbove 32 (fmt.signed_decimal z)
integer_above (pos n) h = let small = magnitude n h in above_less 46 32 (fmt.decimal n) (omega arith) (decimal_above n (omega (arith, small)))
integer_above (negsuc n) h = let small = negative_magnitude n h in (omega arith, above_less 46 32 (fmt.decimal (suc n)) (omega arith) (decimal_above (suc n) (omega (arith, small))))

pub integers_above : (args : List ℤ) → AllByRecursion (FitsSigned w64) args → AllByRecursion (AllAbove 32) (map fmt.signed_decimal args)
integers_above [] all = tt
integers_above (z ∷ args) all = (integer_above z all.0, integers_above args all.1)
