-- What is written of a number is an integer of it.
use Rattle.std.proofs.Common.{◌≡◌, ℕ, ◌+◌, ◌-◌, ◌*◌, ◌/◌, ◌%◌, ◌^◌, ◌<◌, ◌≤◌, List, [], ◌∷◌, ◌++◌, IsTrue, refl, sym, ap, subst, ◌∙◌, arith}
use Rattle.std.specs.List.{AllByRecursion}
use Rattle.std.specs.Char.{is_ascii_digit}
use Rattle.std.specs.Fmt as fmt
use Rattle.std.proofs.lemmas.List.Sums.{fold-append}
use Rattle.std.proofs.lemmas.Fmt.{decimal_by_steps}
use Rattle.roc_lang.specs.Tokens.{decimal, IsDecimal}
use Rattle.roc_lang.proofs.Digits.{digit}

abbrev onto : ℕ → ℕ → ℕ
onto n d = n * 10 + (d - 48)

abbrev AllDigits : List ℕ → Type 0
AllDigits ds = AllByRecursion (λ c. IsTrue (is_ascii_digit c)) ds

-- a first digit 0 stands alone, and spells 0
abbrev Leads : ℕ → List ℕ → Type 0
Leads n [] = ⊥
Leads n (d ∷ ds) = d ≡ 48 → (n ≡ 0) × (ds ≡ [])

record Spells (n : ℕ) (ds : List ℕ) : Type 0 where
  all : AllDigits ds
  leads : Leads n ds
  value : decimal ds ≡ n

one_more : (ds : List ℕ) (d : ℕ) → AllDigits ds → IsTrue (is_ascii_digit d) → AllDigits (ds ++ d ∷ [])
one_more [] d all is = (is, tt)
one_more (c ∷ ds) d all is = (all.0, one_more ds d all.1 is)

still_leads : (m n : ℕ) (ds : List ℕ) (d : ℕ) → (m ≡ 0 → ⊥) → Leads m ds → Leads n (ds ++ d ∷ [])
still_leads m n [] d positive leads = absurd leads
still_leads m n (c ∷ ds) d positive leads = λ z. absurd (positive (leads z).0)

spells : (n : ℕ) → n < 2 ^ 64 → Spells n (fmt.decimal n)
spells n small = decimal_by_steps (λ m ds. Spells m ds) one more n small
  where
    one : (m : ℕ) → m < 10 → Spells m ((48 + m) ∷ [])
    one m h = record { all = (digit m h, tt); leads = λ z. (omega arith, refl); value = omega arith }

    more : (m : ℕ) (ds : List ℕ) → 10 ≤ m → Spells (m / 10) ds → Spells m (ds ++ (48 + m % 10) ∷ [])
    more m ds h s =
        let last : m % 10 < 10 = omega arith in
        let positive : m / 10 ≡ 0 → ⊥ = λ z. omega arith in
        let whole : onto (m / 10) (48 + m % 10) ≡ m = omega arith in
        record {
          all = one_more ds (48 + m % 10) s.all (digit (m % 10) last);
          leads = still_leads (m / 10) m ds (48 + m % 10) positive s.leads;
          value = fold-append onto 0 ds ((48 + m % 10) ∷ []) ∙ ap (λ k. onto k (48 + m % 10)) s.value ∙ whole;
        }

is_decimal : (n : ℕ) (ds : List ℕ) → n ≤ 2 ^ 63 → Spells n ds → IsDecimal ds
is_decimal n [] fits s = absurd s.leads
is_decimal n (d ∷ ds) fits s = (s.all, λ z. (s.leads z).1, subst (λ k. k ≤ 2 ^ 63) (sym s.value) fits)

-- the digits are an integer of the language
pub written_is_decimal : (n : ℕ) → n ≤ 2 ^ 63 → IsDecimal (fmt.decimal n)
written_is_decimal n fits = is_decimal n (fmt.decimal n) fits (spells n (omega arith))

-- and spell the number
pub written_value : (n : ℕ) → n ≤ 2 ^ 63 → decimal (fmt.decimal n) ≡ n
written_value n fits = (spells n (omega arith)).value
