-- Values of names, set one by one in environments of different lengths, and of expressions there
use Rattle.std.proofs.Common.{◌≡◌, ◌∙◌, ℕ, zero, suc, ◌-◌, ◌<◌, ◌≤◌, ℤ, pos, List, [], ◌∷◌, ◌++◌, length, drop, replicate, get_or, set, refl, sym, ap, subst, inl, inr, arith, length-append}
use Rattle.std.proofs.lemmas.Bool.{cases_eq}
use Rattle.std.proofs.lemmas.List.{get_or-set_same, get_or-set_other, length-set, drop-replicate, length-replicate}
use Rattle.std.specs.List.{AllByRecursion}
use Rattle.roc_program.specs.Program.{Expression}
use Rattle.roc_program.specs.Values.{Environment, value_of_name, value}
use Rattle.roc_program.proofs.ValueLaws.{value_same}
use Rattle.roc_sequence.proofs.Holds.{all_weaker}
use Rattle.roc_plan.specs.Groups.{with_values}
use Rattle.roc_plan.specs.Inner.Agreeing.{AgreeEverywhere}

-- zeros behind the values change none
pub zeros_behind : (xs : Environment) (k n : ℕ) → value_of_name (xs ++ replicate k (pos 0)) n ≡ value_of_name xs n
zeros_behind [] zero n = refl
zeros_behind [] (suc k) zero = refl
zeros_behind [] (suc k) (suc n) = zeros_behind [] k n
zeros_behind (x ∷ xs) k zero = refl
zeros_behind (x ∷ xs) k (suc n) = zeros_behind xs k n

pub long_with : (names : List ℕ) (values : List ℤ) (env : Environment) → length (with_values names values env) ≡ length env
long_with [] values env = refl
long_with (n ∷ names) [] env = refl
long_with (n ∷ names) (v ∷ values) env = long_with names values (set env n v) ∙ length-set env n v

still_within : (names : List ℕ) (env : Environment) (n : ℕ) (v : ℤ) → AllByRecursion (λ m. m < length env) names → AllByRecursion (λ m. m < length (set env n v)) names
still_within names env n v all = all_weaker (λ m. m < length env) (λ m. m < length (set env n v)) (λ m l. subst (λ k. m < k) (sym (length-set env n v)) l) names all

pub agree_with : (names : List ℕ) (values : List ℤ) (xs ys : Environment) → AllByRecursion (λ m. m < length xs) names → AllByRecursion (λ m. m < length ys) names
    → AgreeEverywhere xs ys → AgreeEverywhere (with_values names values xs) (with_values names values ys)
agree_with [] values xs ys l m agree = agree
agree_with (n ∷ names) [] xs ys l m agree = agree
agree_with (n ∷ names) (v ∷ values) xs ys l m agree =
    agree_with names values (set xs n v) (set ys n v) (still_within names xs n v l.1) (still_within names ys n v m.1)
    (λ k. elim (cases_eq k n) [
      | inl e ↦ ap (λ i. get_or (set xs n v) i (pos 0)) e ∙ get_or-set_same xs n v (pos 0) l.0 ∙ sym (ap (λ i. get_or (set ys n v) i (pos 0)) e ∙ get_or-set_same ys n v (pos 0) m.0)
      | inr other ↦ get_or-set_other xs n k v (pos 0) other ∙ agree k ∙ sym (get_or-set_other ys n k v (pos 0) other)
    ])

few : (most long : ℕ) → long ≡ most → (names : List ℕ) → AllByRecursion (λ m. m < most) names → AllByRecursion (λ m. m < long) names
few most long e names all = all_weaker (λ m. m < most) (λ m. m < long) (λ m l. subst (λ k. m < k) (sym e) l) names all

-- a table of the arguments and then zeros, in which the names are set, gives what any environment with these names does
pub value_in_table : (e : Expression) (arguments front table known : Environment) (names : List ℕ) (values : List ℤ) (most : ℕ) → front ≡ arguments
    → table ≡ with_values names values (front ++ drop (length arguments) (replicate most (pos 0))) → length arguments ≤ most → AllByRecursion (λ m. m < most) names
    → AgreeEverywhere known arguments → AllByRecursion (λ m. m < length known) names → value e table ≡ value e (with_values names values known)
value_in_table e arguments front table known names values most same is short all agree within =
    let zeros = replicate (most - length arguments) (pos 0) in
    let filled : table ≡ with_values names values (arguments ++ zeros) =
    is ∙ ap (λ xs. with_values names values (xs ++ drop (length arguments) (replicate most (pos 0)))) same
    ∙ ap (λ zs. with_values names values (arguments ++ zs)) (drop-replicate (length arguments) most (pos 0)) in
    let long : length (arguments ++ zeros) ≡ most = omega (arith, length-append arguments zeros, length-replicate (most - length arguments) (pos 0)) in
    ap (value e) filled
    ∙ value_same e _ _ (λ n used. agree_with names values (arguments ++ zeros) known (few most (length (arguments ++ zeros)) long names all) within (λ k. zeros_behind arguments (most - length arguments) k ∙ sym (agree k)) n)

-- with no names to set, the arguments alone do
pub value_of_arguments : (e : Expression) (arguments known : Environment) (names : List ℕ) (values : List ℤ) → length names ≡ 0 → AgreeEverywhere known arguments → value e arguments ≡ value e (with_values names values known)
value_of_arguments e arguments known [] values none agree = value_same e arguments known (λ n used. sym (agree n))
value_of_arguments e arguments known (n ∷ names) values none agree = absurd (omega (arith, none))
