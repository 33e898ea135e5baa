-- Laws of values: they fit 64 bits, and they follow from the names that occur
use Rattle.std.specs.Prelude.{◌≡◌, ℕ, zero, suc, ℤ, pos, ◌+ℤ◌, ◌-ℤ◌, ◌*ℤ◌, Bool, true, false, ◌||◌, List, [], ◌∷◌, FitsSigned, int_lt, if◌then◌else◌, refl}
use Rattle.std.specs.List.{AllByRecursion}
use Rattle.std.specs.Int.{w64, int_wrap, int_min, int_max}
use Rattle.std.specs.Ordering.{int_eq}
use Rattle.std.proofs.Common.{rules, subst}
use Rattle.std.proofs.lemmas.Bool.{eqb-true}
use Rattle.std.proofs.lemmas.Int.{SFits-int_wrap}
use Rattle.roc_program.specs.Program.{Expression, Number, Value, Sum, Difference, Product, Minimum, Maximum, Less, Pick}
use Rattle.roc_program.specs.Values.{Environment, value_of_name, less, value}
use Rattle.roc_program.specs.Names.{uses, has_name}
use Rattle.roc_program.specs.WellFormed.{IsOver}

zero_fits : FitsSigned w64 (pos 0)
zero_fits = search rules

name_fits : (env : Environment) (n : ℕ) → AllByRecursion (FitsSigned w64) env → FitsSigned w64 (value_of_name env n)
name_fits [] n all = zero_fits
name_fits (x ∷ xs) zero all = all.0
name_fits (x ∷ xs) (suc n) all = name_fits xs n all.1

choice_fits : (b : Bool) (x y : ℤ) → FitsSigned w64 x → FitsSigned w64 y → FitsSigned w64 (if b then x else y)
choice_fits true x y f g = f
choice_fits false x y f g = g

-- a value fits 64 bits where those of the names and the integers do
pub fits-value : (names : List ℕ) (e : Expression) (env : Environment) → IsOver names e → AllByRecursion (FitsSigned w64) env → FitsSigned w64 (value e env)
fits-value names (Number n) env over all = over
fits-value names (Value number) env over all = name_fits env number all
fits-value names (Sum a b) env over all = SFits-int_wrap w64 (value a env +ℤ value b env)
fits-value names (Difference a b) env over all = SFits-int_wrap w64 (value a env -ℤ value b env)
fits-value names (Product a b) env over all = SFits-int_wrap w64 (value a env *ℤ value b env)
fits-value names (Minimum a b) env over all = choice_fits (int_lt (value b env) (value a env)) (value b env) (value a env) (fits-value names b env over.1 all) (fits-value names a env over.0 all)
fits-value names (Maximum a b) env over all = choice_fits (int_lt (value b env) (value a env)) (value a env) (value b env) (fits-value names a env over.0 all) (fits-value names b env over.1 all)
fits-value names (Less a b) env over all = choice_fits (int_lt (value a env) (value b env)) (pos 1) (pos 0) (search rules) zero_fits
fits-value names (Pick c a b) env over all = choice_fits (int_eq (value c env) (pos 0)) (value b env) (value a env) (fits-value names b env over.2 all) (fits-value names a env over.1 all)

or_left : (x y : Bool) → x ≡ true → (x || y) ≡ true
or_left true y e = refl
or_left false y e = cc

or_right : (x y : Bool) → y ≡ true → (x || y) ≡ true
or_right true y e = refl
or_right false y e = e

-- the two environments give the names of an expression the same values
abbrev pub AgreeOn : Expression → (xs ys : Environment) → Type 0
AgreeOn e xs ys = (n : ℕ) → uses e n ≡ true → value_of_name xs n ≡ value_of_name ys n

-- they give the names of either of two the same values
abbrev AgreeOnBoth : (a b : Expression) (xs ys : Environment) → Type 0
AgreeOnBoth a b xs ys = (n : ℕ) → (uses a n || uses b n) ≡ true → value_of_name xs n ≡ value_of_name ys n

first : (a b : Expression) (xs ys : Environment) → AgreeOnBoth a b xs ys → AgreeOn a xs ys
first a b xs ys agree n used = agree n (or_left (uses a n) (uses b n) used)

second : (a b : Expression) (xs ys : Environment) → AgreeOnBoth a b xs ys → AgreeOn b xs ys
second a b xs ys agree n used = agree n (or_right (uses a n) (uses b n) used)

on_both : (f : ℤ → ℤ → ℤ) {x x' y y' : ℤ} → x ≡ x' → y ≡ y' → f x y ≡ f x' y'
on_both f p q = cc

-- a value follows from the names that occur
pub value_same : (e : Expression) (xs ys : Environment) → AgreeOn e xs ys → value e xs ≡ value e ys
value_same (Number n) xs ys agree = refl
value_same (Value number) xs ys agree = agree number (search rules)
value_same (Sum a b) xs ys agree =
    on_both (λ x y. int_wrap w64 (x +ℤ y)) (value_same a xs ys (first a b xs ys agree)) (value_same b xs ys (second a b xs ys agree))
value_same (Difference a b) xs ys agree =
    on_both (λ x y. int_wrap w64 (x -ℤ y)) (value_same a xs ys (first a b xs ys agree)) (value_same b xs ys (second a b xs ys agree))
value_same (Product a b) xs ys agree =
    on_both (λ x y. int_wrap w64 (x *ℤ y)) (value_same a xs ys (first a b xs ys agree)) (value_same b xs ys (second a b xs ys agree))
value_same (Minimum a b) xs ys agree =
    on_both (λ x y. int_min x y) (value_same a xs ys (first a b xs ys agree)) (value_same b xs ys (second a b xs ys agree))
value_same (Maximum a b) xs ys agree =
    on_both (λ x y. int_max x y) (value_same a xs ys (first a b xs ys agree)) (value_same b xs ys (second a b xs ys agree))
value_same (Less a b) xs ys agree =
    on_both (λ x y. less x y) (value_same a xs ys (first a b xs ys agree)) (value_same b xs ys (second a b xs ys agree))
value_same (Pick c a b) xs ys agree =
    let chosen : value c xs ≡ value c ys = value_same c xs ys (λ n u. agree n (or_left (uses c n) (uses a n || uses b n) u)) in
    let both : AgreeOnBoth a b xs ys = λ n u. agree n (or_right (uses c n) (uses a n || uses b n) u) in
    let one : value a xs ≡ value a ys = value_same a xs ys (first a b xs ys both) in
    let other : value b xs ≡ value b ys = value_same b xs ys (second a b xs ys both) in
    cc

by_or : {P : Type 0} (x y : Bool) → (x || y) ≡ true → (x ≡ true → P) → (y ≡ true → P) → P
by_or true y e f g = f refl
by_or false y e f g = g e

-- an expression over these names uses none of the others
pub uses_known : (names : List ℕ) (e : Expression) (n : ℕ) → IsOver names e → uses e n ≡ true → has_name names n ≡ true
uses_known names (Number m) n over used = cc
uses_known names (Value number) n over used = let P : ℕ → Type 0 = λ m. has_name names m ≡ true in subst P (eqb-true number n used) over
uses_known names (Sum a b) n over used = by_or (uses a n) (uses b n) used (λ u. uses_known names a n over.0 u) (λ u. uses_known names b n over.1 u)
uses_known names (Difference a b) n over used = by_or (uses a n) (uses b n) used (λ u. uses_known names a n over.0 u) (λ u. uses_known names b n over.1 u)
uses_known names (Product a b) n over used = by_or (uses a n) (uses b n) used (λ u. uses_known names a n over.0 u) (λ u. uses_known names b n over.1 u)
uses_known names (Minimum a b) n over used = by_or (uses a n) (uses b n) used (λ u. uses_known names a n over.0 u) (λ u. uses_known names b n over.1 u)
uses_known names (Maximum a b) n over used = by_or (uses a n) (uses b n) used (λ u. uses_known names a n over.0 u) (λ u. uses_known names b n over.1 u)
uses_known names (Less a b) n over used = by_or (uses a n) (uses b n) used (λ u. uses_known names a n over.0 u) (λ u. uses_known names b n over.1 u)
uses_known names (Pick c a b) n over used =
    by_or (uses c n) (uses a n || uses b n) used (λ u. uses_known names c n over.0 u)
    (λ v. by_or (uses a n) (uses b n) v (λ u. uses_known names a n over.1 u) (λ u. uses_known names b n over.2 u))
