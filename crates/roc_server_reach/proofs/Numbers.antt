-- Which numbers are in a list
use Rattle.std.proofs.Common.{◌≡◌, ℕ, true, List, [], ◌∷◌, ◌++◌, nat_eq, refl, subst, arith, eq-eqb, eqb-true}
use Rattle.roc_sequence.specs.Lists.{Has}
use Rattle.roc_sequence.specs.Places.{is_listed, NoneTwice}
use Rattle.roc_sequence.proofs.Appended.{NoneTwice-append}
use Rattle.roc_sequence.proofs.Listed.{listed_has, has_listed}
use Rattle.roc_sequence.proofs.Members.{has_one}
use Rattle.roc_sequence.proofs.Places.{listed_true, listed_test}

own : (a : ℕ) → nat_eq a a ≡ true
own a = eq-eqb a a refl

pub named_has : (names : List ℕ) (m : ℕ) → is_listed nat_eq names m ≡ true → Has m names
named_has names m h = listed_has nat_eq eqb-true own names m (listed_true nat_eq names m h)

pub has_named : (names : List ℕ) (m : ℕ) → Has m names → is_listed nat_eq names m ≡ true
has_named names m h = listed_test nat_eq names m (has_listed nat_eq eqb-true own names m h)

-- none is there twice after one came that was not there
pub once_more : (xs : List ℕ) (x : ℕ) → NoneTwice nat_eq xs → (Has x xs → ⊥) → NoneTwice nat_eq (xs ++ x ∷ [])
once_more xs x once new =
    NoneTwice-append nat_eq own xs (x ∷ []) once (λ i. absurd (omega arith), tt)
    (λ a i j. new (subst (λ v. Has v xs) (has_one a x (listed_has nat_eq eqb-true own (x ∷ []) a i)) (listed_has nat_eq eqb-true own xs a j)))
