-- Names that stand in a list.
use Rattle.std.proofs.Common.{◌≡◌, ℕ, zero, suc, ◌+◌, ◌<◌, Bool, true, false, ◌||◌, List, [], ◌∷◌, ◌++◌, length, get_or, take, drop, map, refl, ap, ◌∙◌, arith, add-one}
use Rattle.std.specs.List.{list_any}
use Rattle.std.specs.Str.{bytes_eq}
use Rattle.std.proofs.Math.Seq.{drop-cons, take-suc}
use Rattle.std.proofs.lemmas.List.Folds.{list_any-append}
use Rattle.roc_lang.specs.Syntax.{Name}
use Rattle.roc_lang.specs.Scope.{is_among}

pub or_true : (b : Bool) → (b || true) ≡ true
or_true true = refl
or_true false = refl

-- what passes at one place passes somewhere
pub any_at : {A B : Type 0} (view : A → B) (p : B → Bool) (xs : List A) (i : ℕ) (x : A) → i < length xs → x ≡ get_or xs i x → p (view x) ≡ true → list_any p (map view xs) ≡ true
any_at view p [] i x below is passes = absurd (omega arith)
any_at view p (y ∷ ys) zero x below is passes = rw (← is, passes) refl
any_at view p (y ∷ ys) (suc i) x below is passes = ap (λ b. p (view y) || b) (any_at view p ys i x (omega arith) is passes) ∙ or_true (p (view y))

pub among-append : (xs ys : List Name) (name : Name) → is_among (xs ++ ys) name ≡ (is_among xs name || is_among ys name)
among-append xs ys name = list_any-append (λ n. bytes_eq n.text name.text) xs ys

-- the element at a place, and the lists before and behind it
pub item_splits : {A : Type 0} (xs : List A) (i : ℕ) (x : A) → i < length xs → x ≡ get_or xs i x → (drop i xs ≡ x ∷ drop (i + 1) xs) × (take (i + 1) xs ≡ take i xs ++ x ∷ [])
item_splits xs i x below is = (rw (add-one, drop-cons xs i x below, ← is) refl, rw (add-one, take-suc xs i x below, ← is) refl)
