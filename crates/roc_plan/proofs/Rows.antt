-- The rows of groups that a plan keeps, read at any place
use Rattle.std.proofs.Common.{◌≡◌, ℕ, zero, suc, List, [], ◌∷◌, map, Some, get_or, slice_get, refl}

-- the element of a table whose elements are changed
pub row_element : {X Y Z : Type 0} (f : Y → List X) (g : X → Z) (rows : List Y) (i j : ℕ) (x : X) (d : Z) → slice_get (get_or (map f rows) i []) j ≡ Some x → get_or (get_or (map (λ r. map g (f r)) rows) i []) j d ≡ g x
row_element f g [] i j x d at = cc
row_element f g (r ∷ rows) zero j x d at = element g (f r) j x d at
  where
    element : {X Z : Type 0} (g : X → Z) (xs : List X) (j : ℕ) (x : X) (d : Z) → slice_get xs j ≡ Some x → get_or (map g xs) j d ≡ g x
    element g [] j x d at = cc
    element g (y ∷ ys) zero x d at = cc
    element g (y ∷ ys) (suc j) x d at = element g ys j x d at
row_element f g (r ∷ rows) (suc i) j x d at = row_element f g rows i j x d at

pub read_any : {A B : Type 0} (f : A → B) (xs : List A) (k : ℕ) (d : A) → get_or (map f xs) k (f d) ≡ f (get_or xs k d)
read_any f [] k d = refl
read_any f (x ∷ xs) zero d = refl
read_any f (x ∷ xs) (suc k) d = read_any f xs k d
