-- Rows of a table that is kept as a list of lists
use Rattle.std.proofs.Common.{◌≡◌, ℕ, zero, suc, ◌<◌, List, [], ◌∷◌, length, map, Some, slice_get, get_or, refl, arith, subst, sym}
use Rattle.std.specs.List.{AllByRecursion}
use Rattle.std.proofs.lemmas.List.{length-map}
use Rattle.std.proofs.lemmas.Option.{slice_get_read}

-- a read of a row and of an element of it
pub row_read : {X Y : Type 0} (f : Y → List X) (rows : List Y) (i j : ℕ) (row : Y) (x : X) → j < length (get_or (map f rows) i []) → row ≡ get_or rows i row → x ≡ get_or (f row) j x → slice_get (get_or (map f rows) i []) j ≡ Some x
row_read f [] i j row x has is at = absurd (omega arith)
row_read {X} {Y} f (r ∷ rows) zero j row x has is at =
    let P : Y → Type 0 = λ y. x ≡ get_or (f y) j x in slice_get_read (f r) (length (f r)) j x refl has (subst P is at)
row_read f (r ∷ rows) (suc i) j row x has is at = row_read f rows i j row x has is at

-- a row is as long after its elements are changed
pub row_length : {X Y Z : Type 0} (f : Y → List X) (g : X → Z) (rows : List Y) (i : ℕ) → length (get_or (map (λ r. map g (f r)) rows) i []) ≡ length (get_or (map f rows) i [])
row_length f g [] i = refl
row_length f g (r ∷ rows) zero = length-map (f r) g
row_length f g (r ∷ rows) (suc i) = row_length f g rows i

-- of a list that has the same at each place
pub row_same : {X Y : Type 0} (row : X) (ys : List Y) (i : ℕ) (d : X) → i < length ys → get_or (map (λ _. row) ys) i d ≡ row
row_same row [] i d h = absurd (omega arith)
row_same row (y ∷ ys) zero d h = refl
row_same row (y ∷ ys) (suc i) d h = row_same row ys i d (omega arith)

-- the rows of a table all of whose rows are the same
pub each_row : {X Y Z P : Type 0} (f : Y → List X) (g : X → Z) (row : List Z) (rows : List Y) (ps : List P) (i : ℕ) (y : Y)
    → map (λ r. map g (f r)) rows ≡ map (λ _. row) ps → i < length rows → y ≡ get_or rows i y → map g (f y) ≡ row
each_row f g row [] ps i y e has is = absurd (omega arith)
each_row f g row (r ∷ rows) [] i y e has is = cc
each_row {X} {Y} {Z} f g row (r ∷ rows) (p ∷ ps) zero y e has is =
    let P : Y → Type 0 = λ x. map g (f x) ≡ row in subst P (sym is) cc
each_row f g row (r ∷ rows) (p ∷ ps) (suc i) y e has is = each_row f g row rows ps i y (cc) (omega arith) is

-- two lists that lead to one are equally long
pub same_count : {X Y Z : Type 0} (f : X → Z) (g : Y → Z) (xs : List X) (ys : List Y) → map f xs ≡ map g ys → length xs ≡ length ys
same_count f g [] [] e = refl
same_count f g [] (y ∷ ys) e = cc
same_count f g (x ∷ xs) [] e = cc
same_count f g (x ∷ xs) (y ∷ ys) e = let rest : length xs ≡ length ys = same_count f g xs ys (cc) in cc

-- a list that leads to a list of one has one element
pub count_one : {X Z : Type 0} (g : X → Z) (xs : List X) (z : Z) → map g xs ≡ z ∷ [] → length xs ≡ 1
count_one g [] z e = cc
count_one g (x ∷ []) z e = refl
count_one g (x ∷ y ∷ ys) z e = cc

-- an element that was read, where the list's elements are changed
pub read-map : {X Y : Type 0} (f : X → Y) (xs : List X) (i : ℕ) (x : X) (d : Y) → i < length xs → x ≡ get_or xs i x → get_or (map f xs) i d ≡ f x
read-map f [] i x d within is = absurd (omega arith)
read-map {X} {Y} f (y ∷ ys) zero x d within is = cc
read-map f (y ∷ ys) (suc i) x d within is = read-map f ys i x d (omega arith) is

-- the element of a table each of whose rows is of this one
pub each_same : {X P : Type 0} (x : X) (ps : List P) (i j : ℕ) (d : X) → j < length (get_or (map (λ _. x ∷ []) ps) i []) → get_or (get_or (map (λ _. x ∷ []) ps) i []) j d ≡ x
each_same x [] i j d within = absurd (omega arith)
each_same x (p ∷ ps) zero zero d within = refl
each_same x (p ∷ ps) zero (suc j) d within = absurd (omega arith)
each_same x (p ∷ ps) (suc i) j d within = each_same x ps i j d within

-- a row that has an element is there
pub row_there : {X P : Type 0} (x : X) (ps : List P) (i j : ℕ) → j < length (get_or (map (λ _. x ∷ []) ps) i []) → i < length ps
row_there x [] i j within = absurd (omega arith)
row_there x (p ∷ ps) zero j within = omega arith
row_there x (p ∷ ps) (suc i) j within = let inner : i < length ps = row_there x ps i j within in omega arith

-- what holds of each changed element holds of the one that was read
pub all_read : {X Y : Type 0} (P : Y → Type 0) (f : X → Y) (xs : List X) (i : ℕ) (x : X) → AllByRecursion P (map f xs) → i < length xs → x ≡ get_or xs i x → P (f x)
all_read P f [] i x all within is = absurd (omega arith)
all_read {X} P f (y ∷ ys) zero x all within is = let Q : X → Type 0 = λ x. P (f x) in subst Q (sym is) all.0
all_read P f (y ∷ ys) (suc i) x all within is = all_read P f ys i x all.1 (omega arith) is
