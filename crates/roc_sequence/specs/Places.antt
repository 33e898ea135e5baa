-- Where things stand in a list. `is` is a test that tells whether two of them are one.
use Rattle.std.specs.Prelude.{ℕ, suc, ◌<◌, Bool, List, [], ◌∷◌, length, if◌then◌else◌}
use Rattle.std.specs.Bool.{nat_lt}

-- where what passes a test stands first; the list's length, where nothing passes
abbrev pub place_of : {A : Type 0} → (A → Bool) → List A → ℕ
place_of passes [] = 0
place_of passes (x ∷ xs) = if passes x then 0 else suc (place_of passes xs)

-- a is in the list
abbrev pub IsListed : {A : Type 0} → (A → A → Bool) → List A → A → Type 0
IsListed is xs a = place_of (is a) xs < length xs

-- the same, as a test
abbrev pub is_listed : {A : Type 0} → (A → A → Bool) → List A → A → Bool
is_listed is xs a = nat_lt (place_of (is a) xs) (length xs)

-- a stands before b, or b is not in the list
abbrev pub IsListedBefore : {A : Type 0} → (A → A → Bool) → List A → A → A → Type 0
IsListedBefore is xs a b = place_of (is a) xs < place_of (is b) xs

-- nothing is in the list twice
abbrev pub NoneTwice : {A : Type 0} → (A → A → Bool) → List A → Type 0
NoneTwice is [] = Unit {0}
NoneTwice is (x ∷ xs) = (¬ IsListed is xs x) × NoneTwice is xs
