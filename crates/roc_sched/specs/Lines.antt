-- The lines of a text: docs/FORMATS.md, "Schedule".
use Rattle.std.specs.Prelude.{ℕ, Bool, ◌==◌, if◌then◌else◌, List, [], ◌∷◌, length}
use Rattle.std.specs.List.{slice_split}

abbrev pub line_feed : ℕ
line_feed = 10

abbrev pub carriage_return : ℕ
carriage_return = 13

abbrev pub is_empty : List ℕ → Bool
is_empty bytes = length bytes == 0

-- the parts before, between and behind the separators, empty ones too
abbrev pub parts_of : (separator : ℕ) → List ℕ → List (List ℕ)
parts_of separator bytes = slice_split (λ b. b == separator) bytes

-- a part that a line feed ends, without a carriage return at its end
abbrev pub without_return : List ℕ → List ℕ
without_return [] = []
without_return (b ∷ []) = if b == carriage_return then [] else b ∷ []
without_return (b ∷ c ∷ bs) = b ∷ without_return (c ∷ bs)

-- a line feed ends each part but the last one, which is a line unless it is empty
abbrev pub ended : List (List ℕ) → List (List ℕ)
ended [] = []
ended (part ∷ []) = if is_empty part then [] else part ∷ []
ended (part ∷ next ∷ parts) = without_return part ∷ ended (next ∷ parts)

unfoldable pub lines_of : (text : List ℕ) → List (List ℕ)
lines_of text = ended (parts_of line_feed text)
