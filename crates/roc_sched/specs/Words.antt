-- The words of a line, and which lines count: docs/FORMATS.md, "Schedule".
use Rattle.std.specs.Prelude.{ℕ, Bool, false, not, ◌||◌, ◌==◌, List, [], ◌∷◌, filter}
use Rattle.std.specs.List.{list_all}
use Rattle.roc_sched.specs.Lines.{is_empty, parts_of}

abbrev pub space : ℕ
space = 32

-- the parts between spaces that are not empty
unfoldable pub words_of : (line : List ℕ) → List (List ℕ)
words_of line = filter (λ word. not (is_empty word)) (parts_of space line)

-- the first byte is #
abbrev pub is_comment : (line : List ℕ) → Bool
is_comment [] = false
is_comment (b ∷ bs) = b == 35

-- a comment, or nothing but spaces
abbrev pub is_skipped : (line : List ℕ) → Bool
is_skipped line = is_comment line || list_all (λ b. b == space) line
