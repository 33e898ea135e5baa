-- Groups of the pieces of a program: a list for each procedure, of lists of piece numbers. docs/CHECKER.md, "Merging"
use Rattle.std.specs.Prelude.{ℕ, List, [], slice_index_or}
use Rattle.roc_program.specs.declared.piece_id.PieceId.{PieceId}

-- the piece of these numbers
abbrev pub piece_numbered : (proc piece : ℕ) → PieceId
piece_numbered proc piece = record { proc = proc; piece = piece }

-- the groups of a procedure; one that is not there has none
abbrev pub groups_in : List (List (List ℕ)) → ℕ → List (List ℕ)
groups_in groups proc = slice_index_or groups proc []

-- the pieces of a group; one that is not there has none
abbrev pub group_at : List (List ℕ) → ℕ → List ℕ
group_at groups group = slice_index_or groups group []

-- the number of a group's first piece
abbrev pub first_piece : List ℕ → ℕ
first_piece group = slice_index_or group 0 0
