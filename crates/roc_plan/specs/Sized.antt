-- Procedures within the limits of the language
use Rattle.std.specs.Prelude.{◌≡◌, ℕ, ◌-◌, ◌≤◌, length, slice_index_or}
use Rattle.std.specs.List.{AllByRecursion, range_with_len}
use Rattle.roc_program.specs.LookUps.{no_piece}
use Rattle.roc_program.specs.Names.{bindings}
use Rattle.roc_program.specs.Program.{Procedure, Piece}

-- the piece of this number
abbrev pub piece_at : Procedure → ℕ → Piece
piece_at procedure k = slice_index_or procedure.pieces k no_piece

-- a procedure's names have numbers in a row behind its arguments, and it is within the limits
pub record IsSized (procedure : Procedure) : Type 0 where
  pub numbers : bindings procedure.pieces ≡ range_with_len procedure.arguments (procedure.names - procedure.arguments)
  pub some_names : procedure.arguments ≤ procedure.names
  pub few_names : procedure.names ≤ 1032
  pub few_pieces : length procedure.pieces ≤ 16
  pub statements : AllByRecursion (λ piece. length piece.body ≤ 64) procedure.pieces
