-- What a piece uses, where it follows from the values of the names as it begins
use Rattle.std.specs.Prelude.{◌≡◌, List}
use Rattle.std.specs.List.{AllByRecursion, flat_map}
use Rattle.roc_program.specs.Program.{Piece, Procedure}
use Rattle.roc_program.specs.Values.{Environment, value}
use Rattle.roc_whole.specs.Run.{Progress}
use Rattle.roc_group.specs.declared.access.Access.{Access}
use Rattle.roc_group.specs.Accesses.{uses_of, uses_of_piece}

-- what its statements use, where the names have these values
abbrev pub uses_with : Environment → Piece → List Access
uses_with env piece = flat_map (uses_of (value piece.place env) env) piece.body

-- that is what it uses, whatever it reads
abbrev pub IsSteady : Piece → Type 0
IsSteady piece = (p : Progress) → uses_of_piece p piece ≡ uses_with p.environment piece

abbrev pub AreSteady : Procedure → Type 0
AreSteady procedure = AllByRecursion IsSteady procedure.pieces
