-- Immediate pieces that may meet others: docs/LANGUAGE.md, "Conflicts"
use Rattle.std.specs.Prelude.{Bool, ◌&&◌}
use Rattle.std.specs.List.{list_any}
use Rattle.roc_program.specs.Program.{Workload}
use Rattle.roc_program.specs.Conflict.{are_in_conflict}
use Rattle.roc_program.specs.declared.piece_id.PieceId.{PieceId}
use Rattle.roc_program.specs.Pieces.{all_pieces}

-- a piece conflicts with a piece of another instance, of its own procedure or of another: so with any piece of the program, itself included
abbrev pub has_conflict : Workload → PieceId → Bool
has_conflict program id = list_any (are_in_conflict program id) (all_pieces program)

-- it is immediate, and has such a conflict
abbrev pub is_contended : Workload → (PieceId → Bool) → PieceId → Bool
is_contended program is_immediate id = is_immediate id && has_conflict program id
