use Rattle.std.proofs.Common.{◌≡◌}
use Rattle.std.specs.List.{list_any, flat_map, range_with_len}
use Rattle.roc_program.specs.Conflict.{are_in_conflict}
use Rattle.roc_program.specs.Pieces.{piece_ids}
use Rattle.roc_program.specs.declared.piece_id.PieceId.{PieceId}
use Rattle.roc_conflict.specs.Columns.{piece_meets}
use Rattle.roc_conflict.proofs.columns.Columns.of_all.Given as goal

abbrev pub invariant-loop-proc : goal.invariant-loop-proc
invariant-loop-proc l = (id : PieceId) → piece_meets l.workload l.all id ≡ list_any (are_in_conflict l.workload id) (flat_map (piece_ids l.workload) (range_with_len 0 l.proc))
