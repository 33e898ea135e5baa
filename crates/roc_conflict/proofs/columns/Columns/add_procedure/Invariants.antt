use Rattle.std.proofs.Common.{◌≡◌, ◌||◌, map}
use Rattle.std.specs.List.{list_any, range_with_len}
use Rattle.roc_program.specs.Conflict.{are_in_conflict}
use Rattle.roc_program.specs.declared.piece_id.PieceId.{PieceId}
use Rattle.roc_conflict.specs.Columns.{piece_meets}
use Rattle.roc_conflict.proofs.columns.Columns.add_procedure.Given as goal

abbrev pub invariant-loop-piece : goal.invariant-loop-piece
invariant-loop-piece l =
    (other : PieceId) → piece_meets l.workload l.self other
    ≡ (piece_meets l.workload l.fn.self other || list_any (are_in_conflict l.workload other) (map (λ k. record { proc = l.proc; piece = k }) (range_with_len 0 l.piece)))
