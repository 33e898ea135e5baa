use Rattle.roc_program.specs.Conflict.{are_in_conflict}
use Rattle.roc_program.specs.declared.piece_id.PieceId.{PieceId}
use Rattle.roc_conflict.specs.Columns.{piece_meets}
use Rattle.roc_conflict.proofs.Gathering.{one_more_piece}
use Rattle.roc_conflict.proofs.columns.Columns.add_procedure.Goals as goal

pub loop-piece-preserved : goal.loop-piece-preserved
loop-piece-preserved c = λ other.
    one_more_piece {A = PieceId} (are_in_conflict c.args.workload.now other) (λ k. record { proc = c.args.proc; piece = k }) c.loop-piece.piece (piece_meets c.args.workload.now c.args.self.now other) _ _
    (c.loop-piece.invariant other) (c.add.ensures other)
