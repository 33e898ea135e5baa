use Rattle.std.proofs.Common.{◌&&◌, ◌==◌, ◌+◌}
use Rattle.std.specs.Prelude.{nat_lt}
use Rattle.roc_check.specs.Inner.PieceSets.{is_piece}
use Rattle.roc_check.proofs.Gathered.{adds_more, next_piece}
use Rattle.roc_check.proofs.users.add_procedure.Goals as goal

pub loop-piece-preserved : goal.loop-piece-preserved
loop-piece-preserved c =
    adds_more c.args.workload.now c.args.writes_alone c.args.sets.now.items c.loop-piece.sets.items c.add_piece.new.sets.items (λ id. (id.proc == c.args.proc) && nat_lt id.piece c.loop-piece.piece)
    (λ id. is_piece id (record { proc = c.args.proc; piece = c.loop-piece.piece })) (λ id. (id.proc == c.args.proc) && nat_lt id.piece (c.loop-piece.piece + 1)) c.loop-piece.invariant c.add_piece.ensures
    (λ id. next_piece id.proc id.piece c.args.proc c.loop-piece.piece)
