use Rattle.roc_program.proofs.Ranges.{map_pushed}
use Rattle.roc_program.proofs.pieces.push_pieces.Goals as goal

pub loop-piece-preserved : goal.loop-piece-preserved
loop-piece-preserved c =
    map_pushed c.args.ids.now.items c.loop-piece.ids.items c.push.new.self.items (λ k. record { proc = c.args.proc; piece = k }) c.loop-piece.piece
    c.in_ok-push.ensures.items c.loop-piece.invariant
