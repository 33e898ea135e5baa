use Rattle.std.proofs.Common.{refl}
use Rattle.roc_witness.specs.Inner.Vertices.{instances_of}
use Rattle.roc_witness.proofs.Listed.{two_pushed}
use Rattle.roc_witness.proofs.vertices.push_vertices.Goals as goal

pub loop-piece-preserved : goal.loop-piece-preserved
loop-piece-preserved c =
    two_pushed c.args.vertices.now.items c.loop-piece.vertices.items c.push.new.self.items c.push-in-loop-piece.new.self.items _ _ (instances_of c.args.proc) c.loop-piece.piece
    c.in_ok-push.ensures.items c.in_ok-push-2.ensures.items refl c.loop-piece.invariant
