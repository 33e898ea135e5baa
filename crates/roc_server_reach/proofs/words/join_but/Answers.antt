use Rattle.std.proofs.Common.{arith}
use Rattle.roc_server_reach.proofs.StaleBits.{joined_but}
use Rattle.roc_server_reach.proofs.words.join_but.Goals as goal

pub returns : goal.returns
returns c =
    joined_but c.args.set.now c.args.added.now c.args.stale.now c.loop-place.set (λ k h. c.loop-place.invariant.0 k (omega arith)) (λ k h. c.loop-place.invariant.1 k (omega arith))
