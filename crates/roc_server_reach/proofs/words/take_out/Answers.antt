use Rattle.std.proofs.Common.{arith}
use Rattle.roc_server_reach.proofs.StaleBits.{taken_out}
use Rattle.roc_server_reach.proofs.words.take_out.Goals as goal

pub returns : goal.returns
returns c =
    let was = c.args.set.now.ok.0 in
    taken_out c.args.stale.now c.args.set.now.items c.loop-place.set.items c.loop-place.invariant.0 (λ k h. c.loop-place.invariant.1 k (omega arith))
