use Rattle.std.proofs.Common.{arith}
use Rattle.roc_server_reach.proofs.StaleBits.{all_zero}
use Rattle.roc_server_reach.proofs.words.clear_all.Goals as goal

pub returns-clause-zeros : goal.returns-clause-zeros
returns-clause-zeros c =
    let was = c.args.set.now.ok.0 in
    all_zero c.loop-place.set.items (λ k h. c.loop-place.invariant.1 k (omega arith))
