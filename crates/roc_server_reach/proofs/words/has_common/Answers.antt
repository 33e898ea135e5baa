use Rattle.std.proofs.Common.{rules, arith}
use Rattle.roc_server_reach.proofs.StaleBits.{none_common}
use Rattle.roc_server_reach.proofs.words.has_common.Goals as goal

pub returns : goal.returns
returns c = λ _. none_common c.args.set.now c.args.other.now (λ k. search rules) (λ k h. c.loop-place.invariant k (omega arith))
