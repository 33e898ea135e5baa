use Rattle.std.proofs.Common.{arith}
use Rattle.roc_check.proofs.PieceSets.{united_more, united_all}
use Rattle.roc_check.proofs.piece_sets.united.Goals as goal

pub loop-at-preserved : goal.loop-at-preserved
loop-at-preserved c = let long = c.loop-at.invariant.long in united_more c.args.one.now c.args.other.now c.loop-at.all c.loop-at.at (omega arith) c.loop-at.invariant

pub returns : goal.returns
returns c = united_all c.args.one.now c.args.other.now c.loop-at.all c.loop-at.at (omega arith) c.loop-at.invariant
