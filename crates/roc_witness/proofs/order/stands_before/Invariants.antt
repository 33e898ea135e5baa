use Rattle.std.proofs.Common.{◌≡◌, length}
use Rattle.roc_witness.specs.Order.{stands_before}
use Rattle.roc_witness.proofs.order.stands_before.Given as goal

abbrev pub invariant-loop-a : goal.invariant-loop-a
invariant-loop-a l = stands_before l.left l.right ≡ stands_before l.one l.other

abbrev pub decreases-loop-a : goal.decreases-loop-a
decreases-loop-a l = length l.left
