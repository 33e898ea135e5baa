use Rattle.std.proofs.Common.{length}
use Rattle.roc_await.specs.Learning.{AreLacksBefore}
use Rattle.roc_await.specs.Inner.Groups.{all_lacks}
use Rattle.roc_await.specs.Inner.Taken.{AreLacksTaken}
use Rattle.roc_await.proofs.taught.taught.Given as goal

abbrev pub invariant-loop-id : goal.invariant-loop-id
invariant-loop-id l = (were : AreLacksBefore l.deps l.ids (all_lacks l.groups)) → AreLacksTaken were.before l.deps l.left (all_lacks l.taught.items)

abbrev pub decreases-loop-id : goal.decreases-loop-id
decreases-loop-id l = length l.left
