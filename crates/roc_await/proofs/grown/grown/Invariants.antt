use Rattle.std.proofs.Common.{length}
use Rattle.roc_await.specs.Inner.Groups.{all_lacks}
use Rattle.roc_await.proofs.Regrouped.{AreRegrouped}
use Rattle.roc_await.proofs.grown.grown.Given as goal

abbrev pub invariant-loop-group : goal.invariant-loop-group
invariant-loop-group l = AreRegrouped l.id l.fresh (all_lacks l.initial.groups.items) (all_lacks l.groups.items) (all_lacks l.grown.items)

abbrev pub decreases-loop-group : goal.decreases-loop-group
decreases-loop-group l = length l.groups.items
