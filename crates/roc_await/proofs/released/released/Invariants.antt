use Rattle.std.proofs.Common.{take}
use Rattle.roc_await.specs.Inner.Groups.{all_lacks}
use Rattle.roc_await.specs.Inner.Shortened.{AreShortened}
use Rattle.roc_await.proofs.released.released.Given as goal

abbrev pub invariant-loop-group : goal.invariant-loop-group
invariant-loop-group l = AreShortened l.gone (all_lacks (take l.group-index l.groups)) (all_lacks l.left.items)
