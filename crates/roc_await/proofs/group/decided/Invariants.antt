use Rattle.std.proofs.Common.{◌≡◌, take}
use Rattle.std.specs.List.{flat_map}
use Rattle.roc_await.specs.Inner.Groups.{decided_of}
use Rattle.roc_await.proofs.group.decided.Given as goal

abbrev pub invariant-loop-group : goal.invariant-loop-group
invariant-loop-group l = l.ids.items ≡ flat_map decided_of (take l.group-index l.groups)
