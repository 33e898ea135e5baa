use Rattle.std.proofs.Common.{◌≡◌, take}
use Rattle.std.specs.List.{flat_map}
use Rattle.roc_await.specs.Inner.Groups.{missing_if_named}
use Rattle.roc_await.proofs.missing.missing_for_named.Given as goal

abbrev pub invariant-loop-group : goal.invariant-loop-group
invariant-loop-group l = l.ids.items ≡ flat_map (missing_if_named l.but l.edges) (take l.group-index l.groups)
