use Rattle.std.proofs.Common.{◌≡◌, ◌++◌, drop}
use Rattle.std.specs.List.{flat_map}
use Rattle.roc_precedence.specs.Inner.Lists.{members_of_several}
use Rattle.roc_precedence.proofs.circles.several.Given as goal

abbrev pub invariant-loop-list : goal.invariant-loop-list
invariant-loop-list l = l.found.items ++ flat_map members_of_several (drop l.list-index l.lists) ≡ flat_map members_of_several l.lists
