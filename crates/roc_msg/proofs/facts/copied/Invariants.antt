use Rattle.std.proofs.Common.{◌≡◌, take}
use Rattle.roc_msg.proofs.facts.copied.Given as goal

abbrev pub invariant-loop-list : goal.invariant-loop-list
invariant-loop-list l = l.copy.items ≡ take l.list-index l.lists
