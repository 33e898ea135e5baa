use Rattle.std.proofs.Common.{◌≡◌, ◌++◌, drop, filter}
use Rattle.roc_precedence.specs.Inner.Lists.{precedes_itself}
use Rattle.roc_precedence.proofs.circles.own.Given as goal

abbrev pub invariant-loop-id : goal.invariant-loop-id
invariant-loop-id l = l.found.items ++ filter (precedes_itself l.lists) (drop l.id-index l.set) ≡ filter (precedes_itself l.lists) l.set
