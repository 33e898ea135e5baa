use Rattle.std.proofs.Common.{◌≡◌, ◌++◌, List, [], length}
use Rattle.roc_component.specs.Inner.Queue.{IsQueueOf, left_of}
use Rattle.roc_component.specs.declared.turn.Turn.{Turn}
use Rattle.roc_component.proofs.queue.Queue.fill.Given as goal

abbrev pub invariant-fill : goal.invariant-fill
invariant-fill l = (filed : List Turn) × (l.fn.turns.items ≡ l.rest.items ++ filed) × IsQueueOf filed [] [] [] (left_of l.left) l.self

abbrev pub decreases-fill : goal.decreases-fill
decreases-fill l = length l.rest.items
