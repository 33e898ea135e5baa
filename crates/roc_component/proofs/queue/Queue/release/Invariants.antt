use Rattle.std.proofs.Common.{List, [], drop}
use Rattle.roc_component.specs.Inner.Queue.{IsQueueOf, left_of}
use Rattle.roc_component.specs.Inner.Turns.{AreTurns}
use Rattle.roc_component.specs.declared.turn.Turn.{Turn}
use Rattle.roc_component.proofs.queue.Queue.release.Given as goal

abbrev pub invariant-loop-id : goal.invariant-loop-id
invariant-loop-id l = (turns : List Turn) → AreTurns turns → IsQueueOf turns l.taken l.ids [] (left_of l.left) l.initial.self → IsQueueOf turns l.taken (drop l.id-index l.ids) [] (left_of l.left) l.self
