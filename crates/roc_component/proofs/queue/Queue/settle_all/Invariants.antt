use Rattle.std.proofs.Common.{List, length}
use Rattle.roc_component.specs.Inner.Queue.{IsQueueOf, left_of}
use Rattle.roc_base.specs.declared.id.TxnId.{TxnId}
use Rattle.roc_component.specs.Inner.Turns.{AreTurns}
use Rattle.roc_component.specs.declared.turn.Turn.{Turn}
use Rattle.roc_component.proofs.queue.Queue.settle_all.Given as goal

abbrev pub invariant-settle : goal.invariant-settle
invariant-settle l = (turns : List Turn) (due : List TxnId) → AreTurns turns → IsQueueOf turns l.taken due l.fn.held.items (left_of l.left) l.initial.self → IsQueueOf turns l.taken due l.pending.items (left_of l.left) l.self

abbrev pub decreases-settle : goal.decreases-settle
decreases-settle l = length l.pending.items
