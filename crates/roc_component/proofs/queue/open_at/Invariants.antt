use Rattle.std.proofs.Common.{length, ◌⊎◌}
use Rattle.roc_base.specs.declared.id.TxnId.{TxnId}
use Rattle.roc_base.specs.TxnId.{is_txn}
use Rattle.roc_sequence.specs.Lists.{Has}
use Rattle.roc_sequence.specs.Places.{IsListed}
use Rattle.roc_component.proofs.queue.open_at.Given as goal

abbrev pub invariant-look : goal.invariant-look
invariant-look l = ((p : TxnId) → Has p l.initial.rest.items → IsListed is_txn l.taken p ⊎ Has p l.rest.items) × ((p : TxnId) → Has p l.rest.items → Has p l.initial.rest.items)

abbrev pub decreases-look : goal.decreases-look
decreases-look l = length l.rest.items
