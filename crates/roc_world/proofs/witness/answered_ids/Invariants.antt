-- those are found that the entries so far answer
use Rattle.std.proofs.Common.{◌≡◌, take}
use Rattle.std.specs.BTreeSet.{contains}
use Rattle.roc_base.specs.declared.id.TxnId.{TxnId}
use Rattle.roc_base.specs.TxnId.{txn_cmp}
use Rattle.roc_law_world.specs.Witness.{was_answered}
use Rattle.roc_world.proofs.witness.answered_ids.Given as goal

abbrev pub invariant-loop-entry : goal.invariant-loop-entry
invariant-loop-entry l = (u : TxnId) → contains txn_cmp l.ids u ≡ was_answered (take l.entry-index l.history) u
