use Rattle.std.proofs.Common.{take}
use Rattle.roc_base.specs.TxnId.{is_txn}
use Rattle.roc_sequence.specs.Places.{IsListed}
use Rattle.roc_server_reach.specs.Least.{AreLeastIds}
use Rattle.roc_server_reach.proofs.least_ids.least.Given as goal

abbrev pub invariant-loop-id : goal.invariant-loop-id
invariant-loop-id l = AreLeastIds (IsListed is_txn (take l.id-index l.met)) l.ids.items
