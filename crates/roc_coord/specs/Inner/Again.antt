-- What is sent again of an id where the transactions and the views are at hand
use Rattle.std.specs.Prelude.{◌++◌, List}
use Rattle.roc_base.specs.declared.id.TxnId.{TxnId}
use Rattle.roc_msg.specs.declared.outbox.Outgoing.{Outgoing}
use Rattle.roc_plan.specs.Groups.{Plan}
use Rattle.roc_coord.specs.declared.transaction.Transaction.{Transaction}
use Rattle.roc_readonly.specs.declared.view.View.{View}
use Rattle.roc_coord.specs.State.{find_transaction, find_view}
use Rattle.roc_coord.specs.Tick.{transaction_again, view_again}

abbrev pub again_in : Plan → List Transaction → List View → TxnId → List Outgoing
again_in plan pending views id = transaction_again plan (find_transaction id pending) ++ view_again plan (find_view id views)
