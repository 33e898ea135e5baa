-- The ids of a coordinator's transactions and views
use Rattle.std.specs.Prelude.{List, map}
use Rattle.roc_base.specs.declared.id.TxnId.{TxnId}
use Rattle.roc_coord.specs.declared.transaction.Transaction.{Transaction}
use Rattle.roc_readonly.specs.declared.view.View.{View}

abbrev pub ids_of : List Transaction → List TxnId
ids_of pending = map (λ x. x.id) pending

abbrev pub view_ids : List View → List TxnId
view_ids views = map (λ v. v.id) views
