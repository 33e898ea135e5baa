use Rattle.std.proofs.Common.{List, subst}
use Rattle.std.proofs.lemmas.Result.{IfOk-weaker}
use Rattle.roc_sequence.specs.Places.{IsListed}
use Rattle.roc_base.specs.TxnId.{is_txn}
use Rattle.roc_server_rows.specs.declared.marks.Mark.{Mark}
use Rattle.roc_server_table.specs.Kept.{TableLists}
use Rattle.roc_server_table.specs.Inner.Kept.{decided_of}
use Rattle.roc_step.specs.New.{AreAllNew}
use Rattle.roc_server_rows.specs.Rows.{row_links}
use Rattle.roc_server_table.proofs.RisingIds.{new_in_order}
use Rattle.roc_server_table.proofs.table.ListTable.newly.Goals as goal

pub returns-clause-new : goal.returns-clause-new
returns-clause-new c =
    let rows = c.self.inside.parts.rows.items in
    let marks : List Mark = c.self.inside.marks.items in
    IfOk-weaker c.new_ids.result _ _
    (λ ids new.
    subst (λ (t : TableLists). AreAllNew (IsListed is_txn t.decided) t.links ids.items) c.self.view_is
    (new_in_order (decided_of rows marks) (row_links rows) ids.items
    (subst (λ (ms : List Mark). AreAllNew (IsListed is_txn (decided_of rows ms)) (row_links rows) ids.items) c.deref_mut.ensures.value new)))
    c.new_ids.ensures.new
