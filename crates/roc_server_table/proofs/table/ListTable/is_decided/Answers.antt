use Rattle.std.proofs.Common.{◌∙◌, List, ap}
use Rattle.roc_sequence.specs.Places.{is_listed}
use Rattle.roc_base.specs.TxnId.{is_txn}
use Rattle.roc_server_rows.specs.declared.marks.Mark.{Mark}
use Rattle.roc_server_table.specs.Kept.{TableLists}
use Rattle.roc_server_table.specs.Inner.Kept.{decided_of}
use Rattle.roc_server_table.proofs.RisingIds.{test_of}
use Rattle.roc_server_table.proofs.table.ListTable.is_decided.Goals as goal

pub returns : goal.returns
returns c =
    let rows = c.self.inside.parts.rows.items in
    c.is_decided.ensures ∙ ap (λ (ms : List Mark). is_listed is_txn (decided_of rows ms) c.args.id) c.deref.ensures.value ∙ test_of (decided_of rows c.self.inside.marks.items) c.args.id
    ∙ ap (λ (t : TableLists). is_listed is_txn t.decided c.args.id) c.self.view_is
