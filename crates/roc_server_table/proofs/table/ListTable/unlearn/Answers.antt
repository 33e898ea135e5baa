use Rattle.std.proofs.Common.{◌∙◌, not, List, ap, filter}
use Rattle.roc_sequence.specs.Places.{is_listed}
use Rattle.roc_base.specs.TxnId.{is_txn}
use Rattle.roc_depgraph.specs.Deps.{is_known}
use Rattle.roc_server_rows.specs.declared.marks.Mark.{Mark}
use Rattle.roc_server_table.specs.Kept.{TableLists}
use Rattle.roc_server_rows.specs.Changes.{RowLists}
use Rattle.roc_server_table.specs.Inner.Kept.{decided_of}
use Rattle.roc_server_table.proofs.RisingIds.{test_of}
use Rattle.roc_server_table.proofs.table.ListTable.unlearn.Goals as goal

pub unlearn_all-requires-clause-undecided : goal.unlearn_all-requires-clause-undecided
unlearn_all-requires-clause-undecided c = λ k h.
    let rows = c.self.inside.parts.rows.items in
    ap (λ (ms : List Mark). is_listed is_txn (decided_of rows ms) k.of) c.deref_mut.ensures.value ∙ test_of (decided_of rows c.self.inside.marks.items) k.of
    ∙ ap (λ (t : TableLists). is_listed is_txn t.decided k.of) c.self.view_is ∙ c.requires k h

pub returns-clause-known : goal.returns-clause-known
returns-clause-known c =
    ap (λ (k : RowLists). k.known) c.unlearn_all.ensures.lists ∙ ap (λ (t : TableLists). filter (λ k. not (is_known c.args.news.now k.of)) t.known) c.self.view_is

pub returns-clause-links : goal.returns-clause-links
returns-clause-links c =
    ap (λ (k : RowLists). k.links) c.unlearn_all.ensures.lists ∙ ap (λ (t : TableLists). filter (λ k. not (is_known c.args.news.now k.of)) t.links) c.self.view_is
