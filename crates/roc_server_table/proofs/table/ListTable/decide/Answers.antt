use Rattle.std.proofs.Common.{◌≡◌, ◌∙◌, ◌++◌, List, length, ap, subst, sym, arith}
use Rattle.std.specs.Prelude.{Vec}
use Rattle.std.specs.declared.alloc.Global.{Global}
use Rattle.roc_sequence.specs.Places.{IsListed, is_listed}
use Rattle.roc_base.specs.declared.id.TxnId.{TxnId}
use Rattle.roc_base.specs.TxnId.{is_txn}
use Rattle.roc_server_rows.specs.declared.rows.Row.{Row}
use Rattle.roc_server_rows.specs.declared.marks.Mark.{Mark}
use Rattle.roc_server_table.specs.Kept.{TableLists}
use Rattle.roc_server_table.specs.Inner.Kept.{decided_of}
use Rattle.roc_depgraph.specs.Closure.{IsRisingListOf}
use Rattle.roc_step.specs.New.{AreAllNew}
use Rattle.roc_server_table.specs.Inner.Rising.{rising_ids}
use Rattle.roc_server_rows.specs.Rows.{row_links}
use Rattle.roc_server_table.proofs.FilledMarks.{refilled}
use Rattle.roc_server_table.proofs.RisingIds.{ids_added, order_is_new}
use Rattle.roc_server_table.proofs.table.ListTable.decide.Goals as goal

pub decide_all-requires-clause-new : goal.decide_all-requires-clause-new
decide_all-requires-clause-new c =
    let rows = c.self.inside.parts.rows.items in
    subst (λ (ms : List Mark). AreAllNew (IsListed is_txn (decided_of rows ms)) (row_links rows) c.args.ids.now) (sym c.deref_mut.ensures.value)
    (order_is_new (decided_of rows c.self.inside.marks.items) (row_links rows) c.args.ids.now
    (subst (λ (t : TableLists). AreAllNew (IsListed is_txn t.decided) t.links c.args.ids.now) (sym c.self.view_is) c.requires))

pub returns-clause-decided : goal.returns-clause-decided
returns-clause-decided c =
    let rows = c.self.inside.parts.rows.items in
    let new : List TxnId = decided_of rows c.decide_all.new.marks in
    let each : length c.decide_all.new.marks ≡ length c.deref_mut.result.now = omega arith in
    let many : length c.decide_all.new.marks ≡ length c.self.inside.marks.items = each ∙ ap length c.deref_mut.ensures.value in
    let named : TxnId → Type 0 = IsListed is_txn (c.args.self.now.decided ++ c.args.ids.now) in
    subst (λ (ms : List Mark). IsRisingListOf named (rising_ids (decided_of c.decide_all.new.parts.rows.items ms)))
    (sym (refilled c.self.inside.marks.len c.decide_all.new.marks c.self.inside.marks.items many c.self.inside.marks.ok.0))
    (subst (λ (rs : Vec Row Global). IsRisingListOf named (rising_ids (decided_of rs.items c.decide_all.new.marks))) (sym c.decide_all.ensures.rows)
    (subst (λ (t : TableLists). IsRisingListOf (IsListed is_txn (t.decided ++ c.args.ids.now)) (rising_ids new)) c.self.view_is
    (ids_added (decided_of rows c.self.inside.marks.items) c.args.ids.now new
    (λ u. c.decide_all.ensures.decided u ∙ ap (λ (ms : List Mark). is_listed is_txn (decided_of rows ms ++ c.args.ids.now) u) c.deref_mut.ensures.value))))
