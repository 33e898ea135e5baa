use Rattle.std.proofs.Common.{◌≡◌, ◌∙◌, ◌&&◌, false, not, List, length, arith, ap, filter, map, subst, sym}
use Rattle.roc_sequence.specs.Places.{IsListed, is_listed}
use Rattle.roc_sequence.proofs.Places.{listed_test}
use Rattle.roc_depgraph.specs.Closure.{IsRisingListOf}
use Rattle.roc_base.specs.declared.id.TxnId.{TxnId}
use Rattle.roc_server_rows.specs.declared.marks.Mark.{Mark}
use Rattle.roc_server_table.specs.Inner.Kept.{decided_of}
use Rattle.roc_server_table.specs.Inner.Rising.{rising_ids}
use Rattle.roc_server_table.proofs.FilledMarks.{refilled}
use Rattle.roc_server_table.proofs.RisingIds.{ids_left, rising_of}
use Rattle.roc_base.specs.TxnId.{is_txn}
use Rattle.roc_step.specs.Links.{without_links}
use Rattle.roc_server_table.specs.Kept.{TableLists}
use Rattle.roc_server_rows.specs.Changes.{RowLists}
use Rattle.roc_server_table.proofs.table.ListTable.forget.Goals as goal

pub returns-clause-known : goal.returns-clause-known
returns-clause-known c =
    ap (λ (k : RowLists). k.known) c.end_all.ensures.lists ∙ ap (λ (t : TableLists). filter (λ k. not (is_listed is_txn c.args.ids.now k.of)) t.known) c.self.view_is

pub returns-clause-links : goal.returns-clause-links
returns-clause-links c =
    ap (λ (k : RowLists). k.links) c.end_all.ensures.lists
    ∙ ap (λ (t : TableLists). map (without_links (is_listed is_txn c.args.ids.now)) (filter (λ k. not (is_listed is_txn c.args.ids.now k.of)) t.links)) c.self.view_is

pub end_all-requires-clause-decided : goal.end_all-requires-clause-decided
end_all-requires-clause-decided c t l =
    let rows = c.self.inside.parts.rows.items in
    let ids : List TxnId = decided_of rows c.self.inside.marks.items in
    listed_test is_txn (decided_of rows c.deref_mut.result.now) t
    (subst (λ (ms : List Mark). IsListed is_txn (decided_of rows ms) t) (sym c.deref_mut.ensures.value)
    ((rising_of ids).sound t (subst (λ (k : TableLists). IsListed is_txn k.decided t) (sym c.self.view_is) (c.requires t l))))

pub returns-clause-decided : goal.returns-clause-decided
returns-clause-decided c =
    let rows = c.self.inside.parts.rows.items in
    let new : List TxnId = decided_of c.end_all.new.parts.rows.items c.end_all.new.marks in
    let each : length c.end_all.new.marks ≡ length c.deref_mut.result.now = omega arith in
    let many : length c.end_all.new.marks ≡ length c.self.inside.marks.items = each ∙ ap length c.deref_mut.ensures.value in
    let left : TxnId → Type 0 = λ t. IsListed is_txn c.args.self.now.decided t × (is_listed is_txn c.args.ids.now t ≡ false) in
    subst (λ (ms : List Mark). IsRisingListOf left (rising_ids (decided_of c.end_all.new.parts.rows.items ms)))
    (sym (refilled c.self.inside.marks.len c.end_all.new.marks c.self.inside.marks.items many c.self.inside.marks.ok.0))
    (subst (λ (k : TableLists). IsRisingListOf (λ (t : TxnId). IsListed is_txn k.decided t × (is_listed is_txn c.args.ids.now t ≡ false)) (rising_ids new)) c.self.view_is
    (ids_left (decided_of rows c.self.inside.marks.items) c.args.ids.now new
    (λ u. c.end_all.ensures.decided u ∙ ap (λ (ms : List Mark). is_listed is_txn (decided_of rows ms) u && not (is_listed is_txn c.args.ids.now u)) c.deref_mut.ensures.value)))
