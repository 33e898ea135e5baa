use Rattle.std.proofs.Common.{◌≡◌, ◌∙◌, ℕ, List, Some, false, inr, sym, ap, subst}
use Rattle.std.specs.Map.{lookup}
use Rattle.roc_base.specs.TxnId.{is_txn}
use Rattle.roc_server_rows.specs.declared.rows.Row.{Row}
use Rattle.roc_server_rows.specs.Rows.{row_in, is_told, IsRowTable}
use Rattle.roc_server_rows.proofs.Excepted.{table_but, told_but}
use Rattle.roc_server_table.proofs.LeadingRows.{cut_but, out_but}
use Rattle.roc_server_rows.proofs.EndedRows.{one_found}
use Rattle.roc_server_table.proofs.Settled.{told_settled, untold_settled}
use Rattle.roc_server_rows.specs.Except.{rows_but}
use Rattle.roc_server_rows.specs.Marks.{AreOpen, HasWaiting}
use Rattle.roc_server_rows.proofs.OpenRows.{open_awake}
use Rattle.roc_server_table.proofs.changes.settle_at.Goals as goal

pub returns-then-is_told-clause-whole : goal.returns-then-is_told-clause-whole
returns-then-is_told-clause-whole c =
    let p = c.args.parts.now in
    subst (λ (rs : List Row). IsRowTable p.numbers.entries rs p.stamp) (sym c.cut_rows.ensures) (table_but (Some c.args.at) p.numbers.entries p.rows.items p.stamp c.requires.whole)

pub returns-then-is_told-clause-settled : goal.returns-then-is_told-clause-settled
returns-then-is_told-clause-settled c =
    let p = c.args.parts.now in
    told_settled p.numbers.entries p.rows.items p.stamp c.requires.whole c.args.id c.args.marks.now c.requires.marked c.args.at c.requires.here c.cut_rows.new.rows.items
    c.wake_all.new.marks c.cut_rows.ensures
    c.wake_all.ensures

pub end_marked-requires-clause-may : goal.end_marked-requires-clause-may
end_marked-requires-clause-may c n h =
    let p = c.args.parts.now in
    let untold : is_told (row_in p.rows.items c.args.at) ≡ false = ap (λ (rs : List Row). is_told (row_in rs c.args.at)) (sym c.deref.ensures.value) ∙ (sym c.is_told.ensures ∙ c.if-is_told.false) in
    inr (ap (λ j. is_told (row_in p.rows.items j)) (one_found c.args.at n (lookup (is_txn c.args.id) p.numbers.entries) c.requires.here h) ∙ untold)

pub returns-clause-settled : goal.returns-clause-settled
returns-clause-settled c =
    let p = c.args.parts.now in
    let untold : is_told (row_in p.rows.items c.args.at) ≡ false = ap (λ (rs : List Row). is_told (row_in rs c.args.at)) (sym c.deref.ensures.value) ∙ (sym c.is_told.ensures ∙ c.if-is_told.false) in
    untold_settled p.numbers.entries p.rows.items p.stamp c.requires.whole c.args.id c.args.marks.now c.requires.marked c.args.at c.requires.here c.end_marked.new.parts.rows.items
    c.end_marked.new.marks
    untold c.end_marked.ensures.marked c.end_marked.ensures.lists c.end_marked.ensures.ends

pub returns-then-is_told-clause-leads : goal.returns-then-is_told-clause-leads
returns-then-is_told-clause-leads c = cut_but c.args.at c.args.parts.now.rows.items c.cut_rows.new.rows.items c.cut_rows.ensures

pub returns-clause-leads : goal.returns-clause-leads
returns-clause-leads c =
    let p = c.args.parts.now in
    let untold : is_told (row_in p.rows.items c.args.at) ≡ false = ap (λ (rs : List Row). is_told (row_in rs c.args.at)) (sym c.deref.ensures.value) ∙ (sym c.is_told.ensures ∙ c.if-is_told.false) in
    out_but c.args.at p.rows.items c.end_marked.new.parts.rows.items (c.end_marked.ensures.out c.args.at c.requires.here) untold

pub wake_all-requires : goal.wake_all-requires
wake_all-requires c = subst (λ (ns : List ℕ). HasWaiting c.args.marks.now ns) (sym c.deref-then-is_told.ensures.value) c.requires.undecided.waiting

pub returns-then-is_told-clause-undecided : goal.returns-then-is_told-clause-undecided
returns-then-is_told-clause-undecided c =
    let p = c.args.parts.now in
    subst (λ (rs : List Row). AreOpen rs c.wake_all.new.marks p.undecided.items) (sym c.cut_rows.ensures)
    (open_awake p.rows.items (rows_but (Some c.args.at) p.rows.items) c.args.marks.now c.wake_all.new.marks p.undecided.items c.requires.undecided c.wake_all.ensures
    (told_but (Some c.args.at) p.rows.items))
