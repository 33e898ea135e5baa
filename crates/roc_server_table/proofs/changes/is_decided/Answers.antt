use Rattle.std.proofs.Common.{◌≡◌, ◌∙◌, None, Some, sym, ap}
use Rattle.std.specs.Map.{lookup}
use Rattle.roc_base.specs.TxnId.{is_txn}
use Rattle.roc_server_rows.specs.declared.marks.Mark.{Mark}
use Rattle.roc_server_table.proofs.DecidedIds.{decided_at, decided_none}
use Rattle.roc_server_table.proofs.changes.is_decided.Goals as goal

pub returns-in-Some : goal.returns-in-Some
returns-in-Some c =
    let p = c.args.parts.now in
    let here : lookup (is_txn c.args.id) p.numbers.entries ≡ Some c.in-Some.at = sym c.in-Some.ensures in
    ap (λ (m : Mark). m.decided) c.mark_of.ensures
    ∙ sym (decided_at p.numbers.entries p.rows.items p.stamp c.requires.whole c.args.marks.now c.requires.marked c.args.id c.in-Some.at here)

pub returns-in-None : goal.returns-in-None
returns-in-None c =
    let p = c.args.parts.now in
    let absent : lookup (is_txn c.args.id) p.numbers.entries ≡ None = sym c.in-None.ensures in
    sym (decided_none p.numbers.entries p.rows.items p.stamp c.requires.whole c.args.marks.now c.requires.marked c.args.id absent)
