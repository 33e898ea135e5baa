use Rattle.std.proofs.Common.{◌≡◌, ◌∙◌, Some, ap, sym}
use Rattle.std.specs.Map.{lookup}
use Rattle.roc_base.specs.TxnId.{is_txn}
use Rattle.roc_server_table.specs.Inner.Among.{followed_from}
use Rattle.roc_server_rows.proofs.Alive.{row_within}
use Rattle.roc_server_table.proofs.FoundRows.{links_absent, links_here}
use Rattle.roc_server_table.proofs.components.told_row.Goals as goal

pub told_row_at-requires : goal.told_row_at-requires
told_row_at-requires c =
    let here : lookup (is_txn c.args.id) c.args.numbers.now.entries ≡ Some c.in-Some.at = sym c.in-Some.ensures in
    row_within c.args.rows.now c.in-Some.at (c.requires.found c.args.id c.in-Some.at here).live

pub returns-in-Some : goal.returns-in-Some
returns-in-Some c =
    let here : lookup (is_txn c.args.id) c.args.numbers.now.entries ≡ Some c.in-Some.at = sym c.in-Some.ensures in
    links_here c.args.numbers.now.entries c.args.rows.now c.args.stamp c.requires c.args.id c.in-Some.at here ∙ ap (followed_from c.args.rows.now) (sym c.told_row_at.ensures)

pub returns-in-None : goal.returns-in-None
returns-in-None c = links_absent c.args.numbers.now.entries c.args.rows.now c.args.stamp c.requires c.args.id (sym c.in-None.ensures)
