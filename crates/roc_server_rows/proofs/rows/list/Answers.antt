use Rattle.std.proofs.Common.{◌≡◌, ◌∙◌, Some, sym}
use Rattle.std.specs.Map.{lookup}
use Rattle.roc_base.specs.TxnId.{is_txn}
use Rattle.roc_server_rows.proofs.Alive.{row_within}
use Rattle.roc_server_rows.proofs.Looked.{absent_list, here_list}
use Rattle.roc_server_rows.proofs.rows.list.Goals as goal

pub told_at-requires : goal.told_at-requires
told_at-requires c =
    let here : lookup (is_txn c.args.id) c.args.numbers.now.entries ≡ Some c.in-Some.at = sym c.in-Some.ensures in
    row_within c.args.rows.now c.in-Some.at (c.requires.whole.found c.args.id c.in-Some.at here).live

pub returns-in-Some : goal.returns-in-Some
returns-in-Some c =
    let here : lookup (is_txn c.args.id) c.args.numbers.now.entries ≡ Some c.in-Some.at = sym c.in-Some.ensures in
    c.told_at.ensures ∙ sym (here_list c.args.numbers.now.entries c.args.rows.now c.args.stamp c.requires.whole c.args.id c.in-Some.at here)

pub returns-in-None : goal.returns-in-None
returns-in-None c = sym (absent_list c.args.numbers.now.entries c.args.rows.now c.args.stamp c.requires.whole c.args.id (sym c.in-None.ensures))
