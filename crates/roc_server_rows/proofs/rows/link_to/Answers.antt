use Rattle.std.proofs.Common.{◌≡◌, Some, length, sym, ap, arith}
use Rattle.std.specs.Map.{lookup}
use Rattle.roc_base.specs.TxnId.{is_txn}
use Rattle.roc_server_rows.proofs.Alive.{row_within}
use Rattle.roc_server_rows.proofs.rows.link_to.Goals as goal

pub link_at-requires : goal.link_at-requires
link_at-requires c =
    let p = c.args.parts.now in
    let here : lookup (is_txn c.args.id) p.numbers.entries ≡ Some c.in-Some.at = sym c.in-Some.ensures in
    let within = row_within p.rows.items c.in-Some.at (c.requires.whole.found c.args.id c.in-Some.at here).live in
    omega (arith, within, ap length c.deref.ensures.value)
