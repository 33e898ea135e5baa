use Rattle.std.proofs.Common.{◌≡◌, List, None, Some, sym, subst}
use Rattle.std.specs.Map.{lookup}
use Rattle.roc_base.specs.TxnId.{is_txn}
use Rattle.roc_server_rows.specs.declared.rows.Row.{Row}
use Rattle.roc_server_table.specs.Inner.Leading.{AreBits}
use Rattle.roc_server_table.proofs.LeadingRows.{back_bits}
use Rattle.roc_server_table.proofs.changes.untell_noted.Goals as goal

pub returns-in-Some-clause-bits : goal.returns-in-Some-clause-bits
returns-in-Some-clause-bits c =
    let here : lookup (is_txn c.args.id) c.args.parts.now.numbers.entries ≡ Some c.in-Some.at = sym c.in-Some.ensures in
    back_bits c.in-Some.at c.args.parts.now.rows.items c.untell.new.parts.rows.items (c.untell.ensures.taken c.in-Some.at here)
    c.args.bits.now c.clear_row.new.self c.requires.bits c.clear_row.ensures

pub returns-in-None-clause-bits : goal.returns-in-None-clause-bits
returns-in-None-clause-bits c =
    let absent : lookup (is_txn c.args.id) c.args.parts.now.numbers.entries ≡ None = sym c.in-None.ensures in
    subst (λ (rs : List Row). AreBits rs c.args.bits.now) (sym (c.untell-in-None.ensures.same absent)) c.requires.bits
