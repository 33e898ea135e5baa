use Rattle.std.proofs.Common.{◌≡◌, None, Some, sym, arith}
use Rattle.std.proofs.lemmas.List.{length-set}
use Rattle.std.specs.Map.{lookup}
use Rattle.roc_base.specs.TxnId.{is_txn}
use Rattle.roc_server_rows.proofs.Alive.{row_within}
use Rattle.roc_server_rows.proofs.Ended.{absent_lists, end_lists, end_table}
use Rattle.roc_server_rows.proofs.rows.end.Goals as goal

pub index_mut-requires : goal.index_mut-requires
index_mut-requires c =
    let p = c.args.parts.now in
    let here : lookup (is_txn c.args.id) p.numbers.entries ≡ Some c.in-Some.at = sym c.in-Some.ensures.value in
    let within = row_within p.rows.items c.in-Some.at (c.requires.whole.found c.args.id c.in-Some.at here).live in
    omega (arith, within, p.rows.ok.0)

pub returns-in-Some-clause-whole : goal.returns-in-Some-clause-whole
returns-in-Some-clause-whole c =
    let p = c.args.parts.now in
    let r = c.unknown_row-row.ensures in
    let here : lookup (is_txn c.args.id) p.numbers.entries ≡ Some c.in-Some.at = sym c.in-Some.ensures.value in
    end_table p.numbers.entries p.rows.items p.stamp c.requires.whole c.args.id c.in-Some.at here _ r.birth r.turn r.edges r.names c.remove.new.self.entries c.in-Some.ensures.updates.0

pub returns-in-Some-clause-lists : goal.returns-in-Some-clause-lists
returns-in-Some-clause-lists c =
    let p = c.args.parts.now in
    let r = c.unknown_row-row.ensures in
    let here : lookup (is_txn c.args.id) p.numbers.entries ≡ Some c.in-Some.at = sym c.in-Some.ensures.value in
    end_lists p.numbers.entries p.rows.items p.stamp c.requires.whole c.args.id c.in-Some.at here _ r.birth r.turn r.edges r.names

pub returns-in_default-clause-lists : goal.returns-in_default-clause-lists
returns-in_default-clause-lists c =
    let p = c.args.parts.now in
    let absent : lookup (is_txn c.args.id) p.numbers.entries ≡ None = sym c.in_default.ensures.value in
    absent_lists p.numbers.entries p.rows.items p.stamp c.requires.whole c.args.id absent

pub returns-in-Some-clause-each : goal.returns-in-Some-clause-each
returns-in-Some-clause-each c = length-set c.args.parts.now.rows.items c.in-Some.at _
