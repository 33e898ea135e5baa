use Rattle.std.proofs.Common.{◌≡◌, ◌∙◌, ℕ, None, Some, length, set, sym, ap, subst, arith}
use Rattle.std.proofs.lemmas.List.{length-set}
use Rattle.std.specs.Map.{lookup}
use Rattle.roc_base.specs.TxnId.{is_txn}
use Rattle.roc_server_rows.specs.Rows.{row_in}
use Rattle.roc_server_rows.proofs.Alive.{row_within}
use Rattle.roc_server_rows.specs.Marks.{IsTakenBack}
use Rattle.roc_server_rows.proofs.Untold.{untold_back, untold_lists, untold_none, untold_table}
use Rattle.roc_server_rows.proofs.rows.untell.Goals as goal

pub link_at-birth-requires : goal.link_at-birth-requires
link_at-birth-requires c =
    let p = c.args.parts.now in
    let here : lookup (is_txn c.args.id) p.numbers.entries ≡ Some c.in-Some.at = sym c.in-Some.ensures in
    let within = row_within p.rows.items c.in-Some.at (c.requires.whole.found c.args.id c.in-Some.at here).live in
    omega (arith, within, ap length c.deref.ensures.value)

pub returns-in-Some-clause-whole : goal.returns-in-Some-clause-whole
returns-in-Some-clause-whole c =
    let p = c.args.parts.now in
    let r = c.unknown_row-row.ensures in
    let here : lookup (is_txn c.args.id) p.numbers.entries ≡ Some c.in-Some.at = sym c.in-Some.ensures in
    let birth : c.unknown_row-row.result.birth ≡ (row_in p.rows.items c.in-Some.at).birth
    = r.birth ∙ (sym c.link_at-birth.ensures.birth ∙ ap (λ rows. (row_in rows c.in-Some.at).birth) c.deref.ensures.value) in
    untold_table p.numbers.entries p.rows.items p.stamp c.requires.whole c.args.id c.in-Some.at here c.unknown_row-row.result r.id birth r.turn r.edges r.names

pub returns-in-Some-clause-lists : goal.returns-in-Some-clause-lists
returns-in-Some-clause-lists c =
    let p = c.args.parts.now in
    let r = c.unknown_row-row.ensures in
    let here : lookup (is_txn c.args.id) p.numbers.entries ≡ Some c.in-Some.at = sym c.in-Some.ensures in
    let birth : c.unknown_row-row.result.birth ≡ (row_in p.rows.items c.in-Some.at).birth
    = r.birth ∙ (sym c.link_at-birth.ensures.birth ∙ ap (λ rows. (row_in rows c.in-Some.at).birth) c.deref.ensures.value) in
    untold_lists p.numbers.entries p.rows.items p.stamp c.requires.whole c.args.id c.in-Some.at here c.unknown_row-row.result r.id birth r.turn r.edges r.names

pub returns-in_default-clause-lists : goal.returns-in_default-clause-lists
returns-in_default-clause-lists c =
    let p = c.args.parts.now in
    untold_none p.numbers.entries p.rows.items p.stamp c.requires.whole c.args.id (sym c.in_default.ensures)

pub returns-in-Some-clause-taken : goal.returns-in-Some-clause-taken
returns-in-Some-clause-taken c = λ n there.
    let p = c.args.parts.now in
    let r = c.unknown_row-row.ensures in
    let here : lookup (is_txn c.args.id) p.numbers.entries ≡ Some c.in-Some.at = sym c.in-Some.ensures in
    let birth : c.unknown_row-row.result.birth ≡ (row_in p.rows.items c.in-Some.at).birth
    = r.birth ∙ (sym c.link_at-birth.ensures.birth ∙ ap (λ rows. (row_in rows c.in-Some.at).birth) c.deref.ensures.value) in
    let two : Some c.in-Some.at ≡ Some n = sym here ∙ there in
    let one : c.in-Some.at ≡ n = cc in
    subst (λ (k : ℕ). IsTakenBack k p.rows.items (set p.rows.items c.in-Some.at c.unknown_row-row.result)) one
    (untold_back p.numbers.entries p.rows.items p.stamp c.requires.whole c.args.id c.in-Some.at here c.unknown_row-row.result r.id birth r.turn r.edges r.names)

pub returns-in-Some-clause-each : goal.returns-in-Some-clause-each
returns-in-Some-clause-each c = length-set c.args.parts.now.rows.items c.in-Some.at c.unknown_row-row.result

pub returns-in-Some-clause-same : goal.returns-in-Some-clause-same
returns-in-Some-clause-same c = λ absent.
    let no : None ≡ Some c.in-Some.at = sym absent ∙ sym c.in-Some.ensures in
    absurd (cc)
