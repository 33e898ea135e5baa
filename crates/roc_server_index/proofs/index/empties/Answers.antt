use Rattle.std.proofs.Common.{rules, arith, ◌≡◌, ◌∙◌, [], Some, None, length, sym, ap, subst}
use Rattle.std.specs.Map.{lookup}
use Rattle.std.proofs.lemmas.Bool.{eqb-true, eqb-false}
use Rattle.std.proofs.lemmas.List.{nil_from_length}
use Rattle.roc_rows.specs.Cells.{is_cell}
use Rattle.roc_server_index.specs.GroupRefs.{cell_refs_at, group_refs_at, without, ChangesAt}
use Rattle.roc_server_index.specs.Inner.Held.{held, cell_refs}
use Rattle.roc_server_index.proofs.Changed.{found, refs_in, cell_refs_found, none_held, set_at, changes, stays}
use Rattle.roc_server_index.proofs.index.empties.Goals as goal

pub returns-in-Some-clause-changes : goal.returns-in-Some-clause-changes
returns-in-Some-clause-changes c =
    let was : cell_refs c.in-Some.group_refs.now ≡ cell_refs_at c.args.cell (held c.args.cells.now.entries) = ap found c.in-Some.ensures.value ∙ sym (cell_refs_found c.args.cell c.args.cells.now.entries) in
    changes c.args.cell _ _ _ (set_at c.args.cell _ _ (Some c.take_out_all.new.group_refs) ((c.get_mut.follows.holds c.take_out_all.new.group_refs).3 (search rules)).0)
    (without c.args.id) (c.take_out_all.ensures ∙ ap (λ r. without c.args.id (refs_in r)) was)

pub returns-in-Some-clause-none : goal.returns-in-Some-clause-none
returns-in-Some-clause-none c e =
    let now = (c.get_mut.follows.holds c.take_out_all.new.group_refs).3 (search rules) in
    let empty = eqb-true _ 0 (sym c.is_empty.ensures ∙ e) in
    let none : length c.take_out_all.new.group_refs.items ≡ 0 = omega (arith, c.take_out_all.new.group_refs.ok, empty) in
    ap refs_in (cell_refs_found c.args.cell _ ∙ ap found now.1) ∙ nil_from_length c.take_out_all.new.group_refs.items none

pub returns-in-Some-clause-some : goal.returns-in-Some-clause-some
returns-in-Some-clause-some c e empty =
    let now = (c.get_mut.follows.holds c.take_out_all.new.group_refs).3 (search rules) in
    let none : c.take_out_all.new.group_refs.items ≡ [] = sym (ap refs_in (cell_refs_found c.args.cell _ ∙ ap found now.1)) ∙ empty in
    let len = ap length none in
    absurd (eqb-false _ 0 (sym c.is_empty.ensures ∙ e) (omega (arith, c.take_out_all.new.group_refs.ok, len)))

pub returns-in-None-clause-some : goal.returns-in-None-clause-some
returns-in-None-clause-some c e empty =
    subst (λ m. lookup (is_cell c.args.cell) (held m.entries) ≡ None) (sym c.get_mut.follows.holds-at-none) (none_held c.args.cell c.args.cells.now.entries (sym c.in-None.ensures.value))

pub returns-in-None-clause-changes : goal.returns-in-None-clause-changes
returns-in-None-clause-changes c =
    let before = held c.args.cells.now.entries in
    let none : group_refs_at c.args.cell before ≡ [] = ap refs_in (cell_refs_found c.args.cell c.args.cells.now.entries ∙ sym (ap found c.in-None.ensures.value)) in
    subst (λ m. ChangesAt c.args.cell (without c.args.id) before (held m.entries)) (sym c.get_mut.follows.holds-at-none) (stays c.args.cell (without c.args.id) before (none ∙ ap (without c.args.id) (sym none)))
