use Rattle.std.proofs.Common.{◌≡◌, [], None, refl, sym, subst}
use Rattle.std.specs.Map.{lookup}
use Rattle.roc_rows.specs.Cells.{is_cell}
use Rattle.roc_server_index.specs.GroupRefs.{without, ChangesAt}
use Rattle.roc_server_index.specs.Inner.Held.{held}
use Rattle.roc_server_index.proofs.Changed.{set_at, removed_at, changes, emptied}
use Rattle.roc_server_index.proofs.index.Index.take_out.Goals as goal
use Rattle.roc_server_index.proofs.index.Index.take_out.Goals.{in-Some-1, in-None-1}

pub returns-then-empties-clause-changes : goal.returns-then-empties-clause-changes
returns-then-empties-clause-changes c =
    let now = held c.remove-group_refs.new.self.entries in
    let removed : ChangesAt c.args.cell (λ ss. []) (held c.empties.new.cells.entries) now =
    changes c.args.cell _ _ _ (set_at c.args.cell c.empties.new.cells.entries c.remove-group_refs.new.self.entries None c.remove-group_refs.ensures.updates.0) (λ ss. []) refl in
    let done : ChangesAt c.args.cell (without c.args.id) c.args.self.now now =
    subst (λ v. ChangesAt c.args.cell (without c.args.id) v now) c.self.view_is
    (emptied c.args.cell (without c.args.id) _ _ now c.empties.ensures.changes (c.empties.ensures.none c.if-empties.true) removed) in
    elim c.match-group_refs.branch [
      | in-Some-1 w ↦ subst (ChangesAt c.args.cell (without c.args.id) c.args.self.now) (sym w.self-is) done
      | in-None-1 w ↦ subst (ChangesAt c.args.cell (without c.args.id) c.args.self.now) (sym w.self-is) done
    ]

pub returns-then-empties-clause-let_go : goal.returns-then-empties-clause-let_go
returns-then-empties-clause-let_go c none =
    let gone : lookup (is_cell c.args.cell) (held c.remove-group_refs.new.self.entries) ≡ None =
    removed_at c.args.cell c.empties.new.cells.entries c.remove-group_refs.new.self.entries c.remove-group_refs.ensures.updates.0 in
    elim c.match-group_refs.branch [
      | in-Some-1 w ↦ subst (λ v. lookup (is_cell c.args.cell) v ≡ None) (sym w.self-is) gone
      | in-None-1 w ↦ subst (λ v. lookup (is_cell c.args.cell) v ≡ None) (sym w.self-is) gone
    ]
