use Rattle.std.proofs.Common.{◌≡◌, ◌≤◌, ◌+◌, List, length, map, filter, IfOk, sym, subst, arith}
use Rattle.roc_base.specs.Edges.{united}
use Rattle.roc_rows.specs.declared.cell.Cell.{Cell}
use Rattle.roc_server_index.specs.GroupRefs.{CellRefs}
use Rattle.roc_step.specs.Start.{conflicts_before, edge_to, users}
use Rattle.roc_server_groups.specs.Entered.{Entered}
use Rattle.roc_server_groups.specs.Indexed.{IsIndexOf}
use Rattle.roc_server_groups.specs.Inner.Covered.{AreSameUses}
use Rattle.roc_server_groups.proofs.Covered.{same_before, fewer_users}
use Rattle.roc_server_groups.proofs.looks.entries.Goals as goal

pub returns-clause-entries : goal.returns-clause-entries
returns-clause-entries g c decided indexed =
    let p = c.args.starting in
    let plan = c.args.plan.now in
    let uses = c.deref.result.now in
    let lent = c.new-lent.ensures in
    let there = subst (λ (s : Entered). IsIndexOf c.new-lent.result.index.now decided s.groups) (sym lent.started)
    (subst (λ (refs : List (Cell × CellRefs)). IsIndexOf refs decided c.args.started.now.groups) (sym lent.index) indexed) in
    let same = same_before plan decided p.id p.immediate c.args.cells.now uses (subst (AreSameUses c.args.cells.now) (sym c.deref.ensures.value) c.in_ok-uses.ensures) in
    subst (λ before. IfOk c.lent_entries.result (λ edges. edges ≡ united (map (edge_to p.shard p.immediate) (filter before c.args.started.now.groups)))) same
    (subst (λ (s : Entered). IfOk c.lent_entries.result (λ edges. edges ≡ united (map (edge_to p.shard p.immediate) (filter (conflicts_before plan decided p.id p.immediate uses) s.groups)))) lent.started
    (c.lent_entries.ensures.entries decided there))

pub returns-clause-steps : goal.returns-clause-steps
returns-clause-steps g c decided indexed =
    let plan = c.args.plan.now in
    let immediate = c.args.starting.immediate in
    let uses = c.deref.result.now in
    let lent = c.new-lent.ensures in
    let there = subst (λ (s : Entered). IsIndexOf c.new-lent.result.index.now decided s.groups) (sym lent.started)
    (subst (λ (refs : List (Cell × CellRefs)). IsIndexOf refs decided c.args.started.now.groups) (sym lent.index) indexed) in
    let same = subst (AreSameUses c.args.cells.now) (sym c.deref.ensures.value) c.in_ok-uses.ensures in
    let few = fewer_users plan decided immediate c.args.cells.now uses c.args.started.now.groups same in
    let steps = subst (λ (s : Entered). c.lent_entries.new.steps ≤ c.args.steps.now + length (users plan decided immediate uses s.groups)) lent.started (c.lent_entries.ensures.steps decided there) in
    omega (arith, few, steps)
