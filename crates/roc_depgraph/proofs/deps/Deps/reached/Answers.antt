use Rattle.std.proofs.Common.{◌≡◌, arith, rules, ◌∙◌, ap, sym, subst, Some, length}
use Rattle.roc_depgraph.specs.Closure.{IsRisingListOf}
use Rattle.roc_depgraph.specs.Deps.{Precedes}
use Rattle.roc_depgraph.specs.Reach.{ReachesOrIs}
use Rattle.roc_depgraph.proofs.Walk.{turn_known, turn_unknown, search_done}
use Rattle.roc_depgraph.proofs.deps.Deps.reached.Goals as goal

pub walk-smaller-in_ok-visit : goal.walk-smaller-in_ok-visit
walk-smaller-in_ok-visit c = (turn_known c.args.self.now c.args.id c.walk.found.keys c.walk.todo.items c.pop.new.self.items c.visit.new.found.keys c.visit.new.todo.items c.in-Some.next c.as_slice.result.now c.walk.invariant c.in-Some.ensures.items (ap Some c.as_slice.ensures.entries ∙ c.in-Some-list.ensures) c.in_ok-visit.ensures).smaller

pub walk-preserved-in_ok-visit : goal.walk-preserved-in_ok-visit
walk-preserved-in_ok-visit c = (turn_known c.args.self.now c.args.id c.walk.found.keys c.walk.todo.items c.pop.new.self.items c.visit.new.found.keys c.visit.new.todo.items c.in-Some.next c.as_slice.result.now c.walk.invariant c.in-Some.ensures.items (ap Some c.as_slice.ensures.entries ∙ c.in-Some-list.ensures) c.in_ok-visit.ensures).search

pub walk-preserved : goal.walk-preserved
walk-preserved c = (turn_unknown c.args.self.now c.args.id c.walk.found.keys c.walk.todo.items c.pop.new.self.items c.in-Some.next c.walk.invariant c.in-Some.ensures.items c.in_default-list.ensures).search

pub returns : goal.returns
returns c =
    let e : c.in_ok-collect.field-0.items ≡ c.walk.found.keys = search rules in
    let z : length c.walk.todo.items ≡ 0 = omega (arith, c.walk.todo.ok, c.in_default.ensures.cases.0) in
    subst (IsRisingListOf (λ u. ReachesOrIs (Precedes c.args.self.now) u c.args.id)) (sym e)
    (search_done c.args.self.now c.args.id c.walk.found.keys c.walk.todo.items c.walk.invariant z)
