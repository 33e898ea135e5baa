use Rattle.std.proofs.Common.{◌≡◌, length, sym, subst, arith}
use Rattle.roc_depgraph.specs.Deps.{Precedes}
use Rattle.roc_precedence.specs.Inner.Rounds.{IsLeastBehind, LeadsInto}
use Rattle.roc_precedence.proofs.Ways.{leads_on, way_more, way_done}
use Rattle.roc_precedence.proofs.cycle.way_along.Goals as goal

pub least_behind-at-requires : goal.least_behind-at-requires
least_behind-at-requires c =
    subst (λ l. LeadsInto (Precedes c.args.lists.now) l c.loop-level.at) (sym c.as_slice.ensures)
    (leads_on (Precedes c.args.lists.now) c.args.round.of (length c.args.round.levels.items) c.loop-level.way.items c.loop-level.at c.loop-level.levels.items c.pop.new.self.items c.in-Some.level
    c.loop-level.invariant c.in-Some.ensures.items)

pub loop-level-preserved : goal.loop-level-preserved
loop-level-preserved c =
    way_more (Precedes c.args.lists.now) c.args.round.of (length c.args.round.levels.items) c.loop-level.way.items c.loop-level.at c.loop-level.levels.items c.pop.new.self.items c.in-Some.level
    c.loop-level.invariant c.in-Some.ensures.items c.least_behind-at.result
    (subst (λ l. IsLeastBehind (Precedes c.args.lists.now) c.loop-level.at l c.least_behind-at.result) c.as_slice.ensures c.least_behind-at.ensures)
    c.push.new.self.items c.in_ok-push.ensures.items

pub returns : goal.returns
returns c =
    let none : length c.loop-level.levels.items ≡ 0 = omega (arith, c.loop-level.levels.ok, c.in_default.ensures.cases.0) in
    way_done (Precedes c.args.lists.now) c.args.round.of (length c.args.round.levels.items) c.loop-level.way.items c.loop-level.at c.loop-level.levels.items c.loop-level.invariant none
