use Rattle.std.proofs.Common.{subst}
use Rattle.roc_depgraph.specs.Deps.{Precedes}
use Rattle.roc_precedence.specs.Inner.Rounds.{IsBestRound}
use Rattle.roc_precedence.proofs.cycle.way_found.Goals as goal

pub way_along-requires : goal.way_along-requires
way_along-requires c = (subst (IsBestRound (Precedes c.args.lists.now) c.args.ids.now) c.in-Some.is c.in_ok-best_round.ensures).is

pub returns-in_ok-way-in-Some : goal.returns-in_ok-way-in-Some
returns-in_ok-way-in-Some c =
    (c.in-Some.round.of, c.in-Some.round.levels.items, subst (IsBestRound (Precedes c.args.lists.now) c.args.ids.now) c.in-Some.is c.in_ok-best_round.ensures, c.in_ok-way-in-Some.ensures)
