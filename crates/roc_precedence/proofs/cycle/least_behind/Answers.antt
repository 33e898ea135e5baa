use Rattle.std.proofs.Common.{sym, subst}
use Rattle.roc_depgraph.specs.Deps.{Precedes}
use Rattle.roc_precedence.specs.Inner.Rounds.{IsLeastBehind}
use Rattle.roc_precedence.proofs.Ways.{unwrapped}
use Rattle.roc_precedence.proofs.cycle.least_behind.Goals as goal

pub returns : goal.returns
returns c =
    subst (IsLeastBehind (Precedes c.args.lists.now) c.args.id c.args.level.now) (sym c.unwrap_or.ensures)
    (unwrapped (Precedes c.args.lists.now) c.args.id c.args.id c.args.level.now c.least_or_none.result c.requires c.least_or_none.ensures)
