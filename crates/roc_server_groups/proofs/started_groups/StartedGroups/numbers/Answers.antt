use Rattle.std.proofs.Common.{ap, subst}
use Rattle.roc_server_groups.specs.Inner.Keyed.{HaveNumbersBelow}
use Rattle.roc_server_groups.specs.Entered.{Entered}
use Rattle.roc_server_groups.proofs.KeyedGroups.{are_below}
use Rattle.roc_server_groups.proofs.started_groups.StartedGroups.numbers.Goals as goal

pub returns : goal.returns
returns c = subst (HaveNumbersBelow c.self.inside.numbers) (ap (λ (v : Entered). v.groups) c.self.view_is) (are_below c.self.inside.groups.entries c.self.inside.numbers c.self.invariant.keyed)
