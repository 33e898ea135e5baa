use Rattle.std.proofs.Common.{ap, subst}
use Rattle.roc_sequence.specs.Places.{NoneTwice}
use Rattle.roc_server_groups.specs.Groups.{is_same_group}
use Rattle.roc_server_groups.specs.GroupsNow.{GroupsNow}
use Rattle.roc_server_groups.proofs.Tried.{once_ran}
use Rattle.roc_server_groups.proofs.server_groups.ServerGroups.started.Goals as goal

pub returns-clause-once : goal.returns-clause-once
returns-clause-once c = subst (NoneTwice is_same_group) (ap (λ (g : GroupsNow). g.ran) c.self.view_is) (once_ran c.self.inside.earlier.items c.self.inside.started.groups c.self.invariant.once)
