use Rattle.std.proofs.Common.{ap, ◌∙◌}
use Rattle.roc_server_index.specs.GroupRefs.{group_refs_at}
use Rattle.roc_server_groups.specs.GroupsNow.{GroupsNow}
use Rattle.roc_server_groups.proofs.server_groups.ServerGroups.renew.Goals as goal

pub returns-clause-index : goal.returns-clause-index
returns-clause-index c decided at = ap (λ (g : GroupsNow). group_refs_at at g.index) c.replace-2.ensures.after ∙ c.new.ensures.index decided at
