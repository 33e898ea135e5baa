use Rattle.std.proofs.Common.{◌∙◌, ap}
use Rattle.std.specs.Map.{values_of}
use Rattle.roc_step.specs.State.{is_here}
use Rattle.roc_server_groups.specs.Entered.{Entered}
use Rattle.roc_server_groups.proofs.FirstGroups.{here_by_first}
use Rattle.roc_server_groups.proofs.started_groups.StartedGroups.has.Goals as goal

pub returns : goal.returns
returns c =
    c.contains_key.ensures ∙ here_by_first c.self.inside.firsts.entries (values_of c.self.inside.groups.entries) c.self.invariant.first c.args.id
    ∙ ap (λ (v : Entered). is_here c.args.id v.groups) c.self.view_is
