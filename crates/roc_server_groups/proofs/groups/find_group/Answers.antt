use Rattle.std.proofs.Common.{slice_get, ap, ◌∙◌}
use Rattle.std.specs.Option.{option_and_then}
use Rattle.roc_server_groups.proofs.Placed.{found_by_place}
use Rattle.roc_step.specs.State.{is_group}
use Rattle.roc_server_groups.proofs.groups.find_group.Goals as goal

pub returns : goal.returns
returns c = c.group_at.ensures ∙ ap (option_and_then (slice_get c.args.started.now.groups)) c.place_of_group.ensures ∙ found_by_place (is_group c.args.id c.args.group) c.args.started.now.groups
