use Rattle.std.proofs.Common.{slice_get, ap, ◌∙◌}
use Rattle.std.specs.Option.{option_and_then}
use Rattle.roc_base.specs.TxnId.{is_txn}
use Rattle.roc_server_groups.proofs.Placed.{found_by_place}
use Rattle.roc_server_groups.proofs.groups.first_group.Goals as goal

pub returns : goal.returns
returns c = c.group_at.ensures ∙ ap (option_and_then (slice_get c.args.started.now.groups)) c.first.ensures ∙ found_by_place (λ e. is_txn e.id c.args.id) c.args.started.now.groups
