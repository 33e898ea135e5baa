use Rattle.std.proofs.Common.{map, take}
use Rattle.roc_msg.specs.Outbox.{HasRun}
use Rattle.roc_server_groups.proofs.Accesses.{noted}
use Rattle.roc_server_groups.proofs.ran.note_group.Given as goal

abbrev pub invariant-loop-access : goal.invariant-loop-access
invariant-loop-access l = HasRun l.initial.outbox l.outbox (map (noted l.group.id) (take l.access-index l.group.cells))
