use Rattle.std.proofs.Common.{map, filter, take}
use Rattle.roc_msg.specs.Outbox.{HasSent}
use Rattle.roc_step.specs.Runs.{commitok}
use Rattle.roc_step.specs.State.{is_here}
use Rattle.roc_server_groups.proofs.commitoks.send_commitoks.Given as goal

-- those so far that have a group here were answered
abbrev pub invariant-loop-id : goal.invariant-loop-id
invariant-loop-id l = HasSent l.initial.outbox l.outbox (map (commitok l.plan l.shard l.started.groups) (filter (λ t. is_here t l.started.groups) (take l.id-index l.ids)))
