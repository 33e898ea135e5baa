use Rattle.std.proofs.Common.{◌≡◌, map, filter, take}
use Rattle.roc_step.specs.Waiting.{is_waiting, waiting_of}
use Rattle.roc_server.proofs.waiting.all_waiting.Given as goal

-- those so far that wait
abbrev pub invariant-loop-group : goal.invariant-loop-group
invariant-loop-group l = l.groups.items ≡ map waiting_of (filter (is_waiting l.plan l.parts.lists.decided) (take l.group-index l.group-items))
