use Rattle.std.proofs.Common.{◌≡◌, filter, take}
use Rattle.roc_server_groups.proofs.LeftOut.{left_of}
use Rattle.roc_server_groups.proofs.started_groups.take_out_each.Given as goal

-- those of the transactions so far are out
abbrev pub invariant-loop-id : goal.invariant-loop-id
invariant-loop-id l = l.groups.entries ≡ filter (left_of (take l.id-index l.ids)) l.initial.groups.entries
