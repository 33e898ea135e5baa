use Rattle.std.proofs.Common.{◌≡◌, filter}
use Rattle.roc_server_groups.proofs.LeftOut.{left_up_to}
use Rattle.roc_server_groups.proofs.started_groups.take_out_of.Given as goal

-- those of lower numbers are out
abbrev pub invariant-loop-number : goal.invariant-loop-number
invariant-loop-number l = l.groups.entries ≡ filter (left_up_to l.id l.number) l.initial.groups.entries
