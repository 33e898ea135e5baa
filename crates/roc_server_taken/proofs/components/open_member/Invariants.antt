use Rattle.std.proofs.Common.{◌≡◌, true, take}
use Rattle.std.specs.List.{list_all}
use Rattle.roc_step.specs.Below.{is_ended}
use Rattle.roc_server_taken.proofs.components.open_member.Given as goal

-- those so far are ended
abbrev pub invariant-loop-id : goal.invariant-loop-id
invariant-loop-id l = list_all (is_ended l.marks) (take l.id-index l.members) ≡ true
