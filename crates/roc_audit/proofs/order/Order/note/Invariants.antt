use Rattle.std.proofs.Common.{◌≡◌, ◌≤◌, ◌+◌, ◌-◌, length, take, vec_len}
use Rattle.std.specs.HashSet.{spare}
use Rattle.std.specs.Vec.{vec_capacity}
use Rattle.roc_audit.specs.Inner.Members.{AreMembers}
use Rattle.roc_audit.specs.Order.{noted}
use Rattle.roc_audit.proofs.order.Order.note.Given as goal

-- what was noted so far, and room for the rest
abbrev pub invariant-loop-id : goal.invariant-loop-id
invariant-loop-id l = record {
  so_far : l.self-inside.ids.items ≡ noted l.initial.self-inside.ids.items (take l.id-index l.ids);
  members : AreMembers l.self-inside.members l.self-inside.ids.items;
  room : vec_len l.self-inside.ids + (length l.ids - l.id-index) ≤ vec_capacity l.self-inside.ids;
  spare : length l.ids ≤ spare l.self-inside.members + l.id-index;
}
