use Rattle.std.proofs.Common.{take}
use Rattle.roc_server_groups.specs.Indexed.{group_ref_of}
use Rattle.roc_server_groups.specs.Inner.Changes.{IsAddedAt}
use Rattle.roc_server_groups.proofs.IndexSteps.{KeepsRoomBeside}
use Rattle.roc_server_groups.proofs.indexed.add_group.Given as goal

abbrev pub invariant-loop-access : goal.invariant-loop-access
invariant-loop-access l = record {
  added : IsAddedAt (group_ref_of l.e) (take l.access-index l.access-items) l.initial.index l.index;
  room : KeepsRoomBeside (take l.access-index l.access-items) l.initial.index l.index;
}
