use Rattle.std.proofs.Common.{take}
use Rattle.roc_server_index.specs.GroupRefs.{HaveSameRefs}
use Rattle.roc_server_groups.specs.Inner.Changes.{HasRoomAtCells}
use Rattle.roc_server_groups.proofs.indexed.reserve_group.Given as goal

abbrev pub invariant-loop-access : goal.invariant-loop-access
invariant-loop-access l = record {
  refs : HaveSameRefs l.initial.index l.index;
  room : HasRoomAtCells (take l.access-index l.access-items) l.index;
}
