use Rattle.std.proofs.Common.{◌≡◌, ◌≤◌, ◌+◌, ◌-◌, ◌++◌, length, take, vec_len}
use Rattle.std.specs.Vec.{vec_capacity}
use Rattle.roc_base.specs.Edges.{IsEdgeList, united}
use Rattle.roc_base.proofs.edges.put_all.Given as goal

-- the list so far is the union with what was added so far, and the room for the rest is taken
abbrev pub invariant-loop-edge : goal.invariant-loop-edge
invariant-loop-edge l = record {
  list : IsEdgeList l.edges.items;
  so_far : l.edges.items ≡ united (l.initial.edges.items ++ take l.edge-index l.added);
  room : vec_len l.edges + (length l.added - l.edge-index) ≤ vec_capacity l.edges;
}
