use Rattle.std.proofs.Common.{◌≡◌, ◌++◌, take, length}
use Rattle.std.specs.Int.{w16, to_be_bytes}
use Rattle.std.specs.List.{flat_map}
use Rattle.roc_wire.specs.Spelling.{edge_bytes}
use Rattle.roc_wire.proofs.writing.put_edges.Given as goal

abbrev pub invariant-loop-edge : goal.invariant-loop-edge
invariant-loop-edge l = l.out.items ≡ l.fn.out.items ++ to_be_bytes w16 (length l.edges) ++ flat_map edge_bytes (take l.edge-index l.edges)
