use Rattle.std.proofs.Common.{◌≡◌, ◌++◌}
use Rattle.std.specs.List.{flat_map, range_with_len}
use Rattle.roc_witness.specs.Inner.Vertices.{instances_of}
use Rattle.roc_witness.proofs.vertices.push_vertices.Given as goal

abbrev pub invariant-loop-piece : goal.invariant-loop-piece
invariant-loop-piece l = l.vertices.items ≡ l.fn.vertices.items ++ flat_map (instances_of l.proc) (range_with_len 0 l.piece)
