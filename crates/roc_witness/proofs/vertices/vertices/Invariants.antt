use Rattle.std.proofs.Common.{◌≡◌}
use Rattle.std.specs.List.{flat_map, range_with_len}
use Rattle.roc_witness.specs.Inner.Vertices.{vertices_in}
use Rattle.roc_witness.proofs.vertices.vertices.Given as goal

abbrev pub invariant-loop-proc : goal.invariant-loop-proc
invariant-loop-proc l = l.vertices.items ≡ flat_map (vertices_in l.workload) (range_with_len 0 l.proc)
