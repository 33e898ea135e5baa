use Rattle.std.proofs.Common.{ap}
use Rattle.std.specs.List.{flat_map, range_with_len}
use Rattle.roc_program.proofs.Ranges.{lists_pushed}
use Rattle.roc_witness.specs.Inner.Vertices.{instances_of, vertices_in}
use Rattle.roc_witness.proofs.vertices.vertices.Goals as goal

pub loop-proc-preserved : goal.loop-proc-preserved
loop-proc-preserved c =
    lists_pushed c.loop-proc.vertices.items (flat_map (instances_of c.loop-proc.proc) (range_with_len 0 c.piece_count.result)) c.push_vertices.new.vertices.items (vertices_in c.args.workload.now) c.loop-proc.proc
    c.in_ok-push_vertices.ensures c.loop-proc.invariant (ap (λ n. flat_map (instances_of c.loop-proc.proc) (range_with_len 0 n)) c.piece_count.ensures)
