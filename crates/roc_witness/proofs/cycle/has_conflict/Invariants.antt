use Rattle.std.proofs.Common.{◌≡◌, drop}
use Rattle.std.specs.List.{list_any}
use Rattle.roc_conflict.specs.Classes.{is_immediate}
use Rattle.roc_scgraph.specs.Graph.{edge}
use Rattle.roc_scgraph.specs.Cycles.{steps_to, is_conflict_edge}
use Rattle.roc_witness.proofs.cycle.has_conflict.Given as goal

abbrev pub invariant-loop-next : goal.invariant-loop-next
invariant-loop-next l =
    list_any (λ n. is_conflict_edge (edge l.workload (is_immediate l.classes) n.0 n.1)) (steps_to l.from (drop l.next-index l.rest) l.first)
    ≡ list_any (λ n. is_conflict_edge (edge l.workload (is_immediate l.classes) n.0 n.1)) (steps_to l.first l.rest l.first)
