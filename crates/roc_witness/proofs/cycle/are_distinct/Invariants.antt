use Rattle.std.proofs.Common.{◌↔◌, length}
use Rattle.roc_sequence.specs.Places.{NoneTwice}
use Rattle.roc_scgraph.specs.Graph.{is_vertex}
use Rattle.roc_witness.proofs.cycle.are_distinct.Given as goal

abbrev pub invariant-loop-first : goal.invariant-loop-first
invariant-loop-first l = NoneTwice is_vertex l.vertices ↔ NoneTwice is_vertex l.rest

abbrev pub decreases-loop-first : goal.decreases-loop-first
decreases-loop-first l = length l.rest
