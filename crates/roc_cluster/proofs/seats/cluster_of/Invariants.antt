use Rattle.roc_cluster.specs.Inner.Judged.{Seats}
use Rattle.roc_cluster.proofs.seats.cluster_of.Given as goal

abbrev pub invariant-loop-number : goal.invariant-loop-number
invariant-loop-number l = Seats l.number l.entries l.addrs
