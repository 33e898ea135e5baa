use Rattle.std.proofs.Common.{◌≡◌, take}
use Rattle.roc_server_table.specs.Inner.Leading.{starts_of}
use Rattle.roc_server_table.proofs.leading.starts_of.Given as goal

abbrev pub invariant-loop-edge : goal.invariant-loop-edge
invariant-loop-edge l = l.starts.items ≡ starts_of l.numbers.entries (take l.edge-index l.edges)
