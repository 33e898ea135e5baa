use Rattle.std.proofs.Common.{◌≡◌, take}
use Rattle.std.specs.List.{flat_map}
use Rattle.roc_rows.specs.Store.{entries}
use Rattle.roc_world.proofs.reads.cells_of.Given as goal

abbrev pub invariant-loop-server : goal.invariant-loop-server
invariant-loop-server l = l.cells.items ≡ flat_map (λ s. entries s.core.store) (take l.server-index l.servers)
