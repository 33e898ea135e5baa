-- The test of all is that of those left, and where those left are in range, all are.
use Rattle.std.proofs.Common.{◌≡◌, drop}
use Rattle.std.specs.List.{list_all, AllByRecursion}
use Rattle.roc_log.specs.Spellable.{edge_in_range}
use Rattle.roc_log.specs.Inner.InRange.{InRange}
use Rattle.roc_log.proofs.spellable.all_in_range.Given as goal

abbrev pub invariant-loop-edge : goal.invariant-loop-edge
invariant-loop-edge l = (list_all edge_in_range (drop l.edge-index l.edges) ≡ list_all edge_in_range l.edges) × (AllByRecursion InRange (drop l.edge-index l.edges) → AllByRecursion InRange l.edges)
