-- The test of all is that of those left, with the room that is left, and where those left are in range, all are.
use Rattle.std.proofs.Common.{◌≡◌, drop}
use Rattle.roc_msg.specs.Facts.{most_fact_edges}
use Rattle.roc_log.specs.Spellable.{lists_in_range}
use Rattle.roc_log.specs.Inner.InRange.{AreInRange}
use Rattle.roc_log.proofs.spellable.lists_in_range.Given as goal

abbrev pub invariant-loop-fact : goal.invariant-loop-fact
invariant-loop-fact l = (lists_in_range l.entries (drop l.fact-index l.facts) ≡ lists_in_range most_fact_edges l.facts) × (AreInRange l.entries (drop l.fact-index l.facts) → AreInRange most_fact_edges l.facts)
