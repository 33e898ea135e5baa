use Rattle.std.proofs.Common.{◌≡◌, ◌+◌, length}
use Rattle.roc_witness.specs.Inner.Walks.{may_step, AreLevels, HasNoShortWalk}
use Rattle.roc_witness.proofs.walks.Walks.shortest.Given as goal

abbrev pub invariant-loop-left : goal.invariant-loop-left
invariant-loop-left l =
    (length l.levels.items ≡ l.left + 1) × AreLevels (may_step l.table l.self.start) l.self.vertices l.self.goal l.levels.items
    × HasNoShortWalk (may_step l.table l.self.start) l.self.vertices l.self.start l.self.goal l.left
