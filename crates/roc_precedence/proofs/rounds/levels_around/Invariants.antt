use Rattle.std.proofs.Common.{◌+◌, ◌-◌, length}
use Rattle.roc_depgraph.proofs.Walk.{named_ids}
use Rattle.roc_precedence.proofs.Back.{IsSearching}
use Rattle.roc_precedence.proofs.rounds.levels_around.Given as goal

abbrev pub invariant-search : goal.invariant-search
invariant-search l = IsSearching l.lists l.fn.id l.found.keys l.levels.items l.level.items

abbrev pub decreases-search : goal.decreases-search
decreases-search l = (length (named_ids l.lists) - length l.found.keys) + length l.level.items
