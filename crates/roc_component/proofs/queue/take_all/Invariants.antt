use Rattle.std.proofs.Common.{[]}
use Rattle.std.specs.BTreeMap.{btree_map_len}
use Rattle.roc_component.specs.Inner.Queue.{IsQueueOf, left_of}
use Rattle.roc_component.specs.Inner.Turns.{AreTurnsTaken, ArePartsOf}
use Rattle.roc_component.proofs.queue.take_all.Given as goal

abbrev pub invariant-take : goal.invariant-take
invariant-take l = AreTurnsTaken l.fn.turns.items l.taken × IsQueueOf l.fn.turns.items l.taken [] [] (left_of l.left) l.queue × ArePartsOf l.fn.turns.items l.taken l.parts.items

abbrev pub decreases-take : goal.decreases-take
decreases-take l = btree_map_len l.left
