-- A child runs for each list of words before this one.
use Rattle.std.proofs.Common.{◌≡◌, map, take}
use Rattle.roc_io.specs.declared.spawner.AllStarted.TheVariants.{Ok}
use Rattle.roc_io.specs.Spawner.{StartsAll, command_words}
use Rattle.roc_io.proofs.spawner.start_all.Given as goal

abbrev pub invariant-loop-words : goal.invariant-loop-words
invariant-loop-words g l =
    let P = g.P.Spawner in
    StartsAll Ok (P.started l.fn.spawner) (P.started l.spawner) (map command_words (take l.words-index l.commands)) l.fn.children.items l.children.items
    × (P.faults l.spawner ≡ P.faults l.fn.spawner)
    × (P.awaited l.spawner ≡ P.awaited l.fn.spawner)
    × (P.sent_at_waits l.spawner ≡ P.sent_at_waits l.fn.spawner)
