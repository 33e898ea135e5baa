-- none of those so far is a read
use Rattle.std.proofs.Common.{◌≡◌, [], take}
use Rattle.roc_world.proofs.FirstReads.{reads_in}
use Rattle.roc_world.proofs.looks.note_looks.Given as goal

abbrev pub invariant-loop-message : goal.invariant-loop-message
invariant-loop-message l = record { same : l.looks.items ≡ l.fn.looks.items; none : reads_in (take l.message-index l.messages) ≡ [] }
