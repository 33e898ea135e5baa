use Rattle.roc_server_lists.proofs.NoLists.{nothing_sound}
use Rattle.roc_server_lists.proofs.parts.empty.Goals as goal

pub returns-clause-sound : goal.returns-clause-sound
returns-clause-sound c =
    nothing_sound _ c.new.ensures.known c.new.ensures.links c.new.ensures.decided c.new-2.ensures.waiting c.new-2.ensures.fetches c.new-3.ensures
