use Rattle.std.proofs.Common.{ap}
use Rattle.roc_server_lists.specs.ListsNow.{KeptLists}
use Rattle.roc_server.proofs.PartsFit.{nothing_sound}
use Rattle.roc_server.proofs.parts.ServerParts.new.Goals as goal

pub returns-clause-sound : goal.returns-clause-sound
returns-clause-sound c = nothing_sound _ c.new.ensures.once c.new-2.ensures.sound c.new.ensures.kept c.new.ensures.index (ap (λ (l : KeptLists). l.lists) c.new-2.ensures.kept)
