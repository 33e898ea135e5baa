use Rattle.std.proofs.Common.{ap}
use Rattle.roc_server_lists.specs.ListsNow.{KeptLists}
use Rattle.roc_server.proofs.PartsFit.{nothing_sound}
use Rattle.roc_server.proofs.parts.renew.Goals as goal

pub returns-clause-sound : goal.returns-clause-sound
returns-clause-sound c = nothing_sound _ c.renew.ensures.once c.renew-2.ensures.sound c.renew.ensures.kept c.renew.ensures.index (ap (λ (l : KeptLists). l.lists) c.renew-2.ensures.kept)
