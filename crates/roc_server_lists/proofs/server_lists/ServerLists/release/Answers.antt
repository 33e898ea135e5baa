use Rattle.roc_server_lists.proofs.Sound.{sound_of}
use Rattle.roc_server_lists.proofs.server_lists.ServerLists.release.Goals as goal

pub returns-clause-sound : goal.returns-clause-sound
returns-clause-sound c = sound_of c.release.new.parts c.release.new.trial c.release.ensures.held
