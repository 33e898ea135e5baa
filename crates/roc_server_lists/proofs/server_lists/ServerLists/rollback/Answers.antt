use Rattle.roc_server_lists.proofs.Sound.{sound_of}
use Rattle.roc_server_lists.proofs.server_lists.ServerLists.rollback.Goals as goal

pub returns-clause-sound : goal.returns-clause-sound
returns-clause-sound c = sound_of c.roll_back.new.parts c.roll_back.new.trial c.roll_back.ensures.held
