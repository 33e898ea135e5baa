use Rattle.roc_law_protocol.proofs.Firsts.{first_begins}
use Rattle.roc_law_protocol.proofs.beginnings.first_worlds_begin.Goals as goal

pub returns : goal.returns
returns c = first_begins c.machine_laws.ensures.stores
