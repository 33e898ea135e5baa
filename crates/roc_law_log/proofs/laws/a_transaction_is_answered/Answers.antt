use Rattle.roc_law_log.proofs.Counted.{sound, answered}
use Rattle.roc_law_log.proofs.laws.a_transaction_is_answered.Goals as goal

pub returns-clause-sound : goal.returns-clause-sound
returns-clause-sound c = sound c.counter_is_lawful.ensures

pub returns-clause-answered : goal.returns-clause-answered
returns-clause-answered c = answered
