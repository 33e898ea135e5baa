use Rattle.roc_law_log.proofs.Keeping.{lead-kept}
use Rattle.std.proofs.Common.{refl, inl}
use Rattle.roc_law_log.proofs.Settled.{mates_settled, throughout, settled_here, settled_later}
use Rattle.roc_law_log.proofs.laws.settled_is_final.Goals as goal

pub returns-clause-answered : goal.returns-clause-answered
returns-clause-answered c S start log u z = z u (inl refl)

pub returns-clause-throughout : goal.returns-clause-throughout
returns-clause-throughout c S start log i = throughout S start log i

pub returns-clause-here : goal.returns-clause-here
returns-clause-here c S start log i = settled_here S start log i

pub returns-clause-mates : goal.returns-clause-mates
returns-clause-mates c = mates_settled

pub returns-clause-stays : goal.returns-clause-stays
returns-clause-stays c S start log sound i later steps = settled_later S start log i later (lead-kept S start (c.runs_stay.ensures.stays S.behaviour start) (λ O. c.groups_stand_one_by_one.ensures S.behaviour O sound.lawful) sound log later i steps) (c.logs_grow.ensures S start log later sound i steps)
