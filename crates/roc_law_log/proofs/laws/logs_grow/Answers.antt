use Rattle.roc_law_log.proofs.Keeping.{lead-grows}
use Rattle.roc_law_log.proofs.laws.logs_grow.Goals as goal

pub returns : goal.returns
returns c S start log later sound i lead =
    lead-grows S start (c.runs_stay.ensures.stays S.behaviour start) (λ O. c.groups_stand_one_by_one.ensures S.behaviour O sound.lawful) sound log later i lead
