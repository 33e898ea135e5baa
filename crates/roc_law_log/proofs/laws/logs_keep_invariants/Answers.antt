use Rattle.roc_law_log.proofs.Keeping.{kept, step-kept}
use Rattle.roc_law_log.proofs.laws.logs_keep_invariants.Goals as goal

pub returns-clause-reached : goal.returns-clause-reached
returns-clause-reached c S start log sound h =
    kept S start (c.runs_stay.ensures.stays S.behaviour start) (λ O. c.groups_stand_one_by_one.ensures S.behaviour O sound.lawful) sound log h

pub returns-clause-kept : goal.returns-clause-kept
returns-clause-kept c S start log later sound i step =
    step-kept S start (c.runs_stay.ensures.stays S.behaviour start) (λ O. c.groups_stand_one_by_one.ensures S.behaviour O sound.lawful) sound log later i step
