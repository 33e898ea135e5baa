use Rattle.roc_law_log.proofs.Keeping.{lead-kept}
use Rattle.roc_law_log.proofs.Settled.{before, component, same_edges, same_now, same_chains, same_mates}
use Rattle.roc_law_log.proofs.laws.decided_is_fixed.Goals as goal

pub returns-clause-before : goal.returns-clause-before
returns-clause-before c S start log i = before S start log i

pub returns-clause-component : goal.returns-clause-component
returns-clause-component c S start log i = component S start log i

pub returns-clause-precedes : goal.returns-clause-precedes
returns-clause-precedes c S start log sound i later steps = same_edges S start log i later (lead-kept S start (c.runs_stay.ensures.stays S.behaviour start) (λ O. c.groups_stand_one_by_one.ensures S.behaviour O sound.lawful) sound log later i steps) (c.logs_grow.ensures S start log later sound i steps)

pub returns-clause-precedes_now : goal.returns-clause-precedes_now
returns-clause-precedes_now c S start log sound i later steps = same_now S start log i later (lead-kept S start (c.runs_stay.ensures.stays S.behaviour start) (λ O. c.groups_stand_one_by_one.ensures S.behaviour O sound.lawful) sound log later i steps) (c.logs_grow.ensures S start log later sound i steps)

pub returns-clause-reaches : goal.returns-clause-reaches
returns-clause-reaches c S start log sound i later steps = same_chains S start log i later (lead-kept S start (c.runs_stay.ensures.stays S.behaviour start) (λ O. c.groups_stand_one_by_one.ensures S.behaviour O sound.lawful) sound log later i steps) (c.logs_grow.ensures S start log later sound i steps)

pub returns-clause-mates : goal.returns-clause-mates
returns-clause-mates c S start log sound i later steps = same_mates S start log i later (lead-kept S start (c.runs_stay.ensures.stays S.behaviour start) (λ O. c.groups_stand_one_by_one.ensures S.behaviour O sound.lawful) sound log later i steps) (c.logs_grow.ensures S start log later sound i steps)
