use Rattle.roc_law_log.proofs.Following.{real, follows}
use Rattle.roc_law_log.proofs.laws.logs_follow.Goals as goal

pub returns-clause-real : goal.returns-clause-real
returns-clause-real c S start log sound i = real S start (c.runs_stay.ensures.found S.behaviour start) sound log i

pub returns-clause-follows : goal.returns-clause-follows
returns-clause-follows c S start log sound i = follows S start (c.runs_stay.ensures.found S.behaviour start) sound log i
