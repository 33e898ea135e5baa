use Rattle.roc_law_log.proofs.Kept.{keeps, kept_follows}
use Rattle.roc_law_log.proofs.laws.lists_that_keep_follow.Goals as goal

pub returns-clause-follows : goal.returns-clause-follows
returns-clause-follows c S start log sound i = kept_follows S start log (c.logs_follow.ensures.follows S start log sound i)

pub returns-clause-order : goal.returns-clause-order
returns-clause-order c S start log sound i = keeps S start log (c.logs_follow.ensures.follows S start log sound i)

pub returns-clause-same : goal.returns-clause-same
returns-clause-same c S start log sound i O k r ran listed =
    c.runs_are_serial.ensures S.behaviour start log.past.ran O sound.lawful (c.logs_follow.ensures.real S start log sound i)
    (kept_follows S start log (c.logs_follow.ensures.follows S start log sound i) O k) r ran listed
