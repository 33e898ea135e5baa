-- A reply's line is all lines that the answer has; without one there are none
use Rattle.std.proofs.Common.{ap}
use Rattle.roc_grown_submit.specs.GrownCoordRun.{grown_reply_lines}
use Rattle.roc_grown_submit.proofs.Replied.{reply_told, nothing_told}
use Rattle.roc_grown_submit.proofs.events.push_reply.Goals as goal

pub returns-in-Answered : goal.returns-in-Answered
returns-in-Answered c = reply_told c.append.result c.args.workload.now _ _ _ _ _ c.in-Answered.is c.append.ensures.ok

pub returns-in-Done : goal.returns-in-Done
returns-in-Done c = nothing_told c.args.workload.now _ _ (ap grown_reply_lines c.in-Done.is)

pub returns-in-Skipped : goal.returns-in-Skipped
returns-in-Skipped c = nothing_told c.args.workload.now _ _ (ap grown_reply_lines c.in-Skipped.is)

pub returns-in-Ignored : goal.returns-in-Ignored
returns-in-Ignored c = nothing_told c.args.workload.now _ _ (ap grown_reply_lines c.in-Ignored.is)
