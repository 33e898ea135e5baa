use Rattle.roc_replay.proofs.Schedules.{first_unfit}
use Rattle.roc_replay.proofs.asking.all_asked.Goals as goal

pub returns-in-Err-clause-fault : goal.returns-in-Err-clause-fault
returns-in-Err-clause-fault c =
    first_unfit c.args.plan.now.program c.args.lines.now c.loop-line.line-index c.line-item.result c.in-Err.fault c.loop-line-test.true c.line-item.is c.loop-line.invariant.fit c.in-Err.ensures
