use Rattle.std.proofs.Common.{◌++◌, take}
use Rattle.roc_auditor.proofs.Taking.{taken_more, taken_all, fits_at}
use Rattle.roc_auditor.proofs.auditor.Auditor.note_all.Goals as goal

pub note-requires : goal.note-requires
note-requires c = fits_at c.args.logs.now c.loop-log.log-index c.log-item.result c.requires c.loop-log-test.true c.log-item.is

pub loop-log-preserved : goal.loop-log-preserved
loop-log-preserved c = λ before taken.
    taken_more c.args.plan.now before c.args.logs.now c.loop-log.log-index c.log-item.result c.note.new.self c.loop-log-test.true c.log-item.is
    (c.in_ok-note.ensures.ok (before ++ take c.loop-log.log-index c.args.logs.now) (c.loop-log.invariant before taken))

pub returns : goal.returns
returns c = λ before taken. taken_all c.args.plan.now before c.args.logs.now c.loop-log.log-index c.loop-log.self c.loop-log-test.false (c.loop-log.invariant before taken)
