use Rattle.roc_server_lists.proofs.SettledSteps.{marks_heard}
use Rattle.roc_server_lists.proofs.keeping.keep_marks.Goals as goal

pub forget_ended-requires : goal.forget_ended-requires
forget_ended-requires c = marks_heard c.args.parts.now c.args.heard c.deref.result.now c.requires c.deref.ensures.value

pub returns-clause-kept : goal.returns-clause-kept
returns-clause-kept c = c.forget_ended.ensures.kept

pub returns-clause-sound : goal.returns-clause-sound
returns-clause-sound c = c.forget_ended.ensures.sound
