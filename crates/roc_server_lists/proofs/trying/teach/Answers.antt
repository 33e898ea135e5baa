use Rattle.roc_server_lists.proofs.Held.{still_none}
use Rattle.roc_server_lists.proofs.trying.teach.Goals as goal

pub returns-in_err-lesson-clause-none : goal.returns-in_err-lesson-clause-none
returns-in_err-lesson-clause-none c = still_none _ c.args.parts.now c.prepare_lists.new.parts c.args.trial.now c.requires.untried
