use Rattle.roc_journal.proofs.Whichever.{whichever}
use Rattle.roc_journal.proofs.laws.journal_or_fault.Goals as goal

pub returns : goal.returns
returns c = whichever c.spelled_apart.ensures c.right_or_wrong.ensures
