use Rattle.roc_journal.proofs.Walks.{no_fault}
use Rattle.roc_journal.proofs.laws.journals_have_no_fault.Goals as goal

pub returns : goal.returns
returns c = no_fault c.spelled_apart.ensures
