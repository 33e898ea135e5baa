use Rattle.roc_journal.proofs.Walks.{one_fault}
use Rattle.roc_journal.proofs.laws.faults_are_unique.Goals as goal

pub returns : goal.returns
returns c = one_fault c.spelled_apart.ensures
