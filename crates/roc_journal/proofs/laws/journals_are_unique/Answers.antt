use Rattle.roc_journal.proofs.Walks.{one_journal}
use Rattle.roc_journal.proofs.laws.journals_are_unique.Goals as goal

pub returns : goal.returns
returns c = one_journal c.spelled_apart.ensures
