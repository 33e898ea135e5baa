use Rattle.roc_rows.proofs.Listed.{entries-rise, entries-exactly}
use Rattle.roc_rows.proofs.laws.entries_are_not_zero.Goals as goal

pub returns : goal.returns
returns c = record { rising = entries-rise; exactly = entries-exactly }
