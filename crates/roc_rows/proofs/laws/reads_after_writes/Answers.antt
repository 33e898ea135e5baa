use Rattle.roc_rows.proofs.Stored.{read-empty, read-write_same, read-write_other, same_store}
use Rattle.roc_rows.proofs.laws.reads_after_writes.Goals as goal

pub returns : goal.returns
returns c = record { empty = read-empty; same = read-write_same; other = read-write_other; alike = same_store }
