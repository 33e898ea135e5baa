use Rattle.roc_rows.proofs.Counts.{version-unwritten, version-counted_same, version-counted_other}
use Rattle.roc_rows.proofs.laws.versions_count_writes.Goals as goal

pub returns : goal.returns
returns c = record { none = version-unwritten; same = version-counted_same; other = version-counted_other }
