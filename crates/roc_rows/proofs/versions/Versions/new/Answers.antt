use Rattle.roc_rows.proofs.Counts.{counts_of-none}
use Rattle.roc_rows.proofs.versions.Versions.new.Goals as goal

pub returns : goal.returns
returns c = counts_of-none _ c.new.ensures.empty
