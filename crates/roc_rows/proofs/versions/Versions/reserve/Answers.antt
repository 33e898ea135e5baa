use Rattle.std.proofs.Common.{◌∙◌, ap}
use Rattle.roc_rows.proofs.Counts.{counts_of-alike}
use Rattle.roc_rows.proofs.versions.Versions.reserve.Goals as goal

pub returns-clause-counts : goal.returns-clause-counts
returns-clause-counts c = counts_of-alike _ _ c.reserve.ensures.entries.2 ∙ ap (λ v. v.counts) c.self.view_is
