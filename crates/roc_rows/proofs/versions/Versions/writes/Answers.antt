use Rattle.std.proofs.Common.{◌∙◌, ap, sym, unwrap_or}
use Rattle.roc_rows.specs.Versions.{version}
use Rattle.roc_rows.proofs.Counts.{version-counts_of}
use Rattle.roc_rows.proofs.versions.Versions.writes.Goals as goal

pub returns : goal.returns
returns c =
    c.unwrap_or.ensures ∙ ap (λ o. unwrap_or o 0) (c.copied.ensures ∙ c.get.ensures.value)
    ∙ sym (version-counts_of c.self.inside.counts.entries c.args.cell.now) ∙ ap (λ v. version v.counts c.args.cell.now) c.self.view_is
