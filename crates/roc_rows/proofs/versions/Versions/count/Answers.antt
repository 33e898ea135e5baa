use Rattle.std.proofs.Common.{◌∙◌, ◌+◌, ◌-◌, ◌^◌, min, ap, sym}
use Rattle.roc_rows.specs.Versions.{version, counted}
use Rattle.roc_rows.proofs.Counts.{counts_of-counted}
use Rattle.roc_rows.proofs.versions.Versions.count.Goals as goal

pub returns-clause-ok : goal.returns-clause-ok
returns-clause-ok c =
    counts_of-counted _ _ c.args.cell _ (c.next-next.ensures ∙ ap (λ v. min (version v.counts c.args.cell + 1) (2 ^ 64 - 1)) (sym c.self.view_is)) c.in_ok-insert.ensures.updates.0
    ∙ ap (λ v. counted v.counts c.args.cell) c.self.view_is
