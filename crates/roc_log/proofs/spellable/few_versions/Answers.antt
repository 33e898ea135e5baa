use Rattle.std.proofs.Common.{rules, arith}
use Rattle.roc_log.proofs.Ranges.{versions_along}
use Rattle.roc_log.proofs.spellable.few_versions.Goals as goal

pub returns-clause-fits : goal.returns-clause-fits
returns-clause-fits c h = (search rules, versions_along c.args.versions.now (λ i. omega (arith, c.type_inv.versions i)))
