use Rattle.std.proofs.Common.{rules, subst}
use Rattle.std.specs.List.{AllByRecursion}
use Rattle.roc_log.specs.Inner.InRange.{InRange}
use Rattle.roc_log.proofs.Ranges.{edges_fit}
use Rattle.roc_log.proofs.spellable.edges_in_range.Goals as goal

pub returns-clause-fits : goal.returns-clause-fits
returns-clause-fits c h = (search rules, edges_fit c.args.edges.now c.as_slice.ensures.list (subst (λ l. AllByRecursion InRange l) c.as_slice.ensures.entries (c.all_in_range.ensures.fits h)))
