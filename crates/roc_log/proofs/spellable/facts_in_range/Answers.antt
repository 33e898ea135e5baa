use Rattle.std.proofs.Common.{rules, subst}
use Rattle.roc_msg.specs.Facts.{most_fact_edges}
use Rattle.roc_log.specs.Inner.InRange.{AreInRange}
use Rattle.roc_log.proofs.Ranges.{facts_fit}
use Rattle.roc_log.proofs.spellable.facts_in_range.Goals as goal

pub returns-clause-fits : goal.returns-clause-fits
returns-clause-fits c h = (search rules, facts_fit most_fact_edges c.args.facts.now c.as_slice.ensures.rising (subst (AreInRange most_fact_edges) c.as_slice.ensures.lists (c.lists_in_range.ensures.fits h)))
