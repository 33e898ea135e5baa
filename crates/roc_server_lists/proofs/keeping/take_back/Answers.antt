use Rattle.std.proofs.Common.{◌∙◌, sym, ap}
use Rattle.roc_server_lists.specs.Inner.Parts.{kept_in}
use Rattle.roc_server_lists.specs.Inner.Trials.{before_trial}
use Rattle.roc_server_lists.proofs.keeping.take_back.Goals as goal

pub returns-in-Lists-clause-kept : goal.returns-in-Lists-clause-kept
returns-in-Lists-clause-kept c = c.unlearn.ensures.kept ∙ ap (λ trial. kept_in (before_trial c.args.parts.now trial)) (sym c.in-Lists.is)
