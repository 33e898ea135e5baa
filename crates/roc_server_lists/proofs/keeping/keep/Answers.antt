use Rattle.std.proofs.Common.{◌∙◌, sym, ap}
use Rattle.roc_server_lists.specs.Inner.Trials.{after}
use Rattle.roc_server_lists.proofs.keeping.keep.Goals as goal

pub returns-in-Asker-clause-kept : goal.returns-in-Asker-clause-kept
returns-in-Asker-clause-kept c = c.keep_asker.ensures.kept ∙ ap (after c.args.parts.now) (sym c.in-Asker.is)

pub returns-in-Lists-clause-kept : goal.returns-in-Lists-clause-kept
returns-in-Lists-clause-kept c = c.keep_lists.ensures.kept ∙ ap (after c.args.parts.now) (sym c.in-Lists.is)
