use Rattle.std.proofs.Common.{sym, subst}
use Rattle.roc_server_lists.specs.ListsNow.{IsNoneLeft, KeptLists}
use Rattle.roc_server_lists.proofs.Held.{untried_kept}
use Rattle.roc_server_lists.proofs.trying.hear.Goals as goal

pub returns-clause-left : goal.returns-clause-left
returns-clause-left c started none =
    c.in_ok-heard.ensures.left started (subst (λ (k : KeptLists). IsNoneLeft started k.lists) (sym (untried_kept c.args.parts.now c.args.trial.now c.requires.untried)) none)
