use Rattle.std.proofs.Common.{◌∙◌, sym, subst}
use Rattle.roc_server_lists.specs.ListsNow.{IsNoneLeft, KeptLists}
use Rattle.roc_server_lists.proofs.Held.{still_none, untried_kept}
use Rattle.roc_server_lists.proofs.trying.settle.Goals as goal

pub returns-in_err-settling-clause-none : goal.returns-in_err-settling-clause-none
returns-in_err-settling-clause-none c = still_none _ c.args.parts.now c.prepare_settled.new.parts c.args.trial.now c.requires.untried

pub returns-clause-ok : goal.returns-clause-ok
returns-clause-ok c s own = c.in_ok-settling.ensures.settled s (own ∙ sym (untried_kept c.args.parts.now c.args.trial.now c.requires.untried))

pub returns-clause-left : goal.returns-clause-left
returns-clause-left c started none =
    c.in_ok-settling.ensures.left started (subst (λ (k : KeptLists). IsNoneLeft started k.lists) (sym (untried_kept c.args.parts.now c.args.trial.now c.requires.untried)) none)
