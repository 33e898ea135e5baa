use Rattle.std.proofs.Common.{[], unwrap_or, ap, ◌∙◌}
use Rattle.roc_server_news.proofs.told.entries_of.Goals as goal

pub returns-in_ok-clone-in-Some : goal.returns-in_ok-clone-in-Some
returns-in_ok-clone-in-Some c = c.in_ok-clone-in-Some.ensures.cases ∙ ap (λ o. unwrap_or o []) c.in-Some.ensures

pub returns-in-None : goal.returns-in-None
returns-in-None c = c.new.ensures ∙ ap (λ o. unwrap_or o []) c.in-None.ensures
