use Rattle.std.proofs.Common.{rules, not}
use Rattle.std.proofs.lemmas.Fn.{filter_same}
use Rattle.roc_await.specs.declared.group.Group.{Group}
use Rattle.roc_await.specs.Inner.Groups.{misses_nothing}
use Rattle.roc_await.proofs.group.undecided.Goals as goal

pub returns : goal.returns
returns c = filter_same _ (λ (g : Group). not (misses_nothing g)) _ (λ x b f k. search rules) _ _ c.retain.ensures.filtered
