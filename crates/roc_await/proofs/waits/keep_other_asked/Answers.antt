use Rattle.std.proofs.Common.{rules}
use Rattle.std.proofs.lemmas.Fn.{filter_same}
use Rattle.roc_step.specs.Waits.{is_asked_before}
use Rattle.roc_await.specs.Inner.Apart.{is_apart}
use Rattle.roc_await.proofs.waits.keep_other_asked.Goals as goal

pub returns-clause-items : goal.returns-clause-items
returns-clause-items c = filter_same _ (is_apart is_asked_before c.args.asked) _ (λ x b f k. search rules) _ _ c.retain.ensures.filtered
