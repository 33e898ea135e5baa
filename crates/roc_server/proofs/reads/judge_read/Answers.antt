use Rattle.std.proofs.Common.{unwrap_or, sym, ap, ◌∙◌}
use Rattle.roc_step.specs.declared.handled.Handled.TheVariants.{Done}
use Rattle.roc_step.specs.Below.{is_ended}
use Rattle.roc_server_lists.specs.ListsNow.{KeptLists}
use Rattle.roc_server.proofs.reads.judge_read.Goals as goal

pub returns : goal.returns
returns c s round shard lists =
    c.unwrap_or.ensures
    ∙ ap (λ o. unwrap_or o Done) (c.in_ok-refusal.ensures s c.args.id round shard (ap (λ (l : KeptLists). is_ended l.below c.args.id) lists ∙ sym c.is_ended-ended.ensures))
