use Rattle.std.proofs.Common.{List, length, ap, sym, ◌∙◌}
use Rattle.roc_plan.specs.declared.group.Input.{Input}
use Rattle.roc_plan.proofs.Views.{view_takes_nothing}
use Rattle.roc_readonly.proofs.reads.read_shard.Goals as goal

-- a view's group takes nothing
pub place-requires-clause-inputs : goal.place-requires-clause-inputs
place-requires-clause-inputs c =
    ap length c.new.ensures ∙ sym (ap (λ (inputs : List Input). length inputs) (view_takes_nothing c.args.plan.now c.workload-accepted.ensures.accepted c.args.v.now.proc c.requires.view.is_view c.args.group))
