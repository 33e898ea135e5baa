use Rattle.std.proofs.Common.{length, sym, ap, ◌∙◌}
use Rattle.roc_server_reads.proofs.refusals.refusal_of.Goals as goal

pub place-requires-clause-inputs : goal.place-requires-clause-inputs
place-requires-clause-inputs c =
    ap length c.requires
    ∙ sym (ap length (c.views_are_apart.ensures.inputs c.args.plan.now c.workload-workload.ensures.accepted c.args.proc (sym c.is_view.ensures.is ∙ c.if-not-is_view.false) c.args.group))
