use Rattle.std.proofs.Common.{List, ℤ, ap, ◌∙◌}
use Rattle.roc_step.specs.Reads.{read_refusal}
use Rattle.roc_server_reads.proofs.refusals.read_refusal.Goals as goal

pub returns : goal.returns
returns c s id round here ended =
    c.refusal_of.ensures s id round here ended
    ∙ ap (λ (args : List ℤ). read_refusal c.args.plan.now s (record { id = id; round = round; proc = c.args.proc; group = c.args.group; args = args })) c.in_ok-known.ensures.args
