use Rattle.std.proofs.Common.{ap, ◌∙◌}
use Rattle.roc_program.specs.Program.{Workload}
use Rattle.roc_auditor.proofs.Found.{audited}
use Rattle.roc_auditor.proofs.auditor.Auditor.verdict.Goals as goal

pub returns-clause-found : goal.returns-clause-found
returns-clause-found c =
    audited c.args.plan.now c.args.self _ _ c.judged.result c.deref.ensures.value
    (c.shards.ensures.value ∙ ap (λ (w : Workload). w.shards) c.workload.ensures.program) c.in-None.ensures c.judged.ensures.found
