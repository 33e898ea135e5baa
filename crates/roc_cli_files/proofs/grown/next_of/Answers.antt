use Rattle.roc_cli_files.proofs.Growing.{planless, next_held, next_fails}
use Rattle.roc_cli_files.proofs.grown.next_of.Goals as goal

-- the workload was read
pub returns-in-Ok-clause-held : goal.returns-in-Ok-clause-held
returns-in-Ok-clause-held g c = next_held _ _ _ c.in-Ok.tagged c.args.coords c.in-Ok.ensures.held _ c.judged.ensures.judged

pub returns-in-Ok-clause-fails : goal.returns-in-Ok-clause-fails
returns-in-Ok-clause-fails g c = next_fails _ _ _ c.in-Ok.tagged c.args.coords c.in-Ok.ensures.held _ _ _ c.in-Ok.ensures.untouched c.judged.ensures.judged

-- it was not
pub returns-in-Err-clause-fails : goal.returns-in-Err-clause-fails
returns-in-Err-clause-fails g c = planless (g.F.Files.content c.args.files.now) c.args.name.now c.args.plan.now.program _ _ c.in-Err.fault c.in-Err.ensures.fails
