use Rattle.roc_cli_files.proofs.Growing.{apart_held, apart_fails, nextless}
use Rattle.roc_cli_files.proofs.grown.next_apart.Goals as goal

-- there is a grown workload
pub returns-in-Ok-clause-held : goal.returns-in-Ok-clause-held
returns-in-Ok-clause-held g c = apart_held _ _ _ _ _ c.in-Ok.next c.in-Ok.ensures.held _ c.apart.ensures.judged

pub returns-in-Ok-clause-fails : goal.returns-in-Ok-clause-fails
returns-in-Ok-clause-fails g c = apart_fails _ _ _ _ _ c.in-Ok.next c.in-Ok.ensures.held _ _ _ c.in-Ok.ensures.untouched c.apart.ensures.judged

-- there is none
pub returns-in-Err-clause-fails : goal.returns-in-Err-clause-fails
returns-in-Err-clause-fails g c = nextless (g.F.Files.content c.args.files.now) c.args.growth.workload.now c.args.plan.now.program c.args.growth.coords c.args.tag.now _ _ c.in-Err.fault c.in-Err.ensures.fails
