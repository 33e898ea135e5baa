use Rattle.roc_cli_files.proofs.Growing.{named_held, named_fails, unnamed_held}
use Rattle.roc_cli_files.proofs.grown.next_named.Goals as goal

pub returns-in-Ok-clause-held : goal.returns-in-Ok-clause-held
returns-in-Ok-clause-held g c = named_held _ _ _ c.args.growth c.in-Some.growth c.in-Some.is c.in-Ok.next c.in-Ok.ensures.held

pub returns-in-Err-clause-fails : goal.returns-in-Err-clause-fails
returns-in-Err-clause-fails g c = named_fails _ _ _ c.args.growth c.in-Some.growth c.in-Some.is _ _ c.in-Err.fault c.in-Err.ensures.fails

pub returns-in-None-clause-held : goal.returns-in-None-clause-held
returns-in-None-clause-held g c = unnamed_held _ _ _ c.args.growth c.in-None.is
