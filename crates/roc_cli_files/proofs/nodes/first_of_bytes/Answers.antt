use Rattle.std.proofs.Common.{refl, Err}
use Rattle.roc_cli_files.specs.NodeNames.{by_workload}
use Rattle.roc_cli_files.proofs.Reading.{text_ends, check_reads, check_counted}
use Rattle.roc_cli_files.proofs.Loading.{fails_behind, in_any_case}
use Rattle.roc_cli_files.proofs.nodes.first_of_bytes.Goals as goal

-- the workload has a plan
pub returns-in-Ok-clause-held : goal.returns-in-Ok-clause-held
returns-in-Ok-clause-held g c within = c.first_of_plan.ensures.held _ within.held c.in-Ok.ensures.ends.0 c.tag.ensures

pub returns-in-Ok-clause-untouched : goal.returns-in-Ok-clause-untouched
returns-in-Ok-clause-untouched g c = in_any_case _ _ c.in-Ok.ensures.ends.1

pub returns-in-Ok-clause-fails : goal.returns-in-Ok-clause-fails
returns-in-Ok-clause-fails g c within =
    fails_behind _ _ _ _ _ _ _ (λ name. refl) c.in-Ok.ensures.ends.1 (c.first_of_plan.ensures.fails _ _ within.held c.in-Ok.ensures.ends.0)

-- it has none
pub returns-in-Err-clause-fails : goal.returns-in-Err-clause-fails
returns-in-Err-clause-fails g c within = by_workload c.in-Err.fault (text_ends _ _ _ _ within refl _ _ (Err c.in-Err.fault) c.in-Err.ensures.ends)

pub returns-in-Err-clause-failed : goal.returns-in-Err-clause-failed
returns-in-Err-clause-failed g c = check_reads _ _ _ _ _ _ (Err c.in-Err.fault) c.in-Err.ensures.ends refl

pub returns-in-Err-clause-file_faults : goal.returns-in-Err-clause-file_faults
returns-in-Err-clause-file_faults g c = check_counted _ _ _ _ _ _ (Err c.in-Err.fault) c.in-Err.ensures.ends refl
