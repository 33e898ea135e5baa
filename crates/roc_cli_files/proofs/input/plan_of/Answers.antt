use Rattle.roc_cli_files.proofs.Reading.{no_bytes, text_ends, check_counted, check_reads}
use Rattle.roc_cli_files.proofs.input.plan_of.Goals as goal

-- the bytes were checked
pub returns-in-Ok-clause-ends : goal.returns-in-Ok-clause-ends
returns-in-Ok-clause-ends g c = text_ends _ _ _ _ c.in-Ok.ensures.held c.deref.ensures.value _ _ _ c.checked.ensures.ends

pub returns-in-Ok-clause-failed : goal.returns-in-Ok-clause-failed
returns-in-Ok-clause-failed g c = check_reads _ _ _ _ _ _ _ c.checked.ensures.ends c.in-Ok.ensures.failed

pub returns-in-Ok-clause-file_faults : goal.returns-in-Ok-clause-file_faults
returns-in-Ok-clause-file_faults g c = check_counted _ _ _ _ _ _ _ c.checked.ensures.ends c.in-Ok.ensures.cause

-- there are none
pub returns-in-Err-clause-ends : goal.returns-in-Err-clause-ends
returns-in-Err-clause-ends g c = no_bytes (g.F.Files.content c.args.files.now) c.args.name.now _ c.in-Err.fault c.in-Err.ensures.fault
