use Rattle.std.proofs.Common.{inl, inr, refl}
use Rattle.roc_cli.proofs.Verdicts.{still_read, still_counted}
use Rattle.roc_cli.proofs.auditing.audit_logs.Goals as goal

-- the logs are held
pub returns-in-Ok-clause-ends : goal.returns-in-Ok-clause-ends
returns-in-Ok-clause-ends g c = let held = c.in-Ok.ensures.held in inl (held.logs, held.held, c.audit_taken.ensures.ends held.logs held.taken)

pub returns-in-Ok-clause-failed : goal.returns-in-Ok-clause-failed
returns-in-Ok-clause-failed g c = still_read _ _ _ c.audit_taken.ensures.no_file c.in-Ok.ensures.failed

pub returns-in-Ok-clause-file_faults : goal.returns-in-Ok-clause-file_faults
returns-in-Ok-clause-file_faults g c = still_counted _ _ _ c.audit_taken.ensures.no_file c.in-Ok.ensures.file_faults

-- they are not
pub returns-in-Err-clause-ends : goal.returns-in-Err-clause-ends
returns-in-Err-clause-ends g c = inr (c.in-Err.ensures.fails, refl)
