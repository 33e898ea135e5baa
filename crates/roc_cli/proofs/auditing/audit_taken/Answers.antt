use Rattle.roc_cli.proofs.Verdicts.{verdict_ends, unaudited_ends}
use Rattle.roc_cli.proofs.auditing.audit_taken.Goals as goal

-- a verdict
pub returns-in-Ok-clause-ends : goal.returns-in-Ok-clause-ends
returns-in-Ok-clause-ends g c logs taken = verdict_ends _ logs _ c.in-Ok.verdict _ _ _ (c.in-Ok.ensures.found logs taken) c.tell_verdict.ensures.ends

-- none
pub returns-in-Err-clause-ends : goal.returns-in-Err-clause-ends
returns-in-Err-clause-ends g c logs taken = unaudited_ends _ logs _ c.in-Err.fault _ _ (c.in-Err.ensures.fault logs taken) c.unaudited.ensures.is
