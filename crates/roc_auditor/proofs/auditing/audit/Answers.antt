use Rattle.std.proofs.Common.{List, []}
use Rattle.roc_log.specs.declared.line.Log.{Log}
use Rattle.roc_auditor.specs.Taken.{HasTaken}
use Rattle.roc_auditor.specs.Verdict.{IsAuditedAs, IsAuditFault}
use Rattle.roc_auditor.proofs.Found.{ok_of_these, err_of_these}
use Rattle.roc_auditor.proofs.auditing.audit.Goals as goal

pub returns-in-Ok-clause-found : goal.returns-in-Ok-clause-found
returns-in-Ok-clause-found c =
    ok_of_these (λ (logs : List Log). HasTaken c.args.plan.now logs c.note_all.new.self) (λ (logs : List Log). IsAuditedAs c.args.plan.now logs) c.args.logs.now c.verdict.result
    (c.in-Ok.ensures [] (c.new-auditor.ensures c.args.plan.now)) c.verdict.ensures.found

pub returns-in-Ok-clause-fault : goal.returns-in-Ok-clause-fault
returns-in-Ok-clause-fault c =
    err_of_these (λ (logs : List Log). HasTaken c.args.plan.now logs c.note_all.new.self) (λ (logs : List Log). IsAuditFault c.args.plan.now logs) c.args.logs.now c.verdict.result
    (c.in-Ok.ensures [] (c.new-auditor.ensures c.args.plan.now)) c.verdict.ensures.fault
