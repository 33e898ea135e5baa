use Rattle.roc_auditor.specs.Verdict.{a_mismatch}
use Rattle.roc_auditor.proofs.Found.{found_mismatch, judged_so}
use Rattle.roc_auditor.proofs.auditor.Auditor.judged.Goals as goal

pub returns-in-Some-clause-found : goal.returns-in-Some-clause-found
returns-in-Some-clause-found c = λ logs taken.
    a_mismatch c.in-Some.log c.in-Some.line (found_mismatch c.args.plan.now logs c.args.self.now (c.in-Some.log, c.in-Some.line) c.in-Some.is taken)

pub returns-in-Ok-clause-found : goal.returns-in-Ok-clause-found
returns-in-Ok-clause-found c = λ logs taken.
    judged_so c.args.plan.now logs c.args.self.now _ _ c.in-Ok.judgement c.in-None.is c.workload.ensures.program c.deref.ensures.value c.in-Ok.ensures taken
