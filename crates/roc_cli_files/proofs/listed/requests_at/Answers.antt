use Rattle.std.proofs.Common.{refl, subst}
use Rattle.roc_sched.specs.Answer.{IsFaultBy}
use Rattle.roc_cli_files.specs.Requests.{IsRequestsFault}
use Rattle.roc_cli_files.proofs.listed.requests_at.Goals as goal

pub returns-in-Err-At-clause-ends : goal.returns-in-Err-At-clause-ends
returns-in-Err-At-clause-ends c =
    (refl, _, subst (IsFaultBy (IsRequestsFault c.args.plan.now.program c.args.bytes.now)) c.in-Err-At.field-0-is c.in-Err-At.ensures.fault, c.as_str.ensures)
