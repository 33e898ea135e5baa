use Rattle.std.proofs.Common.{refl}
use Rattle.roc_cli_words.specs.Commands.{audit}
use Rattle.roc_cli.proofs.Faults.{plan_fails, behind}
use Rattle.roc_cli.proofs.Verdicts.{tagged_later, logs_end}
use Rattle.roc_cli.proofs.auditing.audit_files.Goals as goal

-- the logs
pub returns-in-Ok-clause-ends : goal.returns-in-Ok-clause-ends
returns-in-Ok-clause-ends g c words given =
    behind words _ _ _ _ _ _ _ _ _ c.in-Ok.ensures.unchanged c.in-Ok.ensures.failed c.in-Ok.ensures.untouched
    (let tagged = tagged_later _ _ _ c.in-Ok.tagged.plan _ (c.in-Ok.ensures.unchanged _) c.in-Ok.ensures.held in
    logs_end _ _ _ _ given tagged.0 _ tagged.1 (c.yes_vouches_for_logs.ensures _) _ c.audit_logs.ensures.failed c.audit_logs.ensures.ends)

-- the workload
pub returns-in-Err-clause-ends : goal.returns-in-Err-clause-ends
returns-in-Err-clause-ends g c words given = plan_fails _ _ c.in-Err.fault (audit _ _, given, refl) c.in-Err.ensures.failed c.in-Err.ensures.fails
