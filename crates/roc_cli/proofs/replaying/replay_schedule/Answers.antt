use Rattle.std.proofs.Common.{refl}
use Rattle.roc_cli.proofs.Faults.{schedule_unread, within_later, behind}
use Rattle.roc_cli_files.proofs.Reading.{held_later}
use Rattle.roc_cli.proofs.replaying.replay_schedule.Goals as goal

-- all behind it
pub returns-in-Ok-clause-ends : goal.returns-in-Ok-clause-ends
returns-in-Ok-clause-ends g c words workload given held =
    behind words _ _ _ _ _ _ _ _ _ c.in-Ok.ensures.unchanged c.in-Ok.ensures.failed refl
    (c.replay_bytes.ensures.ends words workload given (held_later _ _ _ _ (c.in-Ok.ensures.unchanged _) held)
    (within_later _ _ _ _ _ _ (c.in-Ok.ensures.unchanged _) c.deref.ensures.value c.in-Ok.ensures.held))

-- the schedule
pub returns-in-Err-clause-ends : goal.returns-in-Err-clause-ends
returns-in-Err-clause-ends g c words workload given held = schedule_unread _ _ _ _ _ c.in-Err.fault given held refl c.in-Err.ensures.failed c.in-Err.ensures.fault
