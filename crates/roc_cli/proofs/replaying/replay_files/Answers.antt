use Rattle.std.proofs.Common.{refl}
use Rattle.roc_cli_words.specs.Commands.{replay}
use Rattle.roc_cli.proofs.Faults.{plan_fails, behind}
use Rattle.roc_cli_files.proofs.Reading.{held_later}
use Rattle.roc_cli.proofs.replaying.replay_files.Goals as goal

-- the schedule, and all behind it
pub returns-in-Ok-clause-ends : goal.returns-in-Ok-clause-ends
returns-in-Ok-clause-ends g c words given =
    behind words _ _ _ _ _ _ _ _ _ c.in-Ok.ensures.unchanged c.in-Ok.ensures.failed c.in-Ok.ensures.ends.1
    (c.replay_schedule.ensures.ends words _ given (held_later _ _ _ c.in-Ok.plan (c.in-Ok.ensures.unchanged _) c.in-Ok.ensures.ends.0))

-- the workload
pub returns-in-Err-clause-ends : goal.returns-in-Err-clause-ends
returns-in-Err-clause-ends g c words given = plan_fails _ _ c.in-Err.fault (replay _ _ _, given, refl) c.in-Err.ensures.failed c.in-Err.ensures.ends
