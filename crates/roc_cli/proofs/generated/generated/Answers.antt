use Rattle.roc_cli.proofs.Loads.{workload_is_generated, schedule_is_generated}
use Rattle.roc_cli.proofs.generated.generated.Goals as goal

pub returns-in-Workload : goal.returns-in-Workload
returns-in-Workload c = workload_is_generated _ _ _ _ _ c.in-Workload.is c.in_ok-workload.ensures.workload

pub returns-in-Schedule : goal.returns-in-Schedule
returns-in-Schedule c = schedule_is_generated _ _ _ _ _ c.in-Schedule.is c.in_ok-workload.ensures.schedule
