-- Calls that audit the logs of one run: docs/PROTOCOL.md, "Auditing"
use Rattle.std.specs.Prelude.{ℕ, List, []}
use Rattle.roc_law_world.specs.World.{World}
use Rattle.roc_law_world.specs.Run.{Stepped, IsRun}
use Rattle.roc_log.specs.declared.line.Log.{Log}
use Rattle.roc_law_audit.specs.InTheWorld.{SubmitsNoView}
use Rattle.roc_law_audit.specs.LogsOfRuns.{AreLogsOfRun}
use Rattle.roc_cli_files.specs.NodeNames.{tag_of_bytes}
use Rattle.roc_cli_nodes.specs.Call.{RunCall}
use Rattle.roc_cli.specs.Fit.{AuditAsked, TellLogs}

-- the words ask for an audit, and the named files hold the logs of all nodes of one run under the named workload's plan, each of them whole: all that the
-- node did to the run's end. No server stopped and started again in this run, since such a one has no log, and no view was submitted
pub record HonestFits (call : RunCall) : Type 0 where
  pub names : List (List ℕ)
  pub asked : AuditAsked call names
  pub logs : List Log
  pub told : TellLogs call.files.content asked.plan.program (tag_of_bytes asked.bytes) [] names logs
  pub coords : ℕ
  pub steps : List Stepped
  pub world : World
  pub ran : IsRun asked.plan coords steps world
  pub viewless : SubmitsNoView asked.plan world.history
  pub logged : AreLogsOfRun asked.plan coords steps world logs
