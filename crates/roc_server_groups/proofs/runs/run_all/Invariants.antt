use Rattle.std.proofs.Common.{◌≡◌, drop}
use Rattle.roc_server_groups.specs.Inner.Restored.{restored}
use Rattle.roc_server_groups.proofs.GroupRuns.{TakesFrom}
use Rattle.roc_server_groups.proofs.runs.run_all.Given as goal

abbrev pub invariant-loop-id : goal.invariant-loop-id
invariant-loop-id l = record {
  takes : TakesFrom l.plan l.ids (drop l.id-index l.ids) l.initial.started.groups l.started.groups l.initial.rows.store l.rows.store;
  restored : restored l.earlier.items l.started.groups ≡ restored l.initial.earlier.items l.initial.started.groups;
  spare : l.started.spare ≡ l.initial.started.spare;
  saved : l.rows.saved ≡ l.initial.rows.saved;
}
