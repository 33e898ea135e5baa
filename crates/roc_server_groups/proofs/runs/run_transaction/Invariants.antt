use Rattle.std.proofs.Common.{◌≡◌}
use Rattle.roc_server_groups.specs.Inner.Restored.{restored}
use Rattle.roc_server_groups.proofs.GroupRuns.{RunsFrom}
use Rattle.roc_server_groups.proofs.runs.run_transaction.Given as goal

abbrev pub invariant-loop-number : goal.invariant-loop-number
invariant-loop-number l = record {
  runs : RunsFrom l.plan l.id l.count l.number l.initial.started.groups l.started.groups l.initial.rows.store l.rows.store;
  restored : restored l.earlier.items l.started.groups ≡ restored l.initial.earlier.items l.initial.started.groups;
  spare : l.started.spare ≡ l.initial.started.spare;
  saved : l.rows.saved ≡ l.initial.rows.saved;
}
