-- the logs so far were taken
use Rattle.std.proofs.Common.{List, ◌++◌, take}
use Rattle.roc_log.specs.declared.line.Log.{Log}
use Rattle.roc_auditor.specs.Taken.{HasTaken}
use Rattle.roc_auditor.proofs.auditor.Auditor.note_all.Given as goal

abbrev pub invariant-loop-log : goal.invariant-loop-log
invariant-loop-log l = (before : List Log) → HasTaken l.plan before l.fn.self → HasTaken l.plan (before ++ take l.log-index l.logs) l.self
