use Rattle.std.proofs.Common.{◌≡◌, ◌++◌, drop, map}
use Rattle.roc_whole.specs.Serial.{serial_answers, serial_run}
use Rattle.roc_audit.specs.Witness.{submitted_calls}
use Rattle.roc_audit_witness.specs.Inner.Tests.{answer_of}
use Rattle.roc_audit_witness.proofs.runs.serial_replies.Given as goal

-- with the answers of what is left, from here, the replies are all answers
abbrev pub invariant-loop-id : goal.invariant-loop-id
invariant-loop-id l =
    map answer_of l.replies.items ++ serial_answers l.workload l.rows.store (submitted_calls l.history (drop l.id-index l.order))
    ≡ serial_run l.workload (submitted_calls l.history l.order)
