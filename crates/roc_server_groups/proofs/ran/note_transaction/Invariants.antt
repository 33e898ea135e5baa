use Rattle.roc_server_groups.specs.Inner.Runs.{buffered}
use Rattle.roc_step.specs.Runs.{accesses_of}
use Rattle.roc_server_groups.proofs.Accesses.{NotesRest}
use Rattle.roc_server_groups.proofs.GroupRuns.{groups_from}
use Rattle.roc_server_groups.proofs.ran.note_transaction.Given as goal

abbrev pub invariant-loop-number : goal.invariant-loop-number
invariant-loop-number l =
    NotesRest l.initial.outbox l.outbox (accesses_of (buffered l.plan (groups_from l.id l.started.groups l.number l.count))) (accesses_of (buffered l.plan (groups_from l.id l.started.groups 0 l.count)))
