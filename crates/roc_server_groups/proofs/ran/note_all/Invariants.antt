use Rattle.std.proofs.Common.{drop}
use Rattle.roc_step.specs.Runs.{accesses_of, all_buffered}
use Rattle.roc_server_groups.proofs.Accesses.{NotesRest}
use Rattle.roc_server_groups.proofs.ran.note_all.Given as goal

abbrev pub invariant-loop-id : goal.invariant-loop-id
invariant-loop-id l = NotesRest l.initial.outbox l.outbox (accesses_of (all_buffered l.plan l.started.groups (drop l.id-index l.ids))) (accesses_of (all_buffered l.plan l.started.groups l.ids))
