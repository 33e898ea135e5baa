use Rattle.roc_server_rows.specs.Except.{rows_but}
use Rattle.roc_server_rows.proofs.Waits.{IsTurning, to_look}
use Rattle.roc_server_rows.proofs.marks.hold_all.Given as goal

abbrev pub invariant-turns : goal.invariant-turns
invariant-turns l = IsTurning (rows_but l.except l.rows) l.initial.marks l.marks l.todo l.changed

abbrev pub decreases-turns : goal.decreases-turns
decreases-turns l = to_look l.marks l.changed
