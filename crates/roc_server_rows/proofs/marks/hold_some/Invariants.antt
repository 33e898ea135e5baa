use Rattle.std.proofs.Common.{take}
use Rattle.roc_server_rows.specs.Except.{rows_but}
use Rattle.roc_server_rows.specs.Inner.Marks.{HoldsSome}
use Rattle.roc_server_rows.proofs.marks.hold_some.Given as goal

abbrev pub invariant-loop-at : goal.invariant-loop-at
invariant-loop-at l = HoldsSome (rows_but l.except l.rows) l.initial.marks l.marks (take l.at-index l.todo) l.changed
