use Rattle.std.proofs.Common.{take, map}
use Rattle.roc_program.specs.Parts as view
use Rattle.roc_conflict.specs.Inner.Gathered.{AddsStatements}
use Rattle.roc_conflict.proofs.columns.Columns.add_statements.Given as goal

abbrev pub invariant-loop-statement : goal.invariant-loop-statement
invariant-loop-statement l = AddsStatements l.fn.self l.self (map view.statement (take l.statement-index l.statements))
