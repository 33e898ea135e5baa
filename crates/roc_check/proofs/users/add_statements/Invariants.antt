use Rattle.std.proofs.Common.{take, map}
use Rattle.roc_program.specs.Parts as view
use Rattle.roc_check.specs.Inner.Users.{Marks}
use Rattle.roc_check.proofs.users.add_statements.Given as goal

abbrev pub invariant-loop-statement : goal.invariant-loop-statement
invariant-loop-statement l = Marks l.writes_alone l.id l.fn.sets.items l.sets.items (map view.statement (take l.statement-index l.statements))
