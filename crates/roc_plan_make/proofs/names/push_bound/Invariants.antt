use Rattle.std.proofs.Common.{◌≡◌, ◌++◌, map, take}
use Rattle.std.specs.List.{filter_map}
use Rattle.roc_program.specs.Parts as view
use Rattle.roc_program.specs.Names.{binding}
use Rattle.roc_plan_make.proofs.names.push_bound.Given as goal

abbrev pub invariant-loop-statement : goal.invariant-loop-statement
invariant-loop-statement l = l.names.items ≡ l.fn.names.items ++ filter_map binding (map view.statement (take l.statement-index l.body))
