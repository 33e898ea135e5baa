use Rattle.std.proofs.Common.{◌&&◌, ◌==◌}
use Rattle.std.specs.Prelude.{nat_lt}
use Rattle.roc_check.specs.Inner.Users.{Adds}
use Rattle.roc_check.proofs.users.add_procedure.Given as goal

abbrev pub invariant-loop-piece : goal.invariant-loop-piece
invariant-loop-piece l = Adds l.workload l.writes_alone l.fn.sets.items l.sets.items (λ id. (id.proc == l.proc) && nat_lt id.piece l.piece)
