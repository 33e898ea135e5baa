use Rattle.std.specs.Prelude.{nat_lt}
use Rattle.roc_check.specs.Inner.Users.{Adds}
use Rattle.roc_check.proofs.users.users.Given as goal

abbrev pub invariant-loop-proc : goal.invariant-loop-proc
invariant-loop-proc l = Adds l.workload l.writes_alone l.initial.sets.items l.sets.items (λ id. nat_lt id.proc l.proc)
