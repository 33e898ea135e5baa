use Rattle.std.proofs.Common.{◌≡◌, take, filter, not, nat_lt}
use Rattle.roc_server_rows.specs.Marks.{mark_in}
use Rattle.roc_server_rows.proofs.marks.free_among.Given as goal

abbrev pub invariant-loop-at : goal.invariant-loop-at
invariant-loop-at l = l.free.items ≡ filter (λ n. not (nat_lt 0 (mark_in l.marks n).waits.birth)) (take l.at-index l.todo)
