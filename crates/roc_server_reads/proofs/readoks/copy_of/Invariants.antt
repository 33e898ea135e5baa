use Rattle.std.proofs.Common.{◌≡◌, take}
use Rattle.std.specs.List.{AllByRecursion}
use Rattle.roc_rows.specs.Store.{read}
use Rattle.roc_server_reads.proofs.readoks.copy_of.Given as goal

-- those so far hold the same
abbrev pub invariant-loop-access : goal.invariant-loop-access
invariant-loop-access l = AllByRecursion (λ a. read l.copy.store a.cell ≡ read l.rows.store a.cell) (take l.access-index l.cells)
