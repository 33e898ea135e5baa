use Rattle.std.proofs.Common.{take}
use Rattle.std.specs.List.{list_any}
use Rattle.roc_rows.specs.Cells.{is_cell}
use Rattle.roc_server_groups.specs.Inner.Changes.{IsOutOf}
use Rattle.roc_server_groups.proofs.indexed.take_out_of.Given as goal

abbrev pub invariant-loop-access : goal.invariant-loop-access
invariant-loop-access l = IsOutOf l.id (λ c. list_any (λ a. is_cell a.cell c) (take l.access-index l.cells)) l.initial.index l.index
