use Rattle.std.specs.List.{list_any}
use Rattle.roc_step.specs.Start.{uses_cell}
use Rattle.roc_server_groups.specs.Inner.Changes.{IsOutOf}
use Rattle.roc_server_groups.proofs.KeyedGroups.{passes_up_to}
use Rattle.roc_server_groups.proofs.indexed.take_out_one.Given as goal

-- out of the cells of the groups of the numbers so far
abbrev pub invariant-loop-number : goal.invariant-loop-number
invariant-loop-number l = IsOutOf l.id (λ c. list_any (passes_up_to l.id (uses_cell c) l.number) l.started.groups) l.initial.index l.index
