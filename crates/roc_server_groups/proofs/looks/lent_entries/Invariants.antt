use Rattle.std.proofs.Common.{◌≡◌, ◌+◌, ◌≤◌, length, map, filter, take}
use Rattle.std.specs.List.{flat_map}
use Rattle.roc_server_index.specs.GroupRefs.{group_refs_at}
use Rattle.roc_server_groups.specs.Inner.Looks.{is_looked_at, is_met, edge_from}
use Rattle.roc_server_groups.proofs.looks.lent_entries.Given as goal

-- what is met at the cells so far, and what was looked at
abbrev pub invariant-loop-access : goal.invariant-loop-access
invariant-loop-access g l = record {
  met : l.met.items
      ≡ flat_map (λ a. map (edge_from l.starting.shard l.starting.immediate) (filter (is_met l.plan l.groups.started.now.groups l.starting.id l.starting.immediate a)
      (group_refs_at a.cell l.groups.index.now)))
      (take l.access-index l.cells);
  steps : l.steps
      ≤ l.initial.steps + length (flat_map (λ a. filter (is_looked_at l.plan l.starting.id l.starting.immediate) (group_refs_at a.cell l.groups.index.now)) (take l.access-index l.cells));
}
