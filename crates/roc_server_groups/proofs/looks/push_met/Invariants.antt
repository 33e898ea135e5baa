use Rattle.std.proofs.Common.{◌≡◌, ◌+◌, ◌++◌, length, map, filter, take}
use Rattle.roc_server_groups.specs.Inner.Looks.{is_looked_at, is_met, edge_from}
use Rattle.roc_server_groups.proofs.looks.push_met.Given as goal

-- those so far that come before, and that were looked at
abbrev pub invariant-loop-group_ref : goal.invariant-loop-group_ref
invariant-loop-group_ref g l = record {
  met : l.met.items
      ≡ l.initial.met.items ++ map (edge_from l.fn.starting.shard l.fn.starting.immediate) (filter (is_met l.plan l.groups.started.now.groups l.fn.starting.id l.fn.starting.immediate l.access)
      (take l.group_ref-index l.group_refs));
  steps : l.steps ≡ l.initial.steps + length (filter (is_looked_at l.plan l.fn.starting.id l.fn.starting.immediate) (take l.group_ref-index l.group_refs));
}
