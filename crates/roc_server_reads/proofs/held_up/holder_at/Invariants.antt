use Rattle.std.proofs.Common.{◌≡◌, ◌≤◌, ◌+◌, drop}
use Rattle.std.specs.List.{list_any}
use Rattle.roc_server_reads.specs.Inner.Holders.{holds_at}
use Rattle.roc_server_reads.proofs.held_up.holder_at.Given as goal

-- none so far was found
abbrev pub invariant-loop-group_ref : goal.invariant-loop-group_ref
invariant-loop-group_ref g l = record {
  none : list_any (holds_at l.behind.started l.behind.newly l.access.cell) (drop l.group_ref-index l.group_refs) ≡ list_any (holds_at l.behind.started l.behind.newly l.access.cell) l.group_refs;
  steps : l.steps ≤ l.initial.steps + l.group_ref-index;
}
