use Rattle.std.proofs.Common.{◌≡◌, ◌≤◌, ◌+◌, drop}
use Rattle.roc_server_reads.specs.Behind.{decided_behind, is_held_up}
use Rattle.roc_server_reads.proofs.held_up.starting_holder.Given as goal

-- none so far was found
abbrev pub invariant-loop-at : goal.invariant-loop-at
invariant-loop-at g l = record {
  none : is_held_up (decided_behind l.behind) l.uses (drop l.at l.behind.starting) ≡ is_held_up (decided_behind l.behind) l.uses l.behind.starting;
  steps : l.steps ≤ l.initial.steps + l.at;
}
