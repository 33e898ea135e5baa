use Rattle.std.proofs.Common.{◌≡◌, ◌≤◌, ◌+◌, drop}
use Rattle.std.specs.List.{list_any}
use Rattle.roc_server_reads.specs.Inner.Holders.{is_held_at}
use Rattle.roc_server_reads.specs.Looks.{refs_over}
use Rattle.roc_server_reads.proofs.held_up.started_holder.Given as goal

-- none so far was found, and what is looked at for the rest is left
abbrev pub invariant-loop-access : goal.invariant-loop-access
invariant-loop-access g l = record {
  none : list_any (λ a. is_held_at l.behind a.cell) (drop l.access-index l.uses) ≡ list_any (λ a. is_held_at l.behind a.cell) l.uses;
  steps : l.steps + refs_over l.behind (drop l.access-index l.uses) ≤ l.initial.steps + refs_over l.behind l.uses;
}
