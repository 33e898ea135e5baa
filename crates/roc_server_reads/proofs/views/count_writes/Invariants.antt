use Rattle.std.proofs.Common.{◌≡◌, ◌≤◌, length, filter, drop}
use Rattle.roc_step.specs.Reads.{with_accesses}
use Rattle.roc_server_reads.proofs.views.count_writes.Given as goal

-- what is left, counted from here, is all of it, and there is room for it
abbrev pub invariant-loop-access : goal.invariant-loop-access
invariant-loop-access l = record {
  counts : with_accesses l.versions.counts (drop l.access-index l.ran) ≡ with_accesses l.initial.versions.counts l.ran;
  room : length (filter (λ a. a.writes) (drop l.access-index l.ran)) ≤ l.versions.spare;
}
