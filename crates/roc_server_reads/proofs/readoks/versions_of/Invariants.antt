use Rattle.std.proofs.Common.{◌≡◌, map, take}
use Rattle.roc_rows.specs.Versions.{version}
use Rattle.roc_step.specs.Reads.{with_accesses}
use Rattle.roc_server_reads.proofs.readoks.versions_of.Given as goal

-- those so far
abbrev pub invariant-loop-access : goal.invariant-loop-access
invariant-loop-access l = l.counts ≡ map (λ a. version (with_accesses l.versions.counts l.ran) a.cell) (take l.access-index l.cells)
