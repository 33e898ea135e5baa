-- The children before this one were awaited.
use Rattle.std.proofs.Common.{◌≡◌, ◌≤◌, take}
use Rattle.std.specs.Prelude.{None, IsNone, IfSome}
use Rattle.roc_io.specs.Cause.{Rose}
use Rattle.roc_io_memory.specs.Callers.{WaitsAll}
use Rattle.roc_io_memory.proofs.callers.wait_all.Given as goal

abbrev pub invariant-loop-child : goal.invariant-loop-child
invariant-loop-child g l =
    let P = g.P.Spawner in
    WaitsAll (P.awaited l.fn.spawner) (P.awaited l.spawner) (take l.child-index l.children) l.first
    × IfSome l.first (λ wait. IsNone wait.status → Rose (P.faults l.fn.spawner) (P.faults l.spawner))
    × (l.first ≡ None → P.faults l.spawner ≡ P.faults l.fn.spawner)
    × (P.faults l.fn.spawner ≤ P.faults l.spawner)
    × (P.started l.spawner ≡ P.started l.fn.spawner)
