-- The children before this one were awaited.
use Rattle.std.proofs.Common.{◌≡◌, ◌≤◌, replicate, take}
use Rattle.std.specs.Prelude.{None, IsNone, IfSome}
use Rattle.roc_io.specs.Cause.{Rose}
use Rattle.roc_io.specs.Observed.{Adds}
use Rattle.roc_node_local.specs.Children.{AwaitsAll}
use Rattle.roc_node_local.proofs.children.await_all.Given as goal

abbrev pub invariant-loop-child : goal.invariant-loop-child
invariant-loop-child g l =
    let P = g.P.Spawner in
    AwaitsAll (P.awaited l.fn.spawner) (P.awaited l.spawner) (take l.child-index l.children) l.first
    × (l.shard ≡ l.child-index)
    × IfSome l.first (λ end. IsNone end.status → Rose (P.faults l.fn.spawner) (P.faults l.spawner))
    × (l.first ≡ None → P.faults l.spawner ≡ P.faults l.fn.spawner)
    × (P.faults l.fn.spawner ≤ P.faults l.spawner)
    × (P.started l.spawner ≡ P.started l.fn.spawner)
    × Adds (P.sent_at_waits l.fn.spawner) (P.sent_at_waits l.spawner) (replicate l.child-index (g.L.Link.sent l.link))
