-- The world of nodes that may go over to a grown workload, and whose turns are interleaved: docs/PROTOCOL.md, "Running nodes"
use Rattle.std.specs.Prelude.{◌≡◌, List, Some, map}
use Rattle.roc_growth.specs.World.{GrownWorld}
use Rattle.roc_growth.specs.Run.{Stepped, IsGrownRun}
use Rattle.roc_replay.specs.Readback.{history_in}
use Rattle.roc_law_grown_nodes.specs.GrownInterleaved.{AllGrownSettings, AllGrownNodes, grown_node_at}

-- These steps of the world of two files lead to the nodes: each node has its state; all messages were sent in the order in which the nodes sent them, each of the
-- file that its sender had; and the history is what the coordinators' lines tell, in their order
pub record IsGrownWorldOf (N : AllGrownSettings) (all : AllGrownNodes) (steps : List Stepped) (w : GrownWorld) : Type 0 where
  pub run : IsGrownRun N.plan (Some N.next) N.next.coords steps w
  pub servers : w.servers ≡ map (λ n. n.state) all.servers
  pub coords : w.coords ≡ map (λ c. (grown_node_at c).state) all.coords
  pub sent : w.sent ≡ all.sent
  pub history : w.history ≡ history_in (map (λ t. t.1) all.told)
