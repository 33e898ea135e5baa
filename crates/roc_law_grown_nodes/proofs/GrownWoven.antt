-- All nodes that may go over, their turns in one order, are a run of the world of two files
use Rattle.std.proofs.Common.{List, [], refl, sym}
use Rattle.std.specs.List.{range_with_len}
use Rattle.roc_epoch.specs.Grown.{IsGrownFrom}
use Rattle.roc_growth.specs.World.{GrownWorld, first_grown_world}
use Rattle.roc_growth.specs.Run.{Stepped, at_first}
use Rattle.roc_law_nodes.specs.Interleaved.{Move}
use Rattle.roc_law_grown_nodes.specs.GrownInterleaved.{AllGrownSettings, within, grown_node_at, AllGrownNodes, first_grown_nodes, AreGrownInterleaved, none_moved, server_moves}
use Rattle.roc_law_grown_nodes.specs.GrownInterleaved.{coord_submits, coord_takes}
use Rattle.roc_law_grown_nodes.specs.GrownWorldOf.{IsGrownWorldOf}
use Rattle.roc_law_grown_nodes.proofs.GrownNodeMoves.{Mirrors, turn_served, receive_taken}
use Rattle.roc_law_grown_nodes.proofs.GrownSubmitMoves.{submissions_made}
use Rattle.roc_program.proofs.Ranges.{map_map}

module _ (N : AllGrownSettings) (grown : IsGrownFrom N.plan.program N.next.plan.program) where
  first_mirrors : Mirrors N (first_grown_nodes N)
  first_mirrors =
      record {
        steps = [];
        world = first_grown_world N.plan N.next.coords;
        run = at_first refl;
        servers_are = sym (map_map (λ n. n.state) _ (range_with_len 0 N.plan.program.shards));
        coords_are = sym (map_map (λ c. (grown_node_at c).state) _ (range_with_len 0 N.next.coords));
        sent_are = refl;
        history_is = refl;
      }

  mirrors : {moves : List Move} {all : AllGrownNodes} → AreGrownInterleaved N moves all → Mirrors N all
  mirrors none_moved = first_mirrors
  mirrors (server_moves {moves = moves} {all = all} shard node next event r at goes caused after) = turn_served N all (mirrors r) shard node at event next caused after
  mirrors (coord_submits {moves = moves} {all = all} number node r at) = submissions_made N grown all (mirrors r) number node at
  mirrors (coord_takes {moves = moves} {all = all} number before node event r at goes caused) = receive_taken N all (mirrors r) number (within before node) at event caused

  pub world_of : {moves : List Move} {all : AllGrownNodes} → AreGrownInterleaved N moves all → (steps : List Stepped) × (w : GrownWorld) × IsGrownWorldOf N all steps w
  world_of r =
      let m = mirrors r in
      (m.steps, m.world, record { run = m.run; servers = m.servers_are; coords = m.coords_are; sent = m.sent_are; history = m.history_is })
