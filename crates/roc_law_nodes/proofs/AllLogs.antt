-- The logs of all nodes whose turns are interleaved are those of running nodes in a run of the world
use Rattle.std.proofs.Common.{◌≡◌, ℕ, ◌<◌, List, Some, length, refl, sym, ap, subst, ◌∙◌}
use Rattle.std.proofs.lemmas.List.{length-map}
use Rattle.std.proofs.lemmas.Option.{slice_get_within}
use Rattle.std.specs.Prelude.{slice_get}
use Rattle.roc_sequence.specs.Lists.{Has}
use Rattle.roc_base.specs.declared.node.Shard.{Shard}
use Rattle.roc_base.specs.declared.node.Node.{Node}
use Rattle.roc_base.specs.declared.node.Node.TheVariants.{Server, Coord}
use Rattle.roc_law_world.specs.World.{World}
use Rattle.roc_law_world.specs.Run.{Stepped, IsNodeOf}
use Rattle.roc_law_world.proofs.Outcomes.{there as within_there}
use Rattle.roc_log.specs.declared.line.Log.{Log}
use Rattle.roc_node_serve.specs.ServerRun.{ServerNodeState, IsServerRun}
use Rattle.roc_law_nodes.specs.Interleaved.{AllSettings, AllNodes, Move, CoordPlace, node_at, setting_at, events_at, IsCoordAt}
use Rattle.roc_law_nodes.specs.WorldOf.{IsWorldOf}
use Rattle.roc_law_nodes.specs.Logs.{LogsInRun, by_server, by_coord, AreLogsOfNodes, IsLogAt, of_server, of_coord, AreLogsAt, AllCameInBytes}

module _ (N : AllSettings) (moves : List Move) (all : AllNodes) (steps : List Stepped) (w : World) (world : IsWorldOf N moves all steps w) (came : AllCameInBytes moves)
    (serves : (shard : Shard) (n : ServerNodeState) → slice_get all.servers shard.0 ≡ Some n → IsServerRun (setting_at N (Server shard)) shard (events_at (Server shard) moves) n)
    (submits : (number : ℕ) (place : CoordPlace) → slice_get all.coords number ≡ Some place
    → IsCoordAt (setting_at N (Coord number)) number (N.requests number) (events_at (Coord number) moves) place) where
  same_servers : length w.servers ≡ length all.servers
  same_servers = ap length world.servers ∙ length-map all.servers (λ n. n.state)

  same_coords : length w.coords ≡ length all.coords
  same_coords = ap length world.coords ∙ length-map all.coords (λ c. (node_at c).state)

  log_at : (log : Log) → IsLogAt N all log → IsNodeOf w log.node × LogsInRun N.plan log.tag steps w log.node log.lines
  log_at _ (of_server shard n there) = (
    subst (λ m. shard.0 < m) (sym same_servers) (slice_get_within all.servers shard.0 n there),
    by_server shard (N.clusters (Server shard)) (events_at (Server shard) moves) n (serves shard n there) (came (Server shard)) (sym (world.server_owns shard)),
  )
  log_at _ (of_coord number place there) = (
    subst (λ m. number < m) (sym same_coords) (slice_get_within all.coords number place there),
    by_coord number (N.clusters (Coord number)) (N.requests number) (events_at (Coord number) moves) place (submits number place there) (came (Coord number))
        (sym (world.coord_owns number place there)),
  )

  module _ (logs : List Log) (are : AreLogsAt N all logs) where
    log_of : (node : Node) → IsNodeOf w node → (log : Log) × Has log logs × (log.node ≡ node)
    log_of (Server shard) within =
        let t = within_there all.servers shard.0 (subst (λ m. shard.0 < m) same_servers within) in
        (_, (are _).1 (of_server shard t.0 t.1), refl)
    log_of (Coord number) within =
        let t = within_there all.coords number (subst (λ m. number < m) same_coords within) in
        (_, (are _).1 (of_coord number t.0 t.1), refl)

    pub logs_of_all : AreLogsOfNodes N.plan steps w logs
    logs_of_all = record { each = λ log h. log_at log ((are log).0 h); all = log_of }
