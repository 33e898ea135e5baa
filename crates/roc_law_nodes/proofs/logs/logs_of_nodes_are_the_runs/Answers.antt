use Rattle.std.proofs.Common.{ℕ, List, refl}
use Rattle.roc_base.specs.declared.node.Node.{Node}
use Rattle.roc_base.specs.declared.node.Node.TheVariants.{Server, Coord}
use Rattle.roc_log.specs.declared.line.LogLine.{LogLine}
use Rattle.roc_node.specs.NodeEvent.{node_setting}
use Rattle.roc_law_world.specs.World.{first_world}
use Rattle.roc_law_audit.specs.LogsOfRuns.{AreAllLogged}
use Rattle.roc_law_nodes.specs.Logs.{LogsInRun, by_server, by_coord}
use Rattle.roc_law_nodes.proofs.logs.logs_of_nodes_are_the_runs.Goals as goal

pub returns : goal.returns
returns c plan coords steps w run logs are = record { each = λ log h. (let k = are.each log h in (k.0, logged log.tag log.node log.lines k.1)); all = are.all }
  where
    logged : (tag : List ℕ) (node : Node) (lines : List LogLine) → LogsInRun plan tag steps w node lines → AreAllLogged (record { tag = tag; from = node }) (first_world plan coords) steps lines
    logged tag _ _ (by_server shard cluster events n ran came same) =
        c.stops_stand_between.ensures.servers (node_setting plan tag (Server shard) cluster) coords steps w run shard refl events n ran came same
    logged tag _ _ (by_coord number cluster requests events place ran came same) =
        c.stops_stand_between.ensures.coords (node_setting plan tag (Coord number) cluster) coords steps w run number refl requests events place ran came same
