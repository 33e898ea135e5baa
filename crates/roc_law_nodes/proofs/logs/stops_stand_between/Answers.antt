use Rattle.std.proofs.Common.{refl}
use Rattle.roc_base.specs.declared.node.Node.TheVariants.{Server, Coord}
use Rattle.roc_node_serve.specs.ServerRun.{first_server_node_state}
use Rattle.roc_law_nodes.proofs.CoordNodeLogs.{coord_place_logs}
use Rattle.roc_law_nodes.proofs.NodeLogs.{bytes_spell}
use Rattle.roc_law_nodes.proofs.ServerNodeLogs.{server_run_logs}
use Rattle.roc_law_nodes.proofs.WholeLogs.{logged_amid_run}
use Rattle.roc_law_nodes.proofs.logs.stops_stand_between.Goals as goal

pub returns-clause-servers : goal.returns-clause-servers
returns-clause-servers c S coords steps w run shard is events n ran came same =
    let reads = c.spelled_is_read.ensures in
    let l = server_run_logs reads S (first_server_node_state S.plan shard) refl ran (bytes_spell c.right_or_wrong.ensures S.header.tag events came) in
    logged_amid_run reads S coords run (Server shard) is l same

pub returns-clause-coords : goal.returns-clause-coords
returns-clause-coords c S coords steps w run number is requests events place ran came same =
    let reads = c.spelled_is_read.ensures in
    logged_amid_run reads S coords run (Coord number) is (coord_place_logs reads S number requests events place ran (bytes_spell c.right_or_wrong.ensures S.header.tag events came)) same
