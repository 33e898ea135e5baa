use Rattle.std.proofs.Common.{refl}
use Rattle.roc_base.specs.declared.node.Node.TheVariants.{Server, Coord}
use Rattle.roc_node_serve.specs.ServerRun.{first_server_node_state}
use Rattle.roc_law_nodes.proofs.CoordNodeLogs.{coord_run_logs}
use Rattle.roc_law_nodes.proofs.NodeLogs.{bytes_spell, turns_spell}
use Rattle.roc_law_nodes.proofs.ServerNodeLogs.{server_run_logs}
use Rattle.roc_law_nodes.proofs.Spelled.{turns_of}
use Rattle.roc_law_nodes.proofs.WholeLogs.{logged_in_run}
use Rattle.roc_law_nodes.proofs.logs.node_logs_are_the_runs.Goals as goal

pub returns-clause-servers : goal.returns-clause-servers
returns-clause-servers c S coords steps w run shard is events n ran are =
    let reads = c.spelled_is_read.ensures in
    let l = server_run_logs reads S (first_server_node_state S.plan shard) refl ran (turns_spell reads S.header.tag are) in
    logged_in_run reads S coords run (Server shard) is l (turns_of reads S.header.tag are)

pub returns-clause-coords : goal.returns-clause-coords
returns-clause-coords c S coords steps w run number is requests events n ran came same =
    let reads = c.spelled_is_read.ensures in
    logged_in_run reads S coords run (Coord number) is (coord_run_logs reads S number ran (bytes_spell c.right_or_wrong.ensures S.header.tag events came)) same
