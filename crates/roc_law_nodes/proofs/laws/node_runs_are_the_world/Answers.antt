use Rattle.std.proofs.Common.{[], Some, ap, sym, ◌∙◌}
use Rattle.std.specs.Prelude.{filter}
use Rattle.roc_step.specs.First.{first_server}
use Rattle.roc_step.specs.Reads.{first_viewing}
use Rattle.roc_step.specs.State.{Viewing}
use Rattle.roc_node_serve.specs.ServerRun.{first_server_node_state}
use Rattle.roc_law_nodes.specs.Turns.{is_for_core}
use Rattle.roc_law_nodes.proofs.WorldFolds.{server_fold, coord_fold}
use Rattle.roc_law_nodes.proofs.OneFold.{one_server_fold, one_coord_fold}
use Rattle.roc_law_nodes.proofs.ServerFolds.{run_folds, without_stops}
use Rattle.roc_law_nodes.proofs.CoordFolds.{coord_run_folds}
use Rattle.roc_law_nodes.proofs.Spelled.{turns_of}
use Rattle.roc_law_nodes.proofs.laws.node_runs_are_the_world.Goals as goal

pub returns-clause-servers : goal.returns-clause-servers
returns-clause-servers c S coords steps w run shard s there events n ran are =
    let world = server_fold S.plan coords run shard s there in
    let one = one_server_fold S.plan (c.step_is_one.ensures S.plan) (c.read_step_is_one.ensures S.plan) (first_server S.plan shard) first_viewing []
    (run_folds S (first_server_node_state S.plan shard) ran) (without_stops S.plan (first_server S.plan shard) first_viewing [] world.2)
    (ap (filter is_for_core) (turns_of c.spelled_is_read.ensures S.header.tag are)) in
    (one.0, world.1 ∙ ap (λ (v : Viewing). Some v) (sym one.1), one.2)

pub returns-clause-coords : goal.returns-clause-coords
returns-clause-coords c S coords steps w run number d there requests events n ran same =
    one_coord_fold S.plan number (coord_run_folds S number ran) (coord_fold S.plan coords run number d there) same
