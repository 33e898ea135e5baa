use Rattle.std.proofs.Common.{subst}
use Rattle.std.specs.Prelude.{List, filter}
use Rattle.roc_node_serve.specs.ServerRun.{first_server_node_state}
use Rattle.roc_law_nodes.specs.Own.{OwnEvent}
use Rattle.roc_law_nodes.specs.Fold.{IsServerFold}
use Rattle.roc_law_nodes.specs.Turns.{is_for_core}
use Rattle.roc_law_nodes.proofs.ServerFolds.{run_folds}
use Rattle.roc_law_nodes.proofs.Spelled.{turns_of}
use Rattle.roc_law_nodes.proofs.laws.server_run_is_fold.Goals as goal

pub returns-clause-brought : goal.returns-clause-brought
returns-clause-brought c S shard events n run = run_folds S (first_server_node_state S.plan shard) run

pub returns-clause-spelled : goal.returns-clause-spelled
returns-clause-spelled c S shard events n run own are =
    subst (λ (l : List OwnEvent). IsServerFold S.plan shard (filter is_for_core l) n.state n.viewing n.messages) (turns_of c.spelled_is_read.ensures S.header.tag are) (run_folds S (first_server_node_state S.plan shard) run)
