use Rattle.std.proofs.Common.{List, Some, refl, sym, ap, subst, ◌∙◌}
use Rattle.std.specs.Prelude.{filter}
use Rattle.roc_base.specs.declared.node.Node.TheVariants.{Server}
use Rattle.roc_step.specs.State.{Viewing}
use Rattle.roc_step.specs.Step.{tick_sends}
use Rattle.roc_node_serve.specs.ServerRun.{opened_node}
use Rattle.roc_law_nodes.specs.Own.{OwnEvent, messages_of}
use Rattle.roc_law_nodes.specs.Fold.{IsServerFoldFrom, IsServerFold}
use Rattle.roc_law_nodes.specs.Turns.{is_for_core}
use Rattle.roc_law_nodes.proofs.OneFold.{one_server_fold}
use Rattle.roc_law_nodes.proofs.ServerFolds.{run_folds}
use Rattle.roc_law_nodes.proofs.RecordedFolds.{recorded_stands, recorded_folds}
use Rattle.roc_law_nodes.proofs.Reopened.{reopened}
use Rattle.roc_law_nodes.proofs.Spelled.{turns_of}
use Rattle.roc_law_nodes.proofs.WorldFolds.{server_fold}
use Rattle.roc_law_nodes.proofs.laws.restarted_nodes_are_the_world.Goals as goal

pub returns : goal.returns
returns c S coords steps w run shard s there front behind at is records t u recording state viewing stands none events n ran are =
    let plan = S.plan in
    let world = server_fold plan coords run shard s there in
    let sent = messages_of (Server shard) w.sent in
    let stand = c.records_stand.ensures plan shard in
    let restart = c.restarts_stand.ensures plan shard in
    let stop = recorded_folds plan shard stand restart recording in
    let folds = subst (λ (l : List OwnEvent). IsServerFoldFrom plan state viewing (tick_sends state) (filter is_for_core l) n.state n.viewing n.messages)
    (turns_of c.spelled_is_read.ensures S.header.tag are) (run_folds S (opened_node S state viewing) ran) in
    let r = reopened plan shard (λ first keeps before own x y p q messages more f g. one_server_fold plan (c.step_is_one.ensures plan) (c.read_step_is_one.ensures plan) first keeps before f g refl)
    (c.kept_fold_is_one.ensures plan shard) front behind at s world.0 sent
    (subst (λ (l : List OwnEvent). IsServerFold plan shard l s world.0 sent) is world.2) records t u stop.0 stop.1 (recorded_stands plan shard stand restart recording)
    state viewing stands none n.state n.viewing n.messages folds in
    (r.state_is, world.1 ∙ ap (λ (v : Viewing). Some v) (sym r.viewing_is), r.early, r.messages_are)
