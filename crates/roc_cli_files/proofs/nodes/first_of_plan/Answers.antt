use Rattle.std.proofs.Common.{◌≡◌, refl, ap, subst, ◌∙◌}
use Rattle.roc_program.specs.Program.{Workload}
use Rattle.roc_cli_files.specs.Listed.{ClusterFails}
use Rattle.roc_cli_files.specs.NodeNames.{by_cluster}
use Rattle.roc_cli_files.proofs.Loading.{fails_behind, first_behind, held_still, cluster_still}
use Rattle.roc_cli_files.proofs.nodes.first_of_plan.Goals as goal

-- the cluster file was read
pub returns-in-Ok-clause-held : goal.returns-in-Ok-clause-held
returns-in-Ok-clause-held g c bytes held planned tagged =
    let shards : c.shards.result ≡ c.args.plan.program.shards = c.shards.ensures.value ∙ ap (λ (w : Workload). w.shards) c.workload.ensures.program in
    first_behind _ _ _ _ c.in-Ok.ensures.unchanged
    (c.first_of_cluster.ensures.held bytes (held_still _ _ _ _ c.in-Ok.ensures.unchanged held) planned tagged
    (cluster_still _ _ _ _ _ _ c.in-Ok.ensures.unchanged shards c.in-Ok.ensures.ends))

pub returns-in-Ok-clause-fails : goal.returns-in-Ok-clause-fails
returns-in-Ok-clause-fails g c bytes out held planned =
    let shards : c.shards.result ≡ c.args.plan.program.shards = c.shards.ensures.value ∙ ap (λ (w : Workload). w.shards) c.workload.ensures.program in
    fails_behind _ _ _ _ _ _ _ c.in-Ok.ensures.unchanged refl
    (c.first_of_cluster.ensures.fails bytes out (held_still _ _ _ _ c.in-Ok.ensures.unchanged held) planned
    (cluster_still _ _ _ _ _ _ c.in-Ok.ensures.unchanged shards c.in-Ok.ensures.ends))

-- it was not
pub returns-clause-fails : goal.returns-clause-fails
returns-clause-fails g c bytes out held planned =
    let shards : c.shards.result ≡ c.args.plan.program.shards = c.shards.ensures.value ∙ ap (λ (w : Workload). w.shards) c.workload.ensures.program in
    by_cluster c.args.plan c.in-Err.fault (record { bytes = bytes; held = held; is = planned })
    (subst (λ n. ClusterFails (g.F.Files.content c.args.files.now) c.args.names.cluster.now n c.in-Err.fault) shards c.in-Err.ensures.ends) refl
