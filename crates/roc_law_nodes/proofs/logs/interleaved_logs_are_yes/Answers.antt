use Rattle.std.proofs.Common.{sym, subst}
use Rattle.roc_law_audit.specs.InTheWorld.{SubmitsNoView}
use Rattle.roc_law_nodes.proofs.AllLogs.{logs_of_all}
use Rattle.roc_law_nodes.proofs.logs.interleaved_logs_are_yes.Goals as goal

pub returns-clause-whole : goal.returns-clause-whole
returns-clause-whole c N moves all accepted are came none logs at =
    let x = c.interleaved_nodes_are_a_world.ensures N moves all are in
    let world = x.2 in
    c.logs_of_nodes_are_yes.ensures.whole N.plan N.coords x.0 x.1 accepted world.run (subst (SubmitsNoView N.plan) (sym world.history) none) logs
    (logs_of_all N moves all x.0 x.1 world came (λ shard n there. (c.interleaved_runs_are_runs.ensures.servers N moves all are shard n there).0)
    (λ number place there. (c.interleaved_runs_are_runs.ensures.coords N moves all are number place there).0) logs at)

pub returns-clause-yes : goal.returns-clause-yes
returns-clause-yes c N moves all accepted are came none logs at =
    let x = c.interleaved_nodes_are_a_world.ensures N moves all are in
    let world = x.2 in
    c.logs_of_nodes_are_yes.ensures.yes N.plan N.coords x.0 x.1 accepted world.run (subst (SubmitsNoView N.plan) (sym world.history) none) logs
    (logs_of_all N moves all x.0 x.1 world came (λ shard n there. (c.interleaved_runs_are_runs.ensures.servers N moves all are shard n there).0)
    (λ number place there. (c.interleaved_runs_are_runs.ensures.coords N moves all are number place there).0) logs at)
