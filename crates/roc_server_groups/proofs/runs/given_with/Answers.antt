use Rattle.std.proofs.Common.{◌++◌, ◌∙◌, ap}
use Rattle.roc_group.specs.GroupRun.{call, group_run}
use Rattle.roc_server_groups.proofs.runs.given_with.Goals as goal

pub run_group-requires-clause-exists : goal.run_group-requires-clause-exists
run_group-requires-clause-exists c = c.requires.group

pub run_group-requires-clause-args : goal.run_group-requires-clause-args
run_group-requires-clause-args c = c.requires.args

pub run_group-requires-clause-inputs : goal.run_group-requires-clause-inputs
run_group-requires-clause-inputs c = c.requires.inputs

pub returns-clause-store : goal.returns-clause-store
returns-clause-store c = c.in_ok-run_group.ensures.store

pub returns-clause-given : goal.returns-clause-given
returns-clause-given c =
    let k = call c.args.proc c.args.group c.args.known.now.args c.args.known.now.inputs in
    c.into_parts-outs.ensures.outs ∙ c.in_ok-run_group.ensures.outs ∙ ap (λ xs. xs ++ (group_run c.args.plan.now k c.args.rows.now.store).reply) c.new-out.ensures.outs
