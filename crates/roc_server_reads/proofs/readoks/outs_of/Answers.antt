use Rattle.std.proofs.Common.{◌++◌, length, sym, ap, ◌∙◌}
use Rattle.roc_group.specs.GroupRun.{call, group_run}
use Rattle.roc_step.specs.Reads.{read_call}
use Rattle.roc_server_reads.proofs.CopiedCells.{outs_over}
use Rattle.roc_server_reads.proofs.readoks.outs_of.Goals as goal

pub run_group-requires-clause-args : goal.run_group-requires-clause-args
run_group-requires-clause-args c = ap length c.requires.args ∙ c.requires.fits.args

pub run_group-requires-clause-inputs : goal.run_group-requires-clause-inputs
run_group-requires-clause-inputs c =
    ap length c.requires.inputs
    ∙ sym (ap length (c.views_are_apart.ensures.inputs c.args.plan.now c.workload-workload.ensures.accepted c.args.kept.now.proc c.requires.fits.view c.args.kept.now.group))

pub returns : goal.returns
returns c =
    let plan = c.args.plan.now in
    let kept = c.args.kept.now in
    let given = call kept.proc kept.group c.args.known.now.args c.args.known.now.inputs in
    let store = c.args.rows.now.store in
    c.into_parts-outs.ensures.outs ∙ c.in_ok-run_group.ensures.outs ∙ ap (λ xs. xs ++ (group_run plan given c.in_ok-copy.copy.store).reply) c.new-out.ensures.outs
    ∙ outs_over plan given (read_call kept) store c.in_ok-copy.copy.store c.args.cells.now (λ i. call kept.proc kept.group (c.requires.args i) (c.requires.inputs i))
    c.requires.cells c.in_ok-copy.ensures
