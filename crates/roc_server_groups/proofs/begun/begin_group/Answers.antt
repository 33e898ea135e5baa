-- Each part is that of the run, where the group is immediate, and else what it will use
use Rattle.std.proofs.Common.{◌++◌, sym, ap, ◌∙◌}
use Rattle.std.proofs.lemmas.Bool.{cond-true, cond-false}
use Rattle.roc_group.specs.GroupRun.{GroupCall, call, group_run, group_uses, bound_by_run}
use Rattle.roc_server_groups.proofs.begun.begin_group.Goals as goal

pub is_immediate-requires : goal.is_immediate-requires
is_immediate-requires c = c.requires.exists

pub run_group-requires-clause-exists : goal.run_group-requires-clause-exists
run_group-requires-clause-exists c = c.requires.exists

pub run_group-requires-clause-args : goal.run_group-requires-clause-args
run_group-requires-clause-args c = c.requires.args

pub run_group-requires-clause-inputs : goal.run_group-requires-clause-inputs
run_group-requires-clause-inputs c = c.requires.inputs

pub cells-requires-clause-exists : goal.cells-requires-clause-exists
cells-requires-clause-exists c = c.requires.exists

pub cells-requires-clause-deferrable : goal.cells-requires-clause-deferrable
cells-requires-clause-deferrable c = sym c.is_immediate.ensures ∙ c.if-is_immediate.false

pub cells-requires-clause-args : goal.cells-requires-clause-args
cells-requires-clause-args c = c.requires.args

pub cells-requires-clause-inputs : goal.cells-requires-clause-inputs
cells-requires-clause-inputs c = c.requires.inputs

pub returns-then-is_immediate-clause-cells : goal.returns-then-is_immediate-clause-cells
returns-then-is_immediate-clause-cells c =
    let k : GroupCall = call c.args.proc c.args.group c.args.known.now.args c.args.known.now.inputs in
    c.into_parts-bound.ensures.cells ∙ c.in_ok-run_group.ensures.cells ∙ ap (λ xs. xs ++ group_uses c.args.plan.now k c.args.rows.now.store) c.new-out.ensures.cells

pub returns-then-is_immediate-clause-bound : goal.returns-then-is_immediate-clause-bound
returns-then-is_immediate-clause-bound c =
    let k : GroupCall = call c.args.proc c.args.group c.args.known.now.args c.args.known.now.inputs in
    c.into_parts-bound.ensures.bound ∙ c.in_ok-run_group.ensures.bound ∙ ap (λ xs. xs ++ bound_by_run c.args.plan.now k c.args.rows.now.store) c.new-out.ensures.bound
    ∙ sym (cond-true _ _ _ (sym c.is_immediate.ensures ∙ c.if-is_immediate.true))

pub returns-then-is_immediate-clause-outs : goal.returns-then-is_immediate-clause-outs
returns-then-is_immediate-clause-outs c =
    let k : GroupCall = call c.args.proc c.args.group c.args.known.now.args c.args.known.now.inputs in
    c.into_parts-bound.ensures.outs ∙ c.in_ok-run_group.ensures.outs ∙ ap (λ xs. xs ++ (group_run c.args.plan.now k c.args.rows.now.store).reply) c.new-out.ensures.outs
    ∙ sym (cond-true _ _ _ (sym c.is_immediate.ensures ∙ c.if-is_immediate.true))

pub returns-then-is_immediate-clause-store : goal.returns-then-is_immediate-clause-store
returns-then-is_immediate-clause-store c = c.in_ok-run_group.ensures.store ∙ sym (cond-true _ _ _ (sym c.is_immediate.ensures ∙ c.if-is_immediate.true))

pub returns-clause-cells : goal.returns-clause-cells
returns-clause-cells c = c.in_ok-cells.ensures c.args.rows.now.store

pub returns-clause-bound : goal.returns-clause-bound
returns-clause-bound c = c.new.ensures ∙ sym (cond-false _ _ _ (sym c.is_immediate.ensures ∙ c.if-is_immediate.false))

pub returns-clause-outs : goal.returns-clause-outs
returns-clause-outs c = c.new-2.ensures ∙ sym (cond-false _ _ _ (sym c.is_immediate.ensures ∙ c.if-is_immediate.false))

pub returns-clause-store : goal.returns-clause-store
returns-clause-store c = sym (cond-false _ _ _ (sym c.is_immediate.ensures ∙ c.if-is_immediate.false))
