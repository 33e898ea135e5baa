use Rattle.std.proofs.Common.{◌≡◌, ◌∙◌, ◌++◌, ◌<◌, List, ℕ, length, map, sym, ap, subst}
use Rattle.std.specs.List.{AllByRecursion}
use Rattle.roc_program.specs.Parts as pure
use Rattle.roc_program.specs.Values.{value_of_name}
use Rattle.roc_whole.specs.Run.{progress, behind, after_pieces}
use Rattle.roc_whole.proofs.Replies.{after_pieces-said}
use Rattle.roc_plan.specs.Groups.{procedure_of, group_of, pieces_at, bound_in, environment_in}
use Rattle.roc_group.specs.Accesses.{uses_of_pieces}
use Rattle.roc_group.specs.GroupRun.{call, begin, group_run}
use Rattle.roc_group.proofs.Ran.{uses_said}
use Rattle.roc_group.proofs.Read.{read, pieces_there, keys_read, steady_read}
use Rattle.roc_group.proofs.run.run_group.Goals as goal

pub make_room-requires : goal.make_room-requires
make_room-requires c =
    let P : List ℕ → Type 0 = AllByRecursion (λ k. k < length (pure.procedure c.index-procedures-proc.result).pieces) in
    subst P (sym c.pieces-pieces.ensures)
    (pieces_there c.workload.result.now c.procedures.result.now c.args.plan.now c.args.proc c.args.group c.index-procedures-proc.result c.workload.ensures.program c.procedures.ensures.value c.workload.ensures.accepted c.requires.exists c.index-procedures-proc.is)

pub run_with-requires-clause-there : goal.run_with-requires-clause-there
run_with-requires-clause-there c =
    let P : List ℕ → Type 0 = AllByRecursion (λ k. k < length (pure.procedure c.index-procedures-proc.result).pieces) in
    subst P (sym c.pieces-pieces.ensures)
    (pieces_there c.workload.result.now c.procedures.result.now c.args.plan.now c.args.proc c.args.group c.index-procedures-proc.result c.workload.ensures.program c.procedures.ensures.value c.workload.ensures.accepted c.requires.exists c.index-procedures-proc.is)

pub run_with-requires-clause-keys : goal.run_with-requires-clause-keys
run_with-requires-clause-keys c =
    keys_read c.workload.result.now c.procedures.result.now c.args.plan.now c.args.proc c.args.group c.index-procedures-proc.result c.workload.ensures.program c.procedures.ensures.value c.workload.ensures.accepted c.requires.exists c.index-procedures-proc.is

pub run_with-requires-clause-steady : goal.run_with-requires-clause-steady
run_with-requires-clause-steady c =
    steady_read c.workload.result.now c.procedures.result.now c.args.plan.now c.args.proc c.args.group c.index-procedures-proc.result c.workload.ensures.program c.procedures.ensures.value c.workload.ensures.accepted c.requires.exists c.index-procedures-proc.is

-- the procedure that was read
named : (c : goal.After-out-1) → procedure_of c.args.plan.now c.args.proc ≡ pure.procedure c.index-procedures-proc.result
named c = read c.workload.result.now c.procedures.result.now c.args.plan.now c.args.proc c.args.group c.index-procedures-proc.result c.workload.ensures.program c.procedures.ensures.value c.workload.ensures.accepted c.requires.exists c.index-procedures-proc.is

-- what was held has stayed
outs_held : (c : goal.After-out-1) → c.out.inside.given.outs.items ≡ c.args.out.now.outs
outs_held c = ap (λ o. o.outs) c.out.view_is ∙ c.in_ok-make_room.ensures.same.outs

-- the names as the group begins
begun : (c : goal.After-out-1) → c.as_mut_slice.result.now ≡ environment_in (procedure_of c.args.plan.now c.args.proc) (group_of c.args.plan.now c.args.proc c.args.group).pieces c.args.known.now.args c.args.known.now.inputs
begun c = c.as_mut_slice.ensures.value ∙ c.in_ok-fill_names.ensures.ok

-- the pieces that run are the group's, from where the group begins
ran : (c : goal.After-out-1) → after_pieces (progress c.make_room.new.rows.store c.as_mut_slice.result.now c.out.inside.given.outs.items) (pieces_at (pure.procedure c.index-procedures-proc.result) c.pieces-pieces.result.now)
    ≡ behind c.args.out.now.outs (group_run c.args.plan.now (call c.args.proc c.args.group c.args.known.now.args c.args.known.now.inputs) c.args.rows.now.store)
ran c =
    (λ i. after_pieces (progress (c.in_ok-make_room.ensures.store i) (begun c i) (outs_held c i)) (pieces_at (sym (named c) i) (c.pieces-pieces.ensures i)))
    ∙ after_pieces-said c.args.rows.now.store (environment_in (procedure_of c.args.plan.now c.args.proc) (group_of c.args.plan.now c.args.proc c.args.group).pieces c.args.known.now.args c.args.known.now.inputs) c.args.out.now.outs (pieces_at (procedure_of c.args.plan.now c.args.proc) (group_of c.args.plan.now c.args.proc c.args.group).pieces)

pub returns-clause-store : goal.returns-clause-store
returns-clause-store c = ap (λ p. p.store) (c.run_with.ensures.run ∙ ran c)

pub returns-clause-outs : goal.returns-clause-outs
returns-clause-outs c = ap (λ p. p.reply) (c.run_with.ensures.run ∙ ran c)

pub returns-clause-bound : goal.returns-clause-bound
returns-clause-bound c =
    let end = c.run_with.ensures.run ∙ ran c in
    let held = ap (λ o. o.bound) c.out.view_is ∙ c.in_ok-make_room.ensures.same.bound in
    c.run_with.ensures.bound ∙ (λ i. held i ++ map (value_of_name (end i).environment) (bound_in (sym (named c) i) (c.pieces-pieces.ensures i)))

pub returns-clause-cells : goal.returns-clause-cells
returns-clause-cells c =
    let start = begin c.args.plan.now (call c.args.proc c.args.group c.args.known.now.args c.args.known.now.inputs) c.args.rows.now.store in
    let held = ap (λ o. o.cells) c.out.view_is ∙ c.in_ok-make_room.ensures.same.cells in
    c.run_with.ensures.cells
    ∙ (λ i. held i ++ uses_of_pieces (progress (c.in_ok-make_room.ensures.store i) (begun c i) (outs_held c i)) (pieces_at (sym (named c) i) (c.pieces-pieces.ensures i)))
    ∙ ap (λ us. c.args.out.now.cells ++ us) (uses_said start.store start.environment c.args.out.now.outs (pieces_at (procedure_of c.args.plan.now c.args.proc) (group_of c.args.plan.now c.args.proc c.args.group).pieces))
