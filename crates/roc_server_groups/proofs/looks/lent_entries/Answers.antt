use Rattle.std.proofs.Common.{◌≡◌, ◌∙◌, ◌++◌, List, length, filter, take, get_or, sym, ap, subst, arith}
use Rattle.std.proofs.lemmas.List.{take_all}
use Rattle.std.proofs.lemmas.List.Folds.{length-flat_map-take}
use Rattle.std.specs.List.{AllByRecursion, flat_map}
use Rattle.roc_base.specs.Edge.{Dependency}
use Rattle.roc_base.specs.Edges.{united}
use Rattle.roc_group.specs.declared.access.Access.{Access}
use Rattle.roc_server_index.specs.declared.group_ref.GroupRef.{GroupRef}
use Rattle.roc_server_index.specs.GroupRefs.{group_refs_at}
use Rattle.roc_step.specs.declared.started.StartedGroup.{StartedGroup}
use Rattle.roc_server_groups.specs.Inner.Looks.{IsGroupRefWithin, is_looked_at}
use Rattle.roc_server_groups.proofs.Stands.{refs_within}
use Rattle.roc_server_groups.proofs.Pairs.{looked_within}
use Rattle.roc_server_groups.proofs.CellByCell.{met_at, all_met}
use Rattle.roc_server_groups.proofs.looks.lent_entries.Goals as goal

pub push_met-requires : goal.push_met-requires
push_met-requires g c =
    let es = c.args.groups.now.started.now.groups in
    let index = c.args.groups.now.index.now in
    let plan = c.args.plan.now in
    subst (AllByRecursion (IsGroupRefWithin plan es)) (sym c.refs_at-group_refs.ensures)
    (refs_within plan c.access-item.result.cell index es c.requires.fits c.requires.once c.requires.refs)

pub returns-in_err-push_met-clause-steps : goal.returns-in_err-push_met-clause-steps
returns-in_err-push_met-clause-steps g c decided indexed =
    let es = c.args.groups.now.started.now.groups in
    let index = c.args.groups.now.index.now in
    let cells = c.args.cells.now in
    let a = c.access-item.result in
    let f : Access → List GroupRef = λ x. filter (is_looked_at c.args.plan.now c.args.starting.id c.args.starting.immediate) (group_refs_at x.cell index) in
    let here : length (filter (is_looked_at c.args.plan.now c.args.starting.id c.args.starting.immediate) c.refs_at-group_refs.result.now) ≡ length (f (get_or cells c.loop-access.access-index a)) =
    ap (λ ss. length (filter (is_looked_at c.args.plan.now c.args.starting.id c.args.starting.immediate) ss)) c.refs_at-group_refs.ensures ∙ ap (λ x. length (f x)) c.access-item.is in
    let more = length-flat_map-take f cells c.loop-access.access-index a c.loop-access-test.true in
    let all = looked_within c.args.plan.now decided c.args.starting.id c.args.starting.immediate index es indexed cells in
    omega (arith, c.push_met.ensures.steps, c.loop-access.invariant.steps, here, more, all)

pub returns-in_err-unite-clause-steps : goal.returns-in_err-unite-clause-steps
returns-in_err-unite-clause-steps g c decided indexed =
    let es = c.args.groups.now.started.now.groups in
    let index = c.args.groups.now.index.now in
    let cells = c.args.cells.now in
    let f : Access → List GroupRef = λ x. filter (is_looked_at c.args.plan.now c.args.starting.id c.args.starting.immediate) (group_refs_at x.cell index) in
    let whole : length (flat_map f (take c.loop-access.access-index cells)) ≡ length (flat_map f cells) = ap (λ xs. length (flat_map f xs)) (take_all c.loop-access.access-index cells c.loop-access-test.false) in
    let all = looked_within c.args.plan.now decided c.args.starting.id c.args.starting.immediate index es indexed cells in
    omega (arith, c.loop-access.invariant.steps, whole, all)

pub returns-clause-steps : goal.returns-clause-steps
returns-clause-steps g c decided indexed =
    let es = c.args.groups.now.started.now.groups in
    let index = c.args.groups.now.index.now in
    let cells = c.args.cells.now in
    let f : Access → List GroupRef = λ x. filter (is_looked_at c.args.plan.now c.args.starting.id c.args.starting.immediate) (group_refs_at x.cell index) in
    let whole : length (flat_map f (take c.loop-access.access-index cells)) ≡ length (flat_map f cells) = ap (λ xs. length (flat_map f xs)) (take_all c.loop-access.access-index cells c.loop-access-test.false) in
    let all = looked_within c.args.plan.now decided c.args.starting.id c.args.starting.immediate index es indexed cells in
    omega (arith, c.loop-access.invariant.steps, whole, all)

pub returns-clause-entries : goal.returns-clause-entries
returns-clause-entries g c decided indexed =
    let es = c.args.groups.now.started.now.groups in
    let index = c.args.groups.now.index.now in
    let p = c.args.starting in
    let plan = c.args.plan.now in
    let cells = c.args.cells.now in
    let met : List StartedGroup → List Access → List Dependency = λ fs us. flat_map (λ (a : Access). met_at plan p.shard decided p.id p.immediate fs a (group_refs_at a.cell index)) us in
    let whole : c.loop-access.met.items ≡ met es cells = c.loop-access.invariant.met ∙ (λ i. met es (take_all c.loop-access.access-index cells c.loop-access-test.false i)) in
    c.in_ok-unite.ensures.united ∙ (λ i. united (c.new-edges.ensures i ++ (c.deref.ensures.value ∙ whole) i))
    ∙ all_met plan p.shard decided p.id p.immediate index es cells c.requires.once indexed
