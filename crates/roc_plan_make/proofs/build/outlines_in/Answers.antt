use Rattle.std.proofs.Common.{◌≡◌, ◌∙◌, ℕ, ◌<◌, ◌≤◌, Bool, [], List, if◌then◌else◌, length, map, get_or, sym, ap, subst, arith}
use Rattle.std.proofs.lemmas.List.{length-map, get_or-map}
use Rattle.std.specs.List.{AllByRecursion, list_any}
use Rattle.roc_sequence.proofs.Holds.{all_at}
use Rattle.roc_program.specs.Parts as view
use Rattle.roc_program.proofs.Rows.{read-map}
use Rattle.roc_conflict.specs.Classes.{is_immediate}
use Rattle.roc_merge_groups.specs.Groups.{piece_numbered, groups_in, group_at}
use Rattle.roc_merge_groups.specs.Parts.{IsPart}
use Rattle.roc_merge_groups.proofs.Parts.{parts_of_grouping}
use Rattle.roc_plan.specs.declared.group.Class.{Class}
use Rattle.roc_plan.specs.declared.group.Class.TheVariants.{Immediate, Deferrable}
use Rattle.roc_plan.specs.Groups.{bound_in}
use Rattle.roc_plan_make.specs.Inner.Built.{IsDrawn, AreDrawn}
use Rattle.roc_plan_make.proofs.Few.{few_groups_of, few_names_of}
use Rattle.roc_plan_make.proofs.Drawn.{drawn_more, short_bounds}
use Rattle.roc_plan_make.proofs.build.outlines_in.Goals as goal

-- what a group binds is read off the bound lists
bound_read : {R : Type 0} (bind : List ℕ → List ℕ) (items : R → List ℕ) (rows : List R) (groups : List (List ℕ)) (i : ℕ) (row : R) → map items rows ≡ map bind groups → i < length rows → row ≡ get_or rows i row
    → items row ≡ bind (group_at groups i)
bound_read bind items rows groups i row same l e =
    sym (read-map items rows i row [] l e) ∙ ap (λ (rs : List (List ℕ)). get_or rs i []) same
    ∙ get_or-map bind groups i [] [] (omega (arith, l, ap length same, length-map rows items, length-map groups bind))

counted : {R : Type 0} (bind : List ℕ → List ℕ) (items : R → List ℕ) (rows : List R) (groups : List (List ℕ)) → map items rows ≡ map bind groups → length rows ≡ length groups
counted bind items rows groups same = sym (length-map rows items) ∙ ap length same ∙ length-map groups bind

pub overflow_cast-group : goal.overflow_cast-group
overflow_cast-group c =
    let p = view.procedure c.args.procedure.now in
    let groups = groups_in c.args.groups.now c.args.proc in
    let few = few_groups_of p groups c.requires.sized c.requires.grouping in
    let l : c.loop-group.group < 65536 = omega (arith, few, c.loop-group-test.true, c.len-group-end.ensures, counted (bound_in p) (λ row. row.items) c.in_ok-bounds.bounds.items groups c.in_ok-bounds.ensures) in
    grind (arith, l)

pub outline_of-requires-clause-pieces : goal.outline_of-requires-clause-pieces
outline_of-requires-clause-pieces c =
    let p = view.procedure c.args.procedure.now in
    let groups = groups_in c.args.groups.now c.args.proc in
    let P : List ℕ → Type 0 = λ g. AllByRecursion (λ k. k < length p.pieces) g in
    subst P (sym c.pieces-pieces.ensures) (all_at (IsPart (length p.pieces)) groups c.loop-group.group [] (parts_of_grouping (length p.pieces) groups c.requires.grouping)
    (omega (arith, c.loop-group-test.true, c.len-group-end.ensures, counted (bound_in p) (λ row. row.items) c.in_ok-bounds.bounds.items groups c.in_ok-bounds.ensures))).below

pub outline_of-requires-clause-own : goal.outline_of-requires-clause-own
outline_of-requires-clause-own c =
    let p = view.procedure c.args.procedure.now in
    let groups = groups_in c.args.groups.now c.args.proc in
    c.deref.ensures.value
    ∙ bound_read (bound_in p) (λ row. row.items) c.in_ok-bounds.bounds.items groups c.loop-group.group c.index.result.now c.in_ok-bounds.ensures (omega (arith, c.loop-group-test.true, c.len-group-end.ensures)) c.index.ensures
    ∙ ap (bound_in p) (sym c.pieces-pieces.ensures)

pub outline_of-requires-clause-own_short : goal.outline_of-requires-clause-own_short
outline_of-requires-clause-own_short c =
    let p = view.procedure c.args.procedure.now in
    let groups = groups_in c.args.groups.now c.args.proc in
    let own = c.deref.ensures.value
    ∙ bound_read (bound_in p) (λ row. row.items) c.in_ok-bounds.bounds.items groups c.loop-group.group c.index.result.now c.in_ok-bounds.ensures (omega (arith, c.loop-group-test.true, c.len-group-end.ensures)) c.index.ensures in
    let few = few_names_of p (group_at groups c.loop-group.group) c.requires.sized (all_at (IsPart (length p.pieces)) groups c.loop-group.group [] (parts_of_grouping (length p.pieces) groups c.requires.grouping)
    (omega (arith, c.loop-group-test.true, c.len-group-end.ensures, counted (bound_in p) (λ row. row.items) c.in_ok-bounds.bounds.items groups c.in_ok-bounds.ensures))) in
    omega (arith, few, ap length own)

pub outline_of-requires-clause-few : goal.outline_of-requires-clause-few
outline_of-requires-clause-few c =
    let p = view.procedure c.args.procedure.now in
    let groups = groups_in c.args.groups.now c.args.proc in
    omega (arith, few_groups_of p groups c.requires.sized c.requires.grouping, counted (bound_in p) (λ row. row.items) c.in_ok-bounds.bounds.items groups c.in_ok-bounds.ensures, ap length c.deref-in-loop-group.ensures.value)

pub outline_of-requires-clause-short : goal.outline_of-requires-clause-short
outline_of-requires-clause-short c =
    let p = view.procedure c.args.procedure.now in
    let groups = groups_in c.args.groups.now c.args.proc in
    let P : List (List ℕ) → Type 0 = λ rows. AllByRecursion (λ row. length row ≤ 1024) rows in
    subst P (sym (ap (map (λ row. row.items)) c.deref-in-loop-group.ensures.value ∙ c.in_ok-bounds.ensures)) (short_bounds p groups c.requires.sized (parts_of_grouping (length p.pieces) groups c.requires.grouping))

pub loop-group-preserved : goal.loop-group-preserved
loop-group-preserved c =
    let p = view.procedure c.args.procedure.now in
    let groups = groups_in c.args.groups.now c.args.proc in
    let test : ℕ → Bool = λ x. is_immediate c.args.classes.now (piece_numbered c.args.proc x) in
    let bounds : map (λ row. row.items) c.deref-in-loop-group.result.now ≡ map (bound_in p) groups = ap (map (λ row. row.items)) c.deref-in-loop-group.ensures.value ∙ c.in_ok-bounds.ensures in
    let class : c.class_of-class.result ≡ (if list_any test (group_at groups c.loop-group.group) then Immediate else Deferrable) =
    c.class_of-class.ensures ∙ ap (λ ps. if list_any test ps then Immediate else Deferrable) c.pieces-pieces.ensures in
    let B : List (List ℕ) → Type 0 = λ bs. IsDrawn p bs c.class_of-class.result c.pieces-pieces.result.now c.in_ok-outline_of.field-0 in
    let C : Class → Type 0 = λ k. IsDrawn p (map (bound_in p) groups) k c.pieces-pieces.result.now c.in_ok-outline_of.field-0 in
    let P : List ℕ → Type 0 = λ ps. IsDrawn p (map (bound_in p) groups) (if list_any test (group_at groups c.loop-group.group) then Immediate else Deferrable) ps c.in_ok-outline_of.field-0 in
    drawn_more p test groups c.loop-group.row.items c.push.new.self.items c.in_ok-outline_of.field-0 c.loop-group.group c.loop-group.invariant c.in_ok-push.ensures.items
    (subst P c.pieces-pieces.ensures (subst C class (subst B bounds c.in_ok-outline_of.ensures)))

pub returns : goal.returns
returns c =
    let p = view.procedure c.args.procedure.now in
    let groups = groups_in c.args.groups.now c.args.proc in
    let done : c.loop-group.group ≡ length groups =
    omega (arith, c.loop-group-test.false, c.loop-group.auto.group-end, c.len-group-end.ensures, counted (bound_in p) (λ row. row.items) c.in_ok-bounds.bounds.items groups c.in_ok-bounds.ensures) in
    let P : ℕ → Type 0 = λ n. AreDrawn p (λ x. is_immediate c.args.classes.now (piece_numbered c.args.proc x)) groups c.loop-group.row.items n in
    subst P done c.loop-group.invariant
