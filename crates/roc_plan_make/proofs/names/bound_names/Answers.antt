use Rattle.std.proofs.Common.{◌∙◌, ℕ, ◌<◌, [], List, length, map, sym, ap, subst, arith, ◌++◌, ◌∷◌}
use Rattle.std.proofs.lemmas.List.{map-append}
use Rattle.std.specs.List.{AllByRecursion}
use Rattle.roc_sequence.proofs.Fronts.{front_whole}
use Rattle.roc_sequence.proofs.Holds.{all_at}
use Rattle.roc_program.specs.Parts as view
use Rattle.roc_merge_groups.specs.Groups.{groups_in}
use Rattle.roc_merge_groups.specs.Parts.{IsPart}
use Rattle.roc_merge_groups.proofs.Parts.{parts_of_grouping}
use Rattle.roc_plan.specs.Groups.{bound_in}
use Rattle.roc_plan_make.proofs.Few.{few_groups_of}
use Rattle.roc_plan_make.proofs.BuiltUp.{pushed_map}
use Rattle.roc_plan_make.proofs.names.bound_names.Goals as goal

pub overflow_cast-group : goal.overflow_cast-group
overflow_cast-group c =
    let few = few_groups_of (view.procedure c.args.procedure.now) (groups_in c.args.groups.now c.args.proc) c.requires.sized c.requires.grouping in
    let l : c.loop-group.group < 65536 = omega (arith, few, c.loop-group-test.true, c.group_count-group-end.ensures) in
    grind (arith, l)

pub names_bound-requires : goal.names_bound-requires
names_bound-requires c =
    let p = view.procedure c.args.procedure.now in
    let groups = groups_in c.args.groups.now c.args.proc in
    let P : List ℕ → Type 0 = λ g. AllByRecursion (λ k. k < length p.pieces) g in
    subst P (sym c.pieces.ensures) (all_at (IsPart (length p.pieces)) groups c.loop-group.group [] (parts_of_grouping (length p.pieces) groups c.requires.grouping) (omega (arith, c.loop-group-test.true, c.group_count-group-end.ensures))).below

pub loop-group-preserved : goal.loop-group-preserved
loop-group-preserved c =
    let p = view.procedure c.args.procedure.now in
    let groups = groups_in c.args.groups.now c.args.proc in
    pushed_map (bound_in p) groups c.loop-group.group [] (map (λ row. row.items) c.loop-group.rows.items) (map (λ row. row.items) c.push.new.self.items) (omega (arith, c.loop-group-test.true, c.group_count-group-end.ensures))
    (ap (map (λ row. row.items)) c.in_ok-push.ensures.items ∙ map-append (λ row. row.items) c.loop-group.rows.items (c.in_ok-names.names ∷ [])
    ∙ ap (λ ns. map (λ row. row.items) c.loop-group.rows.items ++ ns ∷ []) (c.in_ok-names.ensures ∙ ap (bound_in p) c.pieces.ensures))
    c.loop-group.invariant

pub returns : goal.returns
returns c =
    c.loop-group.invariant
    ∙ ap (map (bound_in (view.procedure c.args.procedure.now))) (front_whole (groups_in c.args.groups.now c.args.proc) c.loop-group.group (omega (arith, c.loop-group-test.false, c.group_count-group-end.ensures)))
