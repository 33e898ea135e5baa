use Rattle.std.proofs.Common.{◌∙◌, ℕ, Bool, ◌<◌, List, length, map, sym, ap, subst, arith}
use Rattle.std.specs.List.{AllByRecursion, list_any}
use Rattle.roc_program.specs.Pieces.{pieces_in}
use Rattle.roc_merge_groups.specs.Groups.{group_at}
use Rattle.roc_merge_groups.specs.Flow.{feeds}
use Rattle.roc_merge_groups.specs.Accepted.{group_feeds}
use Rattle.roc_merge_groups.specs.Parts.{IsPart}
use Rattle.roc_merge_accept.proofs.Each.{here, of_each}
use Rattle.roc_merge_accept.proofs.Circling.{row_more}
use Rattle.roc_merge_accept.proofs.circle.steps_from.Goals as goal

pub is_fed-requires-clause-users : goal.is_fed-requires-clause-users
is_fed-requires-clause-users c =
    let P : List ℕ → Type 0 = λ g. AllByRecursion (λ x. x < length (pieces_in c.args.workload.now c.args.proc)) g in
    subst P (sym c.deref-in-loop-to.ensures.value)
    (of_each (IsPart (length (pieces_in c.args.workload.now c.args.proc))) (λ g. g.items) c.args.groups.now c.loop-to.to c.index-groups-to.result c.loop-to-test.true c.index-groups-to.is c.requires.parts).below

pub loop-to-preserved : goal.loop-to-preserved
loop-to-preserved c =
    let P : List ℕ → Type 0 = IsPart (length (pieces_in c.args.workload.now c.args.proc)) in
    let groups = map (λ g. g.items) c.args.groups.now in
    let one : List ℕ → List ℕ → Bool = λ sources users. list_any (λ z. list_any (feeds c.args.workload.now c.args.proc z) users) sources in
    row_more (group_feeds c.args.workload.now c.args.proc groups c.args.from) c.loop-to.row c.loop-to.to c.is_fed.result c.loop-to.invariant (omega arith)
    (c.is_fed.ensures
    ∙ ap (λ s. one s c.deref-in-loop-to.result.now) (c.deref.ensures.value ∙ sym (here P (λ g. g.items) c.args.groups.now c.args.from c.index-groups-from.result c.requires.from c.index-groups-from.is))
    ∙ ap (one (group_at groups c.args.from)) (c.deref-in-loop-to.ensures.value ∙ sym (here P (λ g. g.items) c.args.groups.now c.loop-to.to c.index-groups-to.result c.loop-to-test.true c.index-groups-to.is)))
