use Rattle.std.proofs.Common.{ℕ, length, map, sym, subst, ◌∙◌, arith}
use Rattle.std.proofs.lemmas.Bool.{false≢true}
use Rattle.std.proofs.lemmas.List.{length-map}
use Rattle.roc_program.specs.Pieces.{pieces_in}
use Rattle.roc_conflict.specs.Classes.{is_immediate}
use Rattle.roc_merge_groups.specs.Grouping.{IsGrouping}
use Rattle.roc_merge_groups.proofs.Parts.{parts_of_grouping}
use Rattle.roc_merge_accept.proofs.Tested.{few_groups_in, accepted_in, alike_in}
use Rattle.roc_merge_accept.proofs.acceptance.are_accepted_in.Goals as goal

pub are_alike-requires-clause-parts : goal.are_alike-requires-clause-parts
are_alike-requires-clause-parts c =
    let groups = map (λ g. g.items) c.args.groups.now in
    let P : ℕ → Type 0 = λ n. IsGrouping n groups in
    parts_of_grouping (length (pieces_in c.args.workload.now c.args.proc)) groups (subst P c.piece_count.ensures (c.is_grouping.ensures.0 c.if-not-is_grouping.false))

pub has_no_circle-requires-clause-few : goal.has_no_circle-requires-clause-few
has_no_circle-requires-clause-few c =
    let groups = map (λ g. g.items) c.args.groups.now in
    let P : ℕ → Type 0 = λ n. IsGrouping n groups in
    omega (arith, length-map c.args.groups.now (λ g. g.items), few_groups_in c.args.workload.now c.args.proc groups c.procedures.ensures.well_formed c.requires (subst P c.piece_count.ensures (c.is_grouping.ensures.0 c.if-not-is_grouping.false)))

pub has_no_circle-requires-clause-parts : goal.has_no_circle-requires-clause-parts
has_no_circle-requires-clause-parts c =
    let groups = map (λ g. g.items) c.args.groups.now in
    let P : ℕ → Type 0 = λ n. IsGrouping n groups in
    parts_of_grouping (length (pieces_in c.args.workload.now c.args.proc)) groups (subst P c.piece_count.ensures (c.is_grouping.ensures.0 c.if-not-is_grouping.false))

pub returns-then-not-are_alike : goal.returns-then-not-are_alike
returns-then-not-are_alike c =
    let groups = map (λ g. g.items) c.args.groups.now in (
      λ t. absurd (false≢true t),
      λ is. absurd (false≢true (sym c.if-not-are_alike.true ∙ c.are_alike.ensures.1 (alike_in c.args.workload.now (is_immediate c.args.classes.now) c.args.proc groups is))),
    )

pub returns : goal.returns
returns c =
    let groups = map (λ g. g.items) c.args.groups.now in
    let P : ℕ → Type 0 = λ n. IsGrouping n groups in (
      λ t. accepted_in c.args.workload.now (is_immediate c.args.classes.now) c.args.proc groups (subst P c.piece_count.ensures (c.is_grouping.ensures.0 c.if-not-is_grouping.false)) (c.are_alike.ensures.0 c.if-not-are_alike.false)
          (c.has_no_circle.ensures.0 t),
      λ is. c.has_no_circle.ensures.1 is.no_circle,
    )
