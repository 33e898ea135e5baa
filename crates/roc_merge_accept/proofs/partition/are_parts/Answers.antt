use Rattle.std.proofs.Common.{ℕ, List, refl, sym, subst, ◌∙◌}
use Rattle.std.proofs.lemmas.Bool.{false≢true}
use Rattle.roc_merge_groups.specs.Parts.{IsPart}
use Rattle.roc_merge_accept.proofs.Each.{one_more, not_each, each}
use Rattle.roc_merge_accept.proofs.partition.are_parts.Goals as goal

pub returns-then-not-is_part : goal.returns-then-not-is_part
returns-then-not-is_part c =
    let P : List ℕ → Type 0 = IsPart c.args.count in (
      λ t. absurd (false≢true t),
      λ all. absurd (not_each P (λ g. g.items) c.args.groups.now c.loop-group.group-index c.group-item.result c.loop-group-test.true c.group-item.is
          (λ p. false≢true (sym c.if-not-is_part.true ∙ c.is_part.ensures.1 (subst P (sym c.deref.ensures.value) p))) all),
    )

pub loop-group-preserved : goal.loop-group-preserved
loop-group-preserved c =
    let P : List ℕ → Type 0 = IsPart c.args.count in
    one_more P (λ g. g.items) c.args.groups.now c.loop-group.group-index c.group-item.result c.loop-group-test.true c.group-item.is c.loop-group.invariant
    (subst P c.deref.ensures.value (c.is_part.ensures.0 c.if-not-is_part.false))

pub returns : goal.returns
returns c =
    let P : List ℕ → Type 0 = IsPart c.args.count in
    (λ t. each P (λ g. g.items) c.args.groups.now c.loop-group.group-index c.loop-group-test.false c.loop-group.invariant, λ all. refl)
