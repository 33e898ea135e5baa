use Rattle.std.proofs.Common.{ℕ, List, length, refl, sym, subst, ◌∙◌}
use Rattle.std.proofs.lemmas.Bool.{false≢true}
use Rattle.roc_program.specs.Pieces.{pieces_in}
use Rattle.roc_conflict.specs.Classes.{is_immediate}
use Rattle.roc_merge_groups.specs.Parts.{IsPart}
use Rattle.roc_merge_accept.specs.Inner.Tests.{IsAlike}
use Rattle.roc_merge_accept.proofs.Each.{one_more, not_each, each, of_each}
use Rattle.roc_merge_accept.proofs.acceptance.are_alike.Goals as goal

pub is_alike-requires-clause-part : goal.is_alike-requires-clause-part
is_alike-requires-clause-part c =
    subst (IsPart (length (pieces_in c.args.workload.now c.args.proc))) (sym c.deref.ensures.value)
    (of_each (IsPart (length (pieces_in c.args.workload.now c.args.proc))) (λ g. g.items) c.args.groups.now c.loop-group.group-index c.group-item.result c.loop-group-test.true c.group-item.is c.requires.parts)

pub returns-then-not-is_alike : goal.returns-then-not-is_alike
returns-then-not-is_alike c =
    let P : List ℕ → Type 0 = IsAlike c.args.workload.now (is_immediate c.args.classes.now) c.args.proc in (
      λ t. absurd (false≢true t),
      λ all. absurd (not_each P (λ g. g.items) c.args.groups.now c.loop-group.group-index c.group-item.result c.loop-group-test.true c.group-item.is
          (λ p. false≢true (sym c.if-not-is_alike.true ∙ c.is_alike.ensures.1 (subst P (sym c.deref.ensures.value) p))) all),
    )

pub loop-group-preserved : goal.loop-group-preserved
loop-group-preserved c =
    let P : List ℕ → Type 0 = IsAlike c.args.workload.now (is_immediate c.args.classes.now) c.args.proc in
    one_more P (λ g. g.items) c.args.groups.now c.loop-group.group-index c.group-item.result c.loop-group-test.true c.group-item.is c.loop-group.invariant
    (subst P c.deref.ensures.value (c.is_alike.ensures.0 c.if-not-is_alike.false))

pub returns : goal.returns
returns c =
    let P : List ℕ → Type 0 = IsAlike c.args.workload.now (is_immediate c.args.classes.now) c.args.proc in
    (λ t. each P (λ g. g.items) c.args.groups.now c.loop-group.group-index c.loop-group-test.false c.loop-group.invariant, λ all. refl)
