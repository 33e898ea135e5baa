use Rattle.std.proofs.Common.{ℕ, ◌≡◌, count_by, refl, inl, inr, sym, subst, ◌∙◌, arith}
use Rattle.std.proofs.lemmas.Bool.{cases_eq, false≢true}
use Rattle.roc_merge_accept.specs.Inner.Tests.{has_piece}
use Rattle.roc_merge_accept.proofs.partition.is_each_once.Goals as goal

pub returns-then-groups_with-ne1 : goal.returns-then-groups_with-ne1
returns-then-groups_with-ne1 c = (λ t. absurd (false≢true t), λ h. absurd (c.if-groups_with-ne1.true (c.groups_with.ensures ∙ h c.loop-piece.piece c.loop-piece-test.true)))

pub loop-piece-preserved : goal.loop-piece-preserved
loop-piece-preserved c = λ x l.
    let P : ℕ → Type 0 = λ n. count_by (λ g. has_piece n g.items) c.args.groups.now ≡ 1 in
    elim (cases_eq x c.loop-piece.piece) [
      | inl e ↦ subst P (sym e) (sym c.groups_with.ensures ∙ c.if-groups_with-ne1.false)
      | inr n ↦ c.loop-piece.invariant x (omega arith)
    ]

pub returns : goal.returns
returns c = (λ t x l. c.loop-piece.invariant x (omega arith), λ h. refl)
