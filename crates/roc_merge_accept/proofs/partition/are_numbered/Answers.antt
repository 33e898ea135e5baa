use Rattle.std.proofs.Common.{[], ℕ, suc, ◌-◌, ◌<◌, ◌≡◌, map, refl, sym, subst, inl, inr, arith}
use Rattle.std.proofs.lemmas.Bool.{cases_eq, false≢true}
use Rattle.std.proofs.lemmas.List.{length-map}
use Rattle.roc_merge_groups.specs.Groups.{group_at, first_piece}
use Rattle.roc_merge_accept.proofs.Parting.{rising_from_steps, not_numbered}
use Rattle.roc_merge_accept.proofs.partition.are_numbered.Goals as goal

pub returns-then-first_of : goal.returns-then-first_of
returns-then-first_of c = (
  λ t. absurd (false≢true t),
  λ r. absurd (not_numbered (map (λ g. g.items) c.args.groups.now) c.loop-at.at (omega arith) (omega (arith, c.loop-at-test.true, length-map c.args.groups.now (λ g. g.items)))
      (omega (arith, c.if-first_of.true, c.first_of.ensures, c.first_of-in-loop-at.ensures)) r),
)

pub loop-at-preserved : goal.loop-at-preserved
loop-at-preserved c = λ i l.
    elim (cases_eq (suc i) c.loop-at.at) [
      | inl e ↦ (let P : ℕ → Type 0 = λ n. first_piece (group_at (map (λ g. g.items) c.args.groups.now) (n - 1)) < first_piece (group_at (map (λ g. g.items) c.args.groups.now) n) in
          let here : P c.loop-at.at = omega (arith, c.if-first_of.false, c.first_of.ensures, c.first_of-in-loop-at.ensures) in
          let same : suc i - 1 ≡ i = omega arith in
          subst (λ n. first_piece (group_at (map (λ g. g.items) c.args.groups.now) n) < first_piece (group_at (map (λ g. g.items) c.args.groups.now) (suc i))) same (subst P (sym e) here))
      | inr n ↦ c.loop-at.invariant i (omega arith)
    ]

pub returns : goal.returns
returns c =
    (λ t. rising_from_steps first_piece [] (map (λ g. g.items) c.args.groups.now) (λ i l. c.loop-at.invariant i (omega (arith, l, c.loop-at-test.false, length-map c.args.groups.now (λ g. g.items)))), λ r. refl)
