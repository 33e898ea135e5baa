-- Components that stand under ended members of a coordinator come first in its part
use Rattle.std.proofs.Common.{◌≡◌, ◌==◌, ◌&&◌, ◌<◌, ◌≤◌, ℕ, Bool, true, false, not, List, [], ◌∷◌, length, get_or, refl, sym, ap, subst, ◌∙◌, inl, inr, arith}
use Rattle.std.proofs.lemmas.Bool.{cases_lt, false≢true}
use Rattle.std.proofs.lemmas.Bool.Decides.{nat_tests}
use Rattle.std.proofs.lemmas.List.{get_or_past}
use Rattle.std.specs.List.{AllByRecursion}
use Rattle.roc_base.specs.declared.id.TxnId.{TxnId}
use Rattle.roc_base.specs.TxnId.{txn_lt}
use Rattle.roc_server_taken.specs.declared.components.Component.{Component}
use Rattle.roc_step.specs.Below.{is_ended, mark_of}
use Rattle.roc_server_taken.specs.Inner.Over.{is_not_ahead, is_under}
use Rattle.roc_server_taken.specs.Inner.Standing.{part_of, StandAt}

-- ---- one that is ended

module _ (below : List ℕ) where
  -- where it is of a coordinator, it passes the test
  pub ended_here : (k : ℕ) (a : TxnId) → a.coord ≡ k → is_ended below a ≡ true → (a.coord == k && is_ended below a) ≡ true
  ended_here k a s e = ap (λ b. (a.coord == k) && b) e ∙ grind (arith, nat_tests)

  -- its coordinator has a watermark
  pub coord_within : (n : ℕ) → n ≡ length below → (a : TxnId) → is_ended below a ≡ true → a.coord < n
  coord_within n len a e =
      elim (cases_lt a.coord n) [
        | inl l ↦ l
        | inr h ↦ absurd (
            let none : mark_of below a.coord ≡ 0 = get_or_past below a.coord 0 (omega arith) in
            grind (arith, nat_tests))
      ]

-- ---- those of a coordinator

module _ (below : List ℕ) (k : ℕ) (small : k < 16) where
  -- of two in its part, where the one behind is ended the other is
  through : (a b : TxnId) → part_of a ≡ k → not (txn_lt b a) ≡ true → (b.coord == k && is_ended below b) ≡ true → (a.coord == k && is_ended below a) ≡ true
  through a b p h n =
      let here : b.coord ≡ k = grind (arith, nat_tests) in
      let before : a.coord ≤ b.coord = grind (arith, nat_tests) in
      let there : a.coord ≡ k = omega (arith, here, before, p, small) in
      let same : mark_of below b.coord ≡ mark_of below a.coord = ap (mark_of below) (here ∙ sym there) in
      grind (arith, nat_tests)

  pub ended_through : (a b : Component) → part_of a.under ≡ k → is_not_ahead a b ≡ true → is_under below k b ≡ true → is_under below k a ≡ true
  ended_through a b p h n = through a.under b.under p h n

  -- where the first is not ended, none is
  none_of_these : (a : Component) (rest : List Component) → StandAt k (a ∷ rest) → is_under below k a ≡ false → AllByRecursion (λ c. is_under below k c ≡ false) (a ∷ rest)
  none_of_these a rest s n = (n, behind rest s.rising.0)
    where
      behind : (ys : List Component) → AllByRecursion (λ (b : Component). is_not_ahead a b ≡ true) ys → AllByRecursion (λ c. is_under below k c ≡ false) ys
      behind [] h = tt
      behind (b ∷ ys) h = (one (is_under below k b) refl, behind ys h.1)
        where
          one : (t : Bool) → is_under below k b ≡ t → t ≡ false
          one false e = refl
          one true e = absurd (false≢true (sym n ∙ ended_through a b s.own.0 h.0 e))

  pub none_first : (cs : List Component) (d : Component) → d ≡ get_or cs 0 d → StandAt k cs → is_under below k d ≡ false → AllByRecursion (λ c. is_under below k c ≡ false) cs
  none_first [] d e s n = tt
  none_first (a ∷ rest) d e s n = none_of_these a rest s (subst (λ x. is_under below k x ≡ false) e n)
