-- The class of a group is that of its pieces
use Rattle.std.proofs.Common.{◌≡◌, ◌∙◌, ℕ, ◌<◌, Bool, true, ◌&&◌, ◌==◌, List, length, refl, sym, ap, subst, inl, inr, arith}
use Rattle.std.proofs.lemmas.Bool.{cases_lt, and_parts, and_from, eqb-true, eq-eqb}
use Rattle.std.proofs.lemmas.List.{get_or_past}
use Rattle.std.specs.List.{list_any}
use Rattle.roc_sequence.specs.Lists.{Has}
use Rattle.roc_sequence.proofs.Holds.{any_has, has_any, same_tests}
use Rattle.roc_merge_groups.specs.Groups.{piece_numbered, groups_in, group_at}
use Rattle.roc_merge_groups.specs.Accepted.{is_immediate_group}
use Rattle.roc_merge_groups.proofs.Elements.{place_of_has, has_at_place, has_row}
use Rattle.roc_merge_groups.proofs.FusedClasses.{numbered_once}
use Rattle.roc_plan.specs.Groups.{Group, Plan, no_group, groups_of, group_of, is_immediate_of}
use Rattle.roc_plan.specs.Accepted.{grouping_of, is_piece_immediate, IsAccepted}
use Rattle.roc_plan.proofs.Placed.{group_again, count_again, procedure_there, accepted_at}

module _ (plan : Plan) (is : IsAccepted plan) where
  -- a group with a piece is there
  pub group_there : (proc g x : ℕ) → Has x (group_of plan proc g).pieces → g < length (groups_of plan proc)
  group_there proc g x h =
      elim (cases_lt g (length (groups_of plan proc))) [
        | inl l ↦ l
        | inr past ↦ (let P : Group → Type 0 = λ o. Has x o.pieces in absurd (subst P (get_or_past (groups_of plan proc) g no_group past) h))
      ]

  pub in_grouping : (proc g x : ℕ) → Has x (group_of plan proc g).pieces → Has x (group_at (groups_in (grouping_of plan) proc) g)
  in_grouping proc g x h = subst (λ (ps : List ℕ). Has x ps) (sym (group_again plan is proc g)) h

  -- two groups with a piece in common are one
  pub same_number : (proc g h x : ℕ) → Has x (group_of plan proc g).pieces → Has x (group_of plan proc h).pieces → g ≡ h
  same_number proc g h x one other =
      let gs = groups_in (grouping_of plan) proc in
      let l = group_there proc g x one in
      let m = group_there proc h x other in
      let grouping = (accepted_at plan is proc (procedure_there plan is proc g l)).grouping in
      let a = in_grouping proc g x one in
      let b = in_grouping proc h x other in
      numbered_once gs grouping.numbered g h (omega (arith, l, count_again plan is proc)) (omega (arith, m, count_again plan is proc))
      (grouping.once (group_at gs g) (group_at gs h) x (has_row x gs g a) (has_row x gs h b) a b)

  pub class_of_piece : (proc g x : ℕ) → Has x (group_of plan proc g).pieces → is_piece_immediate plan (piece_numbered proc x) ≡ is_immediate_of plan proc g
  class_of_piece proc g x h = same_tests (is_piece_immediate plan (piece_numbered proc x)) (is_immediate_of plan proc g) forth back
    where
      marked : Group → Bool
      marked o = o.is_immediate && list_any (λ y. y == x) o.pieces

      forth : list_any (λ o. o.is_immediate && list_any (λ y. y == x) o.pieces) (groups_of plan proc) ≡ true → is_immediate_of plan proc g ≡ true
      forth k =
          let o = any_has (λ o. o.is_immediate && list_any (λ y. y == x) o.pieces) (groups_of plan proc) k in
          let parts = and_parts o.0.is_immediate (list_any (λ y. y == x) o.0.pieces) o.2 in
          let y = any_has (λ y. y == x) o.0.pieces parts.1 in
          let at = place_of_has o.0 (groups_of plan proc) no_group o.1 in
          let same : group_of plan proc at.0 ≡ o.0 = at.2 in
          let there : Has x (group_of plan proc at.0).pieces = subst (λ (q : Group). Has x q.pieces) (sym same) (subst (λ n. Has n o.0.pieces) (eqb-true y.0 x y.2) y.1) in
          ap (λ n. is_immediate_of plan proc n) (same_number proc g at.0 x h there) ∙ ap (λ (q : Group). q.is_immediate) same ∙ parts.0

      back : is_immediate_of plan proc g ≡ true → list_any (λ o. o.is_immediate && list_any (λ y. y == x) o.pieces) (groups_of plan proc) ≡ true
      back k =
          has_any (λ o. o.is_immediate && list_any (λ y. y == x) o.pieces) (groups_of plan proc) (group_of plan proc g) (has_at_place (groups_of plan proc) g no_group (group_there proc g x h))
          (and_from (is_immediate_of plan proc g) (list_any (λ y. y == x) (group_of plan proc g).pieces) k (has_any (λ y. y == x) (group_of plan proc g).pieces x h (eq-eqb x x refl)))

  -- a group with an immediate piece is immediate
  pub class_of_group : (proc g : ℕ) → is_immediate_group (is_piece_immediate plan) (grouping_of plan) (piece_numbered proc g) ≡ true → is_immediate_of plan proc g ≡ true
  class_of_group proc g h =
      let x = any_has (λ x. is_piece_immediate plan (piece_numbered proc x)) (group_at (groups_in (grouping_of plan) proc) g) h in
      immediate_by x.0 x.1 x.2
    where
      immediate_by : (x : ℕ) → Has x (group_at (groups_in (grouping_of plan) proc) g) → is_piece_immediate plan (piece_numbered proc x) ≡ true → is_immediate_of plan proc g ≡ true
      immediate_by x k e = sym (class_of_piece proc g x (subst (λ (ps : List ℕ). Has x ps) (group_again plan is proc g) k)) ∙ e
