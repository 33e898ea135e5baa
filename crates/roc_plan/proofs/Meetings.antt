-- Which groups of an accepted plan may meet
use Rattle.std.proofs.Common.{◌≡◌, ◌≢◌, ◌∙◌, ℕ, true, false, List, [], sym, subst}
use Rattle.std.proofs.lemmas.Bool.{and_from, false_from_ne_true}
use Rattle.std.specs.List.{list_any}
use Rattle.roc_sequence.specs.Lists.{Has}
use Rattle.roc_sequence.proofs.Holds.{any_has, has_any, same_tests}
use Rattle.roc_program.specs.Conflict.{are_in_conflict}
use Rattle.roc_conflict.specs.Immediate.{in_conflict}
use Rattle.roc_conflict.specs.Contended.{has_conflict, is_contended}
use Rattle.roc_conflict.proofs.Mirrored.{conflict_mirrored}
use Rattle.roc_conflict.proofs.Present.{some_conflict}
use Rattle.roc_merge_groups.specs.Groups.{piece_numbered, groups_in}
use Rattle.roc_merge_groups.proofs.Accepting.{contended_together}
use Rattle.roc_merge_groups.proofs.Elements.{place_of_has}
use Rattle.roc_plan.specs.Groups.{Plan, group_of, is_immediate_of}
use Rattle.roc_plan.specs.Accepted.{grouping_of, is_piece_immediate, IsAccepted}
use Rattle.roc_plan.specs.Turns.{may_meet}
use Rattle.roc_plan.proofs.Placed.{group_again}
use Rattle.roc_plan.proofs.Classed.{same_number, class_of_piece}

-- two pieces of the groups are in conflict
pub record IsMeeting (plan : Plan) (p g q h : ℕ) : Type 0 where
  pub x : ℕ
  pub y : ℕ
  pub one : Has x (group_of plan p g).pieces
  pub other : Has y (group_of plan q h).pieces
  pub conflict : are_in_conflict plan.program (piece_numbered p x) (piece_numbered q y) ≡ true

pub meeting : (plan : Plan) (p g q h : ℕ) → may_meet plan p g q h ≡ true → IsMeeting plan p g q h
meeting plan p g q h m =
    let x = any_has (λ x. list_any (λ y. are_in_conflict plan.program (piece_numbered p x) (piece_numbered q y)) (group_of plan q h).pieces) (group_of plan p g).pieces m in
    let y = any_has (λ y. are_in_conflict plan.program (piece_numbered p x.0) (piece_numbered q y)) (group_of plan q h).pieces x.2 in
    record { x = x.0; y = y.0; one = x.1; other = y.1; conflict = y.2 }

mirrored : (plan : Plan) (p g q h : ℕ) → may_meet plan p g q h ≡ true → may_meet plan q h p g ≡ true
mirrored plan p g q h m =
    let k = meeting plan p g q h m in
    has_any (λ y. list_any (λ x. are_in_conflict plan.program (piece_numbered q y) (piece_numbered p x)) (group_of plan p g).pieces) (group_of plan q h).pieces k.y k.other
    (has_any (λ x. are_in_conflict plan.program (piece_numbered q k.y) (piece_numbered p x)) (group_of plan p g).pieces k.x k.one (conflict_mirrored plan.program (piece_numbered q k.y) (piece_numbered p k.x) ∙ k.conflict))

module _ (plan : Plan) (is : IsAccepted plan) where
  pub one_class_meets : (p g q h : ℕ) → may_meet plan p g q h ≡ true → is_immediate_of plan p g ≡ is_immediate_of plan q h
  one_class_meets p g q h m =
      let k = meeting plan p g q h m in
      let back : are_in_conflict plan.program (piece_numbered q k.y) (piece_numbered p k.x) ≡ true = conflict_mirrored plan.program (piece_numbered q k.y) (piece_numbered p k.x) ∙ k.conflict in
      sym (class_of_piece plan is p g k.x k.one)
      ∙ same_tests (is_piece_immediate plan (piece_numbered p k.x)) (is_piece_immediate plan (piece_numbered q k.y))
      (λ e. (is.grouping.least (piece_numbered q k.y)).1 (in_conflict ((is.grouping.least (piece_numbered p k.x)).0 e) k.conflict))
      (λ e. (is.grouping.least (piece_numbered p k.x)).1 (in_conflict ((is.grouping.least (piece_numbered q k.y)).0 e) back))
      ∙ class_of_piece plan is q h k.y k.other

  contended : (p g q h : ℕ) (k : IsMeeting plan p g q h) → is_immediate_of plan p g ≡ true → is_contended plan.program (is_piece_immediate plan) (piece_numbered p k.x) ≡ true
  contended p g q h k e =
      and_from (is_piece_immediate plan (piece_numbered p k.x)) (has_conflict plan.program (piece_numbered p k.x)) (class_of_piece plan is p g k.x k.one ∙ e)
      (some_conflict plan.program (piece_numbered p k.x) (piece_numbered q k.y) k.conflict)

  pub one_contended_meets : (p g h q i r j : ℕ) → is_immediate_of plan p g ≡ true → is_immediate_of plan p h ≡ true → may_meet plan p g q i ≡ true → may_meet plan p h r j ≡ true → g ≡ h
  one_contended_meets p g h q i r j e f m n =
      let k = meeting plan p g q i m in
      let l = meeting plan p h r j n in
      let t = contended_together plan.program (is_piece_immediate plan) (grouping_of plan) is.grouping p k.x l.x (contended p g q i k e) (contended p h r j l f) in
      let at = place_of_has t.group (groups_in (grouping_of plan) p) [] t.is in
      let same = sym at.2 ∙ group_again plan is p at.0 in
      same_number plan is p g at.0 k.x k.one (subst (λ (ps : List ℕ). Has k.x ps) same t.one)
      ∙ sym (same_number plan is p h at.0 l.x l.one (subst (λ (ps : List ℕ). Has l.x ps) same t.other))

  pub siblings_apart : (p g h : ℕ) → g ≢ h → is_immediate_of plan p g ≡ true → may_meet plan p g p h ≡ false
  siblings_apart p g h n e = false_from_ne_true (may_meet plan p g p h) (λ m.
      n (one_contended_meets p g h p h p g e (sym (one_class_meets p g p h m) ∙ e) m (mirrored plan p g p h m)))
