-- A program is acceptable, or there is a first pair that is apart, or a first three of which one is in the way
use Rattle.std.proofs.Common.{◌≡◌, ℕ, ◌<◌, ◌≤◌, Bool, true, IsTrue, List, [], ◌∷◌, length, refl, subst, ◌⊎◌, inl, inr, arith}
use Rattle.std.proofs.lemmas.Bool.{and_parts}
use Rattle.roc_program.specs.Program.{Workload}
use Rattle.roc_program.specs.WellFormed.{IsProgram}
use Rattle.roc_program.specs.Pieces.{pieces_in, piece_of, HasPiece}
use Rattle.roc_program.specs.declared.piece_id.PieceId.{PieceId}
use Rattle.roc_conflict.specs.Contended.{has_conflict, is_contended}
use Rattle.roc_conflict.proofs.Least.{present_from_immediate}
use Rattle.roc_conflict.proofs.Promoting.{within_marks}
use Rattle.roc_merge_groups.specs.Groups.{piece_numbered}
use Rattle.roc_merge_groups.specs.Flow.{feeds, Leads, directly, IsBetween}
use Rattle.roc_merge_groups.specs.Core.{InCore, contended, between, AreCoLocated, IsAcceptable}
use Rattle.roc_merge_groups.specs.Paths.{leads_below}
use Rattle.roc_merge_groups.specs.Refusals.{AreApart, IsApart, IsInTheWay, IsBlocked}
use Rattle.roc_merge_groups.proofs.Forward.{rises}
use Rattle.roc_merge_groups.proofs.Paths.{leads_from_below, below_from_leads}
use Rattle.roc_merge.proofs.Flows.{leads_there}
use Rattle.roc_merge.proofs.Firsts.{acceptable_from}
use Rattle.roc_check.specs.Checked.{AreImmediate}
use Rattle.roc_check.proofs.Searches.{HoldsOrNot, by_test, is_less, both, either, not_so, along, some_number, IsWithin, IsLeastOf, least_list}
use Rattle.roc_check.proofs.Trees.{one_tree_or_not}

module _ (program : Workload) (well : IsProgram program) (is_immediate : PieceId → Bool) (least : AreImmediate program is_immediate) where
  abbrev Meets : ℕ → ℕ → Type 0
  Meets proc x = IsTrue (is_contended program is_immediate (piece_numbered proc x))

  meets_there : (proc x : ℕ) → Meets proc x → HasPiece program (piece_numbered proc x)
  meets_there proc x h =
      let id = piece_numbered proc x in
      present_from_immediate program id ((least id).0 (and_parts (is_immediate id) (has_conflict program id) h).0)

  -- a contended piece has small numbers
  meets_within : (proc x : ℕ) → Meets proc x → (proc < 64) × (x < 64)
  meets_within proc x h = let r = within_marks program (piece_numbered proc x) well (meets_there proc x h) in let l = r.0 in let m = r.1 in (omega arith, omega arith)

  leads_known : (proc a b : ℕ) → HoldsOrNot (Leads (feeds program proc) a b)
  leads_known proc a b =
      let n : ℕ = length (pieces_in program proc) in
      along (IsTrue (leads_below (feeds program proc) n a b)) (Leads (feeds program proc) a b) (leads_from_below (feeds program proc) n a b)
      (below_from_leads (feeds program proc) n (λ x y h. from_there x y h) a b)
      (by_test (leads_below (feeds program proc) n a b))
    where
      from_there : (x y : ℕ) → feeds program proc x y ≡ true → x < length (pieces_in program proc)
      from_there x y h =
          let l : x ≤ y = rises program well proc x y (directly h) in
          let m : y < length (pieces_in program proc) = leads_there program proc x y (directly h) in
          omega arith

  between_known : (proc p x q : ℕ) → HoldsOrNot (IsBetween program proc p x q)
  between_known proc p x q =
      along (Leads (feeds program proc) p x × Leads (feeds program proc) x q) (IsBetween program proc p x q) (λ h. record { behind = h.0; before = h.1 }) (λ h. (h.behind, h.before))
      (both (Leads (feeds program proc) p x) (Leads (feeds program proc) x q) (leads_known proc p x) (leads_known proc x q))

  located_known : (proc x y : ℕ) → HoldsOrNot (AreCoLocated program proc x y)
  located_known proc x y = one_tree_or_not (piece_of program (piece_numbered proc x)).place (piece_of program (piece_numbered proc y)).place

  meets_known : (proc x : ℕ) → HoldsOrNot (Meets proc x)
  meets_known proc x = by_test (is_contended program is_immediate (piece_numbered proc x))

  -- ---- the core

  abbrev Around : (proc x p q : ℕ) → Type 0
  Around proc x p q = Meets proc p × (Meets proc q × IsBetween program proc p x q)

  around_known : (proc x p : ℕ) → HoldsOrNot ((q : ℕ) × Around proc x p q)
  around_known proc x p =
      some_number (Around proc x p)
      (λ q. both (Meets proc p) (Meets proc q × IsBetween program proc p x q) (meets_known proc p)
      (both (Meets proc q) (IsBetween program proc p x q) (meets_known proc q) (between_known proc p x q))) 64
      (λ q h. (meets_within proc q h.1.0).1)

  pub core_known : (proc x : ℕ) → HoldsOrNot (InCore program is_immediate proc x)
  core_known proc x =
      along (Meets proc x ⊎ ((p : ℕ) × ((q : ℕ) × Around proc x p q))) (InCore program is_immediate proc x) to (from x)
      (either (Meets proc x) ((p : ℕ) × ((q : ℕ) × Around proc x p q)) (meets_known proc x)
      (some_number (λ p. (q : ℕ) × Around proc x p q) (around_known proc x) 64 (λ p h. (meets_within proc p h.1.0).1)))
    where
      to : Meets proc x ⊎ ((p : ℕ) × ((q : ℕ) × Around proc x p q)) → InCore program is_immediate proc x
      to (inl h) = contended h
      to (inr r) = between r.1.1.0 r.1.1.1.0 r.1.1.1.1

      from : (y : ℕ) → InCore program is_immediate proc y → Meets proc y ⊎ ((p : ℕ) × ((q : ℕ) × Around proc y p q))
      from _ (contended {x} h) = inl h
      from _ (between {p} {x} {q} h k b) = inr (p, (q, (h, (k, b))))

  -- ---- apart

  abbrev Apart : PieceId → PieceId → Type 0
  Apart p q = AreApart program is_immediate p q

  -- of the numbers of the procedure and the two
  abbrev ApartBy : List ℕ → Type 0
  ApartBy [] = ⊥
  ApartBy (a ∷ []) = ⊥
  ApartBy (a ∷ b ∷ []) = ⊥
  ApartBy (a ∷ b ∷ c ∷ []) = AreApart program is_immediate (piece_numbered a b) (piece_numbered a c)
  ApartBy (a ∷ b ∷ c ∷ d ∷ rest) = ⊥

  apart_known : (numbers : List ℕ) → HoldsOrNot (ApartBy numbers)
  apart_known [] = inr (λ h. h)
  apart_known (a ∷ []) = inr (λ h. h)
  apart_known (a ∷ b ∷ []) = inr (λ h. h)
  apart_known (a ∷ b ∷ c ∷ []) =
      along ((b < c) × (Meets a b × (Meets a c × (¬ AreCoLocated program a b c)))) (AreApart program is_immediate (piece_numbered a b) (piece_numbered a c))
      (λ h. record { one_procedure = refl; in_order = h.0; first = h.1.0; second = h.1.1.0; unlike = h.1.1.1 })
      (λ are. (are.in_order, (are.first, (are.second, are.unlike))))
      (both (b < c) (Meets a b × (Meets a c × (¬ AreCoLocated program a b c))) (is_less b c)
      (both (Meets a b) (Meets a c × (¬ AreCoLocated program a b c)) (meets_known a b)
      (both (Meets a c) (¬ AreCoLocated program a b c) (meets_known a c) (not_so (AreCoLocated program a b c) (located_known a b c)))))
  apart_known (a ∷ b ∷ c ∷ d ∷ rest) = inr (λ h. h)

  apart_within : (numbers : List ℕ) → ApartBy numbers → IsWithin 3 64 numbers
  apart_within [] h = h
  apart_within (a ∷ []) h = absurd h
  apart_within (a ∷ b ∷ []) h = absurd h
  apart_within (a ∷ b ∷ c ∷ []) are = let r = meets_within a b are.first in let s = meets_within a c are.second in (r.0, (r.1, (s.1, tt)))
  apart_within (a ∷ b ∷ c ∷ d ∷ rest) h = absurd h

  by_numbers : (p q : PieceId) → Apart p q → ApartBy (p.proc ∷ p.piece ∷ q.piece ∷ [])
  by_numbers p q are = record {
    one_procedure = refl;
    in_order = are.in_order;
    first = are.first;
    second = subst (λ n. Meets n q.piece) are.one_procedure are.second;
    unlike = are.unlike;
  }

  abbrev pub FirstApart : Type 0
  FirstApart = (p : PieceId) × ((q : PieceId) × IsApart program is_immediate p q)

  first_of : (numbers : List ℕ) → IsLeastOf ApartBy numbers → FirstApart
  first_of [] l = absurd l.is
  first_of (a ∷ []) l = absurd l.is
  first_of (a ∷ b ∷ []) l = absurd l.is
  first_of (a ∷ b ∷ c ∷ []) l =
      (piece_numbered a b, (piece_numbered a c, record { is = l.is; least = λ p q are. l.least (p.proc ∷ p.piece ∷ q.piece ∷ []) (by_numbers p q are) }))
  first_of (a ∷ b ∷ c ∷ d ∷ rest) l = absurd l.is

  -- the first two that are apart, unless no two are
  pub apart_or_none : FirstApart ⊎ ((p q : PieceId) → ¬ AreApart program is_immediate p q)
  apart_or_none = elim (least_list 3 64 ApartBy apart_known apart_within) [
    | inl f ↦ inl (first_of f.0 f.1)
    | inr none ↦ inr (λ p q are. none (p.proc ∷ p.piece ∷ q.piece ∷ []) (by_numbers p q are))
  ]

  -- ---- in the way

  abbrev WayBy : List ℕ → Type 0
  WayBy [] = ⊥
  WayBy (a ∷ []) = ⊥
  WayBy (a ∷ b ∷ []) = ⊥
  WayBy (a ∷ b ∷ c ∷ []) = ⊥
  WayBy (a ∷ b ∷ c ∷ d ∷ []) = IsInTheWay program is_immediate (piece_numbered a b) (piece_numbered a c) (piece_numbered a d)
  WayBy (a ∷ b ∷ c ∷ d ∷ e ∷ rest) = ⊥

  way_known : (numbers : List ℕ) → HoldsOrNot (WayBy numbers)
  way_known [] = inr (λ h. h)
  way_known (a ∷ []) = inr (λ h. h)
  way_known (a ∷ b ∷ []) = inr (λ h. h)
  way_known (a ∷ b ∷ c ∷ []) = inr (λ h. h)
  way_known (a ∷ b ∷ c ∷ d ∷ []) =
      along (Meets a b × (Meets a c × (IsBetween program a b d c × (¬ AreCoLocated program a b d)))) (IsInTheWay program is_immediate (piece_numbered a b) (piece_numbered a c) (piece_numbered a d))
      (λ h. record { one_procedure = refl; same_procedure = refl; first = h.0; second = h.1.0; between = h.1.1.0; unlike = h.1.1.1 })
      (λ is. (is.first, (is.second, (is.between, is.unlike))))
      (both (Meets a b) (Meets a c × (IsBetween program a b d c × (¬ AreCoLocated program a b d))) (meets_known a b)
      (both (Meets a c) (IsBetween program a b d c × (¬ AreCoLocated program a b d)) (meets_known a c)
      (both (IsBetween program a b d c) (¬ AreCoLocated program a b d) (between_known a b d c) (not_so (AreCoLocated program a b d) (located_known a b d)))))
  way_known (a ∷ b ∷ c ∷ d ∷ e ∷ rest) = inr (λ h. h)

  way_within : (numbers : List ℕ) → WayBy numbers → IsWithin 4 64 numbers
  way_within [] h = h
  way_within (a ∷ []) h = absurd h
  way_within (a ∷ b ∷ []) h = absurd h
  way_within (a ∷ b ∷ c ∷ []) h = absurd h
  way_within (a ∷ b ∷ c ∷ d ∷ []) is =
      let r = meets_within a b is.first in
      let s = meets_within a c is.second in
      let l : d ≤ c = rises program well a d c is.between.before in
      let m : c < 64 = s.1 in
      (r.0, (r.1, (s.1, (omega arith, tt))))
  way_within (a ∷ b ∷ c ∷ d ∷ e ∷ rest) h = absurd h

  way_numbers : (p q x : PieceId) → IsInTheWay program is_immediate p q x → WayBy (p.proc ∷ p.piece ∷ q.piece ∷ x.piece ∷ [])
  way_numbers p q x is = record {
    one_procedure = refl;
    same_procedure = refl;
    first = is.first;
    second = subst (λ n. Meets n q.piece) is.one_procedure is.second;
    between = is.between;
    unlike = is.unlike;
  }

  abbrev pub FirstBlocked : Type 0
  FirstBlocked = (p : PieceId) × ((q : PieceId) × ((x : PieceId) × IsBlocked program is_immediate p q x))

  module _ (none : (p q : PieceId) → ¬ AreApart program is_immediate p q) where
    first_three : (numbers : List ℕ) → IsLeastOf WayBy numbers → FirstBlocked
    first_three [] l = absurd l.is
    first_three (a ∷ []) l = absurd l.is
    first_three (a ∷ b ∷ []) l = absurd l.is
    first_three (a ∷ b ∷ c ∷ []) l = absurd l.is
    first_three (a ∷ b ∷ c ∷ d ∷ []) l = (
      piece_numbered a b,
      (
        piece_numbered a c,
        (
          piece_numbered a d,
          record {
            none_apart = none;
            is = l.is;
            least = λ p q x is. l.least (p.proc ∷ p.piece ∷ q.piece ∷ x.piece ∷ []) (way_numbers p q x is);
          },
        ),
      ),
    )
    first_three (a ∷ b ∷ c ∷ d ∷ e ∷ rest) l = absurd l.is

    -- no two are apart and none is in the way, so the core of each procedure is at one place
    accepted : ((p q x : PieceId) → ¬ IsInTheWay program is_immediate p q x) → IsAcceptable program is_immediate
    accepted clear = acceptable_from program is_immediate
        (λ proc p q order cp cq. elim (located_known proc p q) [
          | inl e ↦ e
          | inr unlike ↦ absurd (none (piece_numbered proc p) (piece_numbered proc q) (record { one_procedure = refl; in_order = order; first = cp; second = cq; unlike = unlike }))
        ])
        (λ proc p q x cp cq b. elim (located_known proc p x) [
          | inl e ↦ e
          | inr unlike ↦ absurd (clear (piece_numbered proc p) (piece_numbered proc q) (piece_numbered proc x)
              (record { one_procedure = refl; same_procedure = refl; first = cp; second = cq; between = b; unlike = unlike }))
        ])

    -- the first three of which one is in the way, unless the program is acceptable
    pub blocked_or_acceptable : FirstBlocked ⊎ IsAcceptable program is_immediate
    blocked_or_acceptable = elim (least_list 4 64 WayBy way_known way_within) [
      | inl f ↦ inl (first_three f.0 f.1)
      | inr clear ↦ inr (accepted (λ p q x is. clear (p.proc ∷ p.piece ∷ q.piece ∷ x.piece ∷ []) (way_numbers p q x is)))
    ]
