-- A program has a set of immediate pieces
use Rattle.std.proofs.Common.{◌≡◌, ◌↔◌, ℕ, zero, suc, ◌<◌, Bool, true, false, ◌||◌, IsTrue, List, [], length, get_or, set, replicate, refl, sym, subst, ◌∙◌, ◌⊎◌, inl, inr, arith}
use Rattle.std.proofs.lemmas.Bool.{false≢true, cases_eq, or_cases, or_left, or_right}
use Rattle.std.proofs.lemmas.List.{get_or-set_same, get_or-set_other, length-set}
use Rattle.std.specs.List.{list_any}
use Rattle.roc_sequence.proofs.Holds.{any_has}
use Rattle.roc_program.specs.Program.{Workload}
use Rattle.roc_program.specs.WellFormed.{IsProgram}
use Rattle.roc_program.specs.Conflict.{are_in_conflict}
use Rattle.roc_program.specs.Pieces.{all_pieces, HasPiece}
use Rattle.roc_program.specs.declared.piece_id.PieceId.{PieceId}
use Rattle.roc_conflict.specs.Classes.{is_immediate}
use Rattle.roc_conflict.specs.Inner.Marks.{is_due, open_marks}
use Rattle.roc_conflict.proofs.Marking.{marked}
use Rattle.roc_conflict.proofs.Members.{any_from_among}
use Rattle.roc_conflict.proofs.Present.{among_all}
use Rattle.roc_conflict.proofs.Promoting.{IsWalk, within_marks, none_marked, walk_start, walk_more, walk_done, not_taken}
use Rattle.roc_check.specs.Checked.{AreImmediate}
use Rattle.roc_check.proofs.Vertices.{listed_piece}

-- a place for each piece that a program may have
record IsWide (marks : List (List Bool)) : Type 0 where
  pub rows : length marks ≡ 64
  pub places : (p : ℕ) → p < 64 → length (get_or marks p []) ≡ 16

wide_start : IsWide (replicate 64 (replicate 16 false))
wide_start = record { rows = refl; places = rows 64 }
  where
    rows : (n p : ℕ) → p < n → length (get_or (replicate n (replicate 16 false)) p []) ≡ 16
    rows zero p l = absurd (omega arith)
    rows (suc n) zero l = refl
    rows (suc n) (suc p) l = rows n p (omega arith)

wide_more : (marks : List (List Bool)) (p q : ℕ) → p < 64 → IsWide marks → IsWide (set marks p (set (get_or marks p []) q true))
wide_more marks p q l is = record {
  rows = length-set marks p (set (get_or marks p []) q true) ∙ is.rows;
  places = λ k m. elim (cases_eq k p) [
    | inl e ↦ (let P : List Bool → Type 0 = λ r. length r ≡ 16 in
        let here : get_or (set marks p (set (get_or marks p []) q true)) p [] ≡ set (get_or marks p []) q true =
        get_or-set_same marks p (set (get_or marks p []) q true) [] (subst (λ n. p < n) (sym is.rows) l) in
        subst (λ n. length (get_or (set marks p (set (get_or marks p []) q true)) n []) ≡ 16) (sym e)
        (subst P (sym here) (length-set (get_or marks p []) q true ∙ is.places p l)))
    | inr apart ↦ (let P : List Bool → Type 0 = λ r. length r ≡ 16 in
        subst P (sym (get_or-set_other marks p k (set (get_or marks p []) q true) [] apart)) (is.places k m))
  ];
}

module _ (program : Workload) (well : IsProgram program) where
  abbrev pub HasSet : Type 0
  HasSet = (immediate : PieceId → Bool) × AreImmediate program immediate

  -- what is promoted once a piece is taken
  abbrev promoted_by : (PieceId → Bool) → PieceId → PieceId → Bool
  promoted_by promoted next id = promoted id || are_in_conflict program next id

  promoted_parts : (promoted : PieceId → Bool) (next id : PieceId) → IsTrue (promoted_by promoted next id) ↔ (IsTrue (promoted id) ⊎ IsTrue (are_in_conflict program next id))
  promoted_parts promoted next id = (
    λ h. or_cases (promoted id) (are_in_conflict program next id) h,
    λ h. elim h [ inl k ↦ or_left (promoted id) (are_in_conflict program next id) k | inr k ↦ or_right (promoted id) (are_in_conflict program next id) k ],
  )

  -- where none of all pieces is due, none is
  none_due : (promoted : PieceId → Bool) (taken : List (List Bool)) → list_any (is_due program promoted taken) (all_pieces program) ≡ false
      → (id : PieceId) → HasPiece program id → is_due program promoted taken id ≡ false
  none_due promoted taken none id there = go (is_due program promoted taken id) refl
    where
      go : (t : Bool) → is_due program promoted taken id ≡ t → is_due program promoted taken id ≡ false
      go true e = absurd (false≢true (sym none ∙ any_from_among (is_due program promoted taken) (all_pieces program) id (among_all program id there) e))
      go false e = e

  walked : (n : ℕ) (promoted : PieceId → Bool) (taken : List (List Bool)) → open_marks taken < n → IsWide taken → IsWalk program promoted taken → HasSet
  walked zero promoted taken few wide walk = absurd (omega arith)
  walked (suc n) promoted taken few wide walk = go (list_any (is_due program promoted taken) (all_pieces program)) refl (walked n)
    where
      go : (t : Bool) → list_any (is_due program promoted taken) (all_pieces program) ≡ t
          → ((more : PieceId → Bool) (marks : List (List Bool)) → open_marks marks < n → IsWide marks → IsWalk program more marks → HasSet) → HasSet
      go false e further = (is_immediate taken, walk_done program promoted taken walk (none_due promoted taken e))
      go true e further =
          let r = any_has (is_due program promoted taken) (all_pieces program) e in
          let next : PieceId = r.0 in
          let there : HasPiece program next = listed_piece program next r.1 in
          let in_place = within_marks program next well there in
          let below : next.proc < length taken = subst (λ k. next.proc < k) (sym wide.rows) in_place.0 in
          let inside : next.piece < length (get_or taken next.proc []) = subst (λ k. next.piece < k) (sym (wide.places next.proc in_place.0)) in_place.1 in
          let new : List (List Bool) = set taken next.proc (set (get_or taken next.proc []) next.piece true) in
          let is = marked taken next below inside in
          let fewer : open_marks new < open_marks taken = is.fewer (not_taken program promoted taken next r.2) in
          further (promoted_by promoted next) new (omega arith) (wide_more taken next.proc next.piece in_place.0 wide)
          (walk_more program promoted taken walk (promoted_by promoted next) new next there r.2 is (promoted_parts promoted next))

  pub set_of : HasSet
  set_of =
      let none : List (List Bool) = replicate 64 (replicate 16 false) in
      walked (suc (open_marks none)) (λ id. false) none (omega arith) wide_start (walk_start program (λ id. false) none (λ id. refl) none_marked)
