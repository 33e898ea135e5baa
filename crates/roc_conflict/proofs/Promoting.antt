-- The walk over the immediate pieces, each of which is taken once and marks those that it promotes
use Rattle.std.proofs.Common.{◌≡◌, ◌↔◌, ℕ, zero, suc, ◌<◌, Bool, true, false, not, ◌&&◌, ◌||◌, List, [], get_or, replicate, IsTrue, refl, sym, ◌∙◌, ap, subst, ◌⊎◌, inl, inr, arith}
use Rattle.std.proofs.lemmas.Bool.{false≢true, and_parts, or_cases, not-true}
use Rattle.roc_program.specs.Program.{Workload}
use Rattle.roc_program.specs.LookUps.{no_procedure}
use Rattle.roc_program.specs.Conflict.{are_in_conflict}
use Rattle.roc_program.specs.Pieces.{piece_of, HasPiece}
use Rattle.roc_program.specs.WellFormed.{IsProcedure, IsProgram}
use Rattle.roc_program.specs.declared.piece_id.PieceId.{PieceId}
use Rattle.roc_sequence.proofs.Holds.{all_at}
use Rattle.roc_conflict.specs.Classes.{is_immediate}
use Rattle.roc_conflict.specs.Immediate.{IsImmediate, declared, in_conflict}
use Rattle.roc_conflict.specs.Inner.Marks.{is_due, IsMarked}
use Rattle.roc_conflict.proofs.Mirrored.{conflict_mirrored}
use Rattle.roc_conflict.proofs.Present.{present_from_conflict}

-- a piece has a place among the marks
pub within_marks : (program : Workload) (id : PieceId) → IsProgram program → HasPiece program id → (id.proc < 64) × (id.piece < 16)
within_marks program id is there =
    let few = is.few_procedures in
    let l = there.procedure in
    let m = there.piece in
    let k = (all_at (IsProcedure program.tables) program.procedures id.proc no_procedure is.procedures l).few_pieces in
    (omega arith, omega arith)

-- nothing is marked
pub none_marked : (id : PieceId) → is_immediate (replicate 64 (replicate 16 false)) id ≡ false
none_marked id = row (get_or (replicate 64 (replicate 16 false)) id.proc []) (rows 64 id.proc)
  where
    rows : (n i : ℕ) → (get_or (replicate n (replicate 16 false)) i [] ≡ replicate 16 false) ⊎ (get_or (replicate n (replicate 16 false)) i [] ≡ [])
    rows zero i = inr refl
    rows (suc n) zero = inl refl
    rows (suc n) (suc i) = rows n i

    places : (n i : ℕ) → get_or (replicate n false) i false ≡ false
    places zero i = refl
    places (suc n) zero = refl
    places (suc n) (suc i) = places n i

    row : (r : List Bool) → (r ≡ replicate 16 false) ⊎ (r ≡ []) → get_or r id.piece false ≡ false
    row r (inl e) = ap (λ (s : List Bool). get_or s id.piece false) e ∙ places 16 id.piece
    row r (inr e) = ap (λ (s : List Bool). get_or s id.piece false) e

due_taken : (taken due : Bool) → (not taken && due) ≡ false → due ≡ true → taken ≡ true
due_taken true due h k = refl
due_taken false due h k = absurd (false≢true (sym h ∙ k))

or_true : (a b : Bool) → (a ≡ true) ⊎ (b ≡ true) → (a || b) ≡ true
or_true true b h = refl
or_true false b (inl e) = absurd (false≢true e)
or_true false b (inr e) = e

-- what was taken and what is promoted is immediate, and what conflicts with a piece that was taken is promoted
pub record IsWalk (program : Workload) (promoted : PieceId → Bool) (taken : List (List Bool)) : Type 0 where
  pub sound : (id : PieceId) → IsTrue (is_immediate taken id) → IsImmediate program id
  pub marked : (id : PieceId) → IsTrue (promoted id) → IsImmediate program id
  pub closed : (one other : PieceId) → IsTrue (is_immediate taken one) → IsTrue (are_in_conflict program one other) → IsTrue (promoted other)

pub walk_start : (program : Workload) (promoted : PieceId → Bool) (taken : List (List Bool)) → ((id : PieceId) → promoted id ≡ false) → ((id : PieceId) → is_immediate taken id ≡ false) → IsWalk program promoted taken
walk_start program promoted taken none nor = record {
  sound = λ id h. absurd (false≢true (sym (nor id) ∙ h));
  marked = λ id h. absurd (false≢true (sym (none id) ∙ h));
  closed = λ one other h k. absurd (false≢true (sym (nor one) ∙ h));
}

module _ (program : Workload) (promoted : PieceId → Bool) (taken : List (List Bool)) (w : IsWalk program promoted taken) where
  pub walk_more : (promoted2 : PieceId → Bool) (taken2 : List (List Bool)) (next : PieceId) → HasPiece program next → is_due program promoted taken next ≡ true → IsMarked taken taken2 next
      → ((id : PieceId) → IsTrue (promoted2 id) ↔ (IsTrue (promoted id) ⊎ IsTrue (are_in_conflict program next id))) → IsWalk program promoted2 taken2
  walk_more promoted2 taken2 next there due one more = record {
    sound = λ id h. elim (one.only id h) [ inl e ↦ subst (IsImmediate program) (sym e) is | inr k ↦ w.sound id k ];
    marked = λ id h. elim ((more id).0 h) [ inl k ↦ w.marked id k | inr k ↦ in_conflict is k ];
    closed = λ a b h k. elim (one.only a h) [
      | inl e ↦ (more b).1 (inr (ap (λ c. are_in_conflict program c b) (sym e) ∙ k))
      | inr m ↦ (more b).1 (inl (w.closed a b m k))
    ];
  }
    where
      is : IsImmediate program next
      is = elim (or_cases (piece_of program next).is_now (promoted next) (and_parts (not (is_immediate taken next)) ((piece_of program next).is_now || promoted next) due).1) [
        | inl now ↦ declared there now
        | inr k ↦ w.marked next k
      ]

  -- once none is due, exactly the immediate pieces were taken
  module _ (none : (id : PieceId) → HasPiece program id → is_due program promoted taken id ≡ false) where
    taken_from : (id : PieceId) → IsImmediate program id → is_immediate taken id ≡ true
    taken_from _ (declared {id} there now) =
        due_taken (is_immediate taken id) ((piece_of program id).is_now || promoted id) (none id there) (or_true (piece_of program id).is_now (promoted id) (inl now))
    taken_from _ (in_conflict {one} {other} first h) =
        due_taken (is_immediate taken other) ((piece_of program other).is_now || promoted other) (none other (present_from_conflict program one other h))
        (or_true (piece_of program other).is_now (promoted other) (inr (w.closed one other (taken_from one first) h)))

    pub walk_done : (id : PieceId) → IsTrue (is_immediate taken id) ↔ IsImmediate program id
    walk_done id = (w.sound id, taken_from id)

pub not_taken : (program : Workload) (promoted : PieceId → Bool) (taken : List (List Bool)) (id : PieceId) → is_due program promoted taken id ≡ true → is_immediate taken id ≡ false
not_taken program promoted taken id h = not-true (is_immediate taken id) (and_parts (not (is_immediate taken id)) ((piece_of program id).is_now || promoted id) h).0

-- what is promoted once a piece's columns were added
pub promoted_more : (program : Workload) (next : PieceId) (old new : PieceId → Bool) → ((id : PieceId) → new id ≡ (old id || are_in_conflict program id next))
    → (id : PieceId) → IsTrue (new id) ↔ (IsTrue (old id) ⊎ IsTrue (are_in_conflict program next id))
promoted_more program next old new is id = (
  λ h. elim (or_cases (old id) (are_in_conflict program id next) (sym (is id) ∙ h)) [ inl k ↦ inl k | inr k ↦ inr (conflict_mirrored program next id ∙ k) ],
  λ h. is id ∙ or_true (old id) (are_in_conflict program id next) (elim h [ inl k ↦ inl k | inr k ↦ inr (conflict_mirrored program id next ∙ k) ]),
)
