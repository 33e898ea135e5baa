-- Which pieces are among those of a list
use Rattle.std.proofs.Common.{◌≡◌, Bool, true, ◌==◌, List, [], ◌∷◌, ◌∙◌, ap, arith, inl, inr}
use Rattle.std.proofs.lemmas.Bool.{eqb-true, and_parts, false≢true, or_cases, or_left, or_right}
use Rattle.std.proofs.lemmas.Bool.Decides.{nat_tests}
use Rattle.std.specs.List.{list_any}
use Rattle.roc_program.specs.declared.piece_id.PieceId.{PieceId}
use Rattle.roc_program.proofs.PieceIds.{same_id_parts}
use Rattle.roc_conflict.specs.Inner.Found.{is_piece, has_id}

pub is_piece-true : (a b : PieceId) → is_piece a b ≡ true → a ≡ b
is_piece-true a b h =
    let p = and_parts (a.proc == b.proc) (a.piece == b.piece) h in
    same_id_parts a b (eqb-true a.proc b.proc p.0) (eqb-true a.piece b.piece p.1)

pub is_piece-same : (a : PieceId) → is_piece a a ≡ true
is_piece-same a = grind (arith, nat_tests)

-- a test that one of the pieces passes finds a piece
pub any_from_among : (p : PieceId → Bool) (ids : List PieceId) (id : PieceId) → has_id ids id ≡ true → p id ≡ true → list_any p ids ≡ true
any_from_among p [] id h t = absurd (false≢true h)
any_from_among p (x ∷ ids) id h t =
    elim (or_cases (is_piece x id) (has_id ids id) h) [
      | inl e ↦ or_left (p x) (list_any p ids) (ap p (is_piece-true x id e) ∙ t)
      | inr k ↦ or_right (p x) (list_any p ids) (any_from_among p ids id k t)
    ]

-- and what it finds passes it
pub found_by_any : (p : PieceId → Bool) (ids : List PieceId) → list_any p ids ≡ true → (id : PieceId) × (p id ≡ true)
found_by_any p [] h = absurd (false≢true h)
found_by_any p (x ∷ ids) h = elim (or_cases (p x) (list_any p ids) h) [ inl e ↦ (x, e) | inr k ↦ found_by_any p ids k ]
