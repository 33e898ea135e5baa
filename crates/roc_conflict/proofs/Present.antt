-- Which pieces a program has
use Rattle.std.proofs.Common.{◌≡◌, true, false, List, [], ◌∷◌, length, get_or, refl, sym, ◌∙◌, ap, ◌⊎◌, inl, inr}
use Rattle.std.proofs.lemmas.Bool.{cases_lt, false≢true}
use Rattle.std.proofs.lemmas.List.{get_or_past}
use Rattle.std.specs.List.{list_any}
use Rattle.roc_program.specs.Program.{Workload, Piece, Procedure, Statement}
use Rattle.roc_program.specs.LookUps.{no_piece, no_procedure}
use Rattle.roc_program.specs.Conflict.{collide, conflict, are_in_conflict}
use Rattle.roc_program.specs.Pieces.{piece_of}
use Rattle.roc_program.specs.declared.piece_id.PieceId.{PieceId}
use Rattle.roc_program.specs.Pieces.{pieces_in, HasPiece, piece_ids, all_pieces}
use Rattle.roc_conflict.specs.Inner.Found.{is_piece, has_id}
use Rattle.roc_program.proofs.Conflicts.{in_conflict_parts}
use Rattle.roc_program.proofs.Ranges.{any_in_map, any_in_flat_map}
use Rattle.roc_conflict.proofs.Members.{is_piece-same, any_from_among}

-- what is not there is the piece without statements
pub present_or_none : (program : Workload) (id : PieceId) → HasPiece program id ⊎ (piece_of program id ≡ no_piece)
present_or_none program id =
    elim (cases_lt id.piece (length (pieces_in program id.proc))) [
      | inr past ↦ inr (get_or_past (pieces_in program id.proc) id.piece no_piece past)
      | inl below ↦ elim (cases_lt id.proc (length program.procedures)) [
        | inl there ↦ inl (record { procedure = there; piece = below })
        | inr past ↦ inr (ap (λ (p : Procedure). get_or p.pieces id.piece no_piece) (get_or_past program.procedures id.proc no_procedure past))
      ]
    ]

pub present_from_now : (program : Workload) (id : PieceId) → (piece_of program id).is_now ≡ true → HasPiece program id
present_from_now program id h =
    elim (present_or_none program id) [ inl there ↦ there | inr e ↦ absurd (false≢true (ap (λ (p : Piece). p.is_now) (sym e) ∙ h)) ]

no_conflict : (body : List Statement) → list_any (λ s. list_any (collide s) []) body ≡ false
no_conflict [] = refl
no_conflict (s ∷ body) = no_conflict body

pub present_from_conflict : (program : Workload) (one other : PieceId) → are_in_conflict program one other ≡ true → HasPiece program other
present_from_conflict program one other h =
    elim (present_or_none program other) [
      | inl there ↦ there
      | inr e ↦ absurd (false≢true (sym (no_conflict (piece_of program one).body) ∙ ap (conflict (piece_of program one)) (sym e) ∙ (in_conflict_parts program one other h).meet))
    ]

-- all pieces that the program has are among its pieces
pub among_all : (program : Workload) (id : PieceId) → HasPiece program id → has_id (all_pieces program) id ≡ true
among_all program id h =
    any_in_flat_map (λ x. is_piece x id) (piece_ids program) (length program.procedures) id.proc h.procedure
    (any_in_map (λ x. is_piece x id) (λ k. record { proc = id.proc; piece = k }) (length (pieces_in program id.proc)) id.piece h.piece (is_piece-same id))

pub some_conflict : (program : Workload) (id other : PieceId) → are_in_conflict program id other ≡ true → list_any (are_in_conflict program id) (all_pieces program) ≡ true
some_conflict program id other h = any_from_among (are_in_conflict program id) (all_pieces program) other (among_all program other (present_from_conflict program id other h)) h
