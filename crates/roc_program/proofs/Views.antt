-- The pieces of a view only read
use Rattle.std.proofs.Common.{◌≡◌, ℕ, ◌<◌, ◌≤◌, ◌⊎◌, inl, inr, true, length, refl, sym, ◌∙◌, ap, subst}
use Rattle.std.proofs.lemmas.Bool.{cases_lt, false≢true}
use Rattle.std.proofs.lemmas.List.{get_or_past}
use Rattle.std.specs.List.{AllByRecursion}
use Rattle.roc_sequence.proofs.Holds.{all_at}
use Rattle.roc_program.specs.Program.{Workload, Procedure}
use Rattle.roc_program.specs.LookUps.{no_piece, no_procedure, is_view_in}
use Rattle.roc_program.specs.Pieces.{pieces_in, piece_of}
use Rattle.roc_program.specs.WellFormed.{ReadsOnly, IsProcedure, IsProgram}
use Rattle.roc_program.specs.declared.piece_id.PieceId.{PieceId}

-- a view is there
pub view_there : (program : Workload) (proc : ℕ) → is_view_in program proc ≡ true → proc < length program.procedures
view_there program proc viewed =
    elim (cases_lt proc (length program.procedures)) [
      | inl there ↦ there
      | inr past ↦ absurd (false≢true (sym (ap (λ (p : Procedure). p.is_view) (get_or_past program.procedures proc no_procedure past)) ∙ viewed))
    ]

pub view_pieces : (program : Workload) (proc : ℕ) → IsProgram program → is_view_in program proc ≡ true → AllByRecursion ReadsOnly (pieces_in program proc)
view_pieces program proc formed viewed =
    (all_at (IsProcedure program.tables) program.procedures proc no_procedure formed.procedures (view_there program proc viewed)).viewed viewed

-- a piece that is not there reads only, too
pub view_reads : (program : Workload) (id : PieceId) → IsProgram program → is_view_in program id.proc ≡ true → ReadsOnly (piece_of program id)
view_reads program id formed viewed = at (cases_lt id.piece (length (pieces_in program id.proc)))
  where
    none : ReadsOnly no_piece
    none = record { later = refl; body = tt }

    at : (id.piece < length (pieces_in program id.proc)) ⊎ (length (pieces_in program id.proc) ≤ id.piece) → ReadsOnly (piece_of program id)
    at (inl there) = all_at ReadsOnly (pieces_in program id.proc) id.piece no_piece (view_pieces program id.proc formed viewed) there
    at (inr past) = subst ReadsOnly (sym (get_or_past (pieces_in program id.proc) id.piece no_piece past)) none
