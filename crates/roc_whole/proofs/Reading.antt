-- Pieces that only read leave the cells as they are
use Rattle.std.proofs.Common.{◌≡◌, ℕ, ℤ, true, List, [], ◌∷◌, refl, ◌∙◌}
use Rattle.std.specs.List.{AllByRecursion}
use Rattle.roc_rows.specs.Store.{Store}
use Rattle.roc_program.specs.LookUps.{is_view_in}
use Rattle.roc_program.specs.Program.{Statement, Get, Set, Out, Piece, Workload}
use Rattle.roc_program.specs.Values.{with_arguments, value}
use Rattle.roc_program.specs.WellFormed.{IsRead, ReadsOnly, IsProgram}
use Rattle.roc_program.proofs.Views.{view_pieces}
use Rattle.roc_whole.specs.Run.{Progress, progress, after_statement, after_statements, after_piece, after_pieces, whole_run}
use Rattle.roc_whole.specs.Serial.{procedure_at}

body_leaves : (place : ℤ) (p : Progress) (ss : List Statement) → AllByRecursion IsRead ss → (after_statements place p ss).store ≡ p.store
body_leaves place p [] all = refl
body_leaves place p (Get number from ∷ ss) all = body_leaves place (after_statement place p (Get number from)) ss all.1
body_leaves place p (Set to v ∷ ss) all = absurd all.0
body_leaves place p (Out v ∷ ss) all = body_leaves place (after_statement place p (Out v)) ss all.1

pub pieces_leave : (p : Progress) (pieces : List Piece) → AllByRecursion ReadsOnly pieces → (after_pieces p pieces).store ≡ p.store
pieces_leave p [] all = refl
pieces_leave p (piece ∷ pieces) all = pieces_leave (after_piece p piece) pieces all.1 ∙ body_leaves (value piece.place p.environment) p piece.body all.0.body

pub view_leaves : (w : Workload) (proc : ℕ) (args : List ℤ) (store : Store) → IsProgram w → is_view_in w proc ≡ true → (whole_run (procedure_at w proc) args store).store ≡ store
view_leaves w proc args store formed viewed =
    pieces_leave (progress store (with_arguments (procedure_at w proc) args) []) (procedure_at w proc).pieces (view_pieces w proc formed viewed)
