-- The groups of a view only read
use Rattle.std.proofs.Common.{◌≡◌, ℕ, ℤ, true, false, List, [], ◌∷◌, ◌++◌, map, slice_index_or, refl}
use Rattle.std.specs.List.{AllByRecursion, list_any}
use Rattle.roc_rows.specs.declared.cell.Cell.{Cell}
use Rattle.roc_rows.specs.Store.{Store}
use Rattle.roc_program.specs.LookUps.{no_piece}
use Rattle.roc_program.specs.Program.{Statement, Get, Set, Out, Piece}
use Rattle.roc_program.specs.Values.{value}
use Rattle.roc_program.specs.WellFormed.{IsRead, ReadsOnly}
use Rattle.roc_program.proofs.Views.{view_reads}
use Rattle.roc_whole.specs.Run.{Progress, after_statement, after_piece}
use Rattle.roc_whole.proofs.Reading.{pieces_leave}
use Rattle.roc_merge_groups.specs.Groups.{piece_numbered}
use Rattle.roc_plan.specs.Groups.{Plan, procedure_of, is_view_of, group_of}
use Rattle.roc_plan.specs.Accepted.{IsAccepted}
use Rattle.roc_group.specs.declared.access.Access.{Access}
use Rattle.roc_group.specs.Accesses.{uses_of_body, uses_of_piece, uses_of_pieces}
use Rattle.roc_group.specs.GroupRun.{GroupCall, begin, group_pieces, group_run, group_uses}
use Rattle.roc_group.proofs.Touches.{may_write, writes}

abbrev OnlyRead : List Access → Type 0
OnlyRead uses = AllByRecursion (λ a. a.writes ≡ false) uses

both_read : (xs ys : List Access) → OnlyRead xs → OnlyRead ys → OnlyRead (xs ++ ys)
both_read [] ys h k = k
both_read (x ∷ xs) ys h k = (h.0, both_read xs ys h.1 k)

body_reads : (place : ℤ) (p : Progress) (ss : List Statement) → AllByRecursion IsRead ss → OnlyRead (uses_of_body place p ss)
body_reads place p [] all = tt
body_reads place p (Get number from ∷ ss) all = (refl, body_reads place (after_statement place p (Get number from)) ss all.1)
body_reads place p (Set to v ∷ ss) all = absurd all.0
body_reads place p (Out v ∷ ss) all = body_reads place (after_statement place p (Out v)) ss all.1

pieces_read : (p : Progress) (ps : List Piece) → AllByRecursion ReadsOnly ps → OnlyRead (uses_of_pieces p ps)
pieces_read p [] all = tt
pieces_read p (piece ∷ ps) all =
    both_read (uses_of_piece p piece) (uses_of_pieces (after_piece p piece) ps) (body_reads (value piece.place p.environment) p piece.body all.0.body)
    (pieces_read (after_piece p piece) ps all.1)

-- a piece that only reads writes no column
pub reads_write_nothing : (piece : Piece) (c : Cell) → ReadsOnly piece → writes piece c ≡ false
reads_write_nothing piece c reads = go piece.body reads.body
  where
    go : (ss : List Statement) → AllByRecursion IsRead ss → list_any (λ s. may_write s c) ss ≡ false
    go [] all = refl
    go (Get number from ∷ ss) all = go ss all.1
    go (Set to v ∷ ss) all = absurd all.0
    go (Out v ∷ ss) all = go ss all.1

module _ (plan : Plan) (c : GroupCall) (is : IsAccepted plan) (viewed : is_view_of plan c.proc ≡ true) where
  group_reads : AllByRecursion ReadsOnly (group_pieces plan c)
  group_reads = go (group_of plan c.proc c.group).pieces
    where
      go : (ks : List ℕ) → AllByRecursion ReadsOnly (map (λ k. slice_index_or (procedure_of plan c.proc).pieces k no_piece) ks)
      go [] = tt
      go (k ∷ ks) = (view_reads plan.program (piece_numbered c.proc k) is.well_formed viewed, go ks)

  pub view_uses_read : (s : Store) → AllByRecursion (λ a. a.writes ≡ false) (group_uses plan c s)
  view_uses_read s = pieces_read (begin plan c s) (group_pieces plan c) group_reads

  pub view_run_leaves : (s : Store) → (group_run plan c s).store ≡ s
  view_run_leaves s = pieces_leave (begin plan c s) (group_pieces plan c) group_reads
