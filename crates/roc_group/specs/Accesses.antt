-- The cells that a group uses: docs/PROTOCOL.md, "Groups" and "Conflicts"
use Rattle.std.specs.Prelude.{◌≡◌, ℤ, Bool, true, false, ◌&&◌, ◌||◌, List, [], ◌∷◌, ◌++◌, IsTrue}
use Rattle.std.specs.List.{AllByRecursion, list_any}
use Rattle.roc_rows.specs.declared.cell.Cell.{Cell}
use Rattle.roc_rows.specs.Cells.{is_cell}
use Rattle.roc_rows.specs.Store.{Store, read}
use Rattle.roc_program.specs.Program.{Statement, Get, Set, Out, Piece}
use Rattle.roc_program.specs.Values.{Environment, value}
use Rattle.roc_whole.specs.Run.{Progress, access_cell, after_statement, after_piece, after_pieces}
use Rattle.roc_group.specs.declared.access.Access.{Access}

abbrev pub access : Cell → Bool → Access
access cell writes = record { cell = cell; writes = writes }

-- what a statement of a piece at this place uses, where the names have these values
abbrev pub uses_of : ℤ → Environment → Statement → List Access
uses_of place env (Get number from) = access (access_cell place env from) false ∷ []
uses_of place env (Set to v) = access (access_cell place env to) true ∷ []
uses_of place env (Out v) = []

-- what statements use, one after another
abbrev pub uses_of_body : ℤ → Progress → List Statement → List Access
uses_of_body place p [] = []
uses_of_body place p (s ∷ ss) = uses_of place p.environment s ++ uses_of_body place (after_statement place p s) ss

abbrev pub uses_of_piece : Progress → Piece → List Access
uses_of_piece p piece = uses_of_body (value piece.place p.environment) p piece.body

-- what pieces use, one after another
abbrev pub uses_of_pieces : Progress → List Piece → List Access
uses_of_pieces p [] = []
uses_of_pieces p (piece ∷ pieces) = uses_of_piece p piece ++ uses_of_pieces (after_piece p piece) pieces

-- a use has its cell in common with one of these, and one of the two writes it
abbrev pub meets : List Access → Access → Bool
meets later a = list_any (λ b. is_cell a.cell b.cell && (a.writes || b.writes)) later

-- a cell in common that one of the two writes
abbrev pub do_conflict : List Access → List Access → Bool
do_conflict earlier later = list_any (meets later) earlier

-- one of these uses writes the cell
abbrev pub do_write : List Access → Cell → Bool
do_write uses c = list_any (λ a. a.writes && is_cell a.cell c) uses

-- the two stores have the same number in each cell that is read
abbrev pub AgreeOnReads : Store → Store → List Access → Type 0
AgreeOnReads s t uses = AllByRecursion (λ a. a.writes ≡ false → read s a.cell ≡ read t a.cell) uses

-- pieces do from q what they do from p: they use the same cells, bind and say the same, write the same into the cells that they write, and leave the others
pub record RunAlike (p q : Progress) (pieces : List Piece) : Type 0 where
  pub uses : uses_of_pieces q pieces ≡ uses_of_pieces p pieces
  pub environment : (after_pieces q pieces).environment ≡ (after_pieces p pieces).environment
  pub reply : (after_pieces q pieces).reply ≡ (after_pieces p pieces).reply
  pub written : (c : Cell) → IsTrue (do_write (uses_of_pieces p pieces) c) → read (after_pieces p pieces).store c ≡ read (after_pieces q pieces).store c
  pub kept : (c : Cell) → read p.store c ≡ read q.store c → read (after_pieces p pieces).store c ≡ read (after_pieces q pieces).store c
