-- What pieces of a well-formed program access is declared
use Rattle.std.proofs.Common.{ℕ, ◌<◌, Bool, true, false, cond, List, [], ◌∷◌, ◌++◌, length, get_or, sym, subst, inl, inr, arith}
use Rattle.std.specs.List.{AllByRecursion, range_with_len}
use Rattle.roc_program.specs.Program.{Statement, Get, Set, Out, Table, Piece, Workload}
use Rattle.roc_program.specs.LookUps.{no_piece, no_procedure, no_table, is_view_in}
use Rattle.roc_program.specs.Pieces.{piece_of, pieces_in}
use Rattle.roc_program.specs.Conflict.{exposed}
use Rattle.roc_program.specs.WellFormed.{IsTable, IsColumn, IsBody, ArePieces, IsProcedure, IsProgram, known_behind}
use Rattle.roc_program.specs.declared.piece_id.PieceId.{PieceId}
use Rattle.roc_sequence.proofs.Holds.{all_at}
use Rattle.roc_conflict.proofs.Present.{present_or_none}

abbrev pub InTables : List Table → Statement → Type 0
InTables tables (Get number a) = (a.table < length tables) × (a.column < 16)
InTables tables (Set a value) = (a.table < length tables) × (a.column < 16)
InTables tables (Out value) = Unit {0}

module _ (tables : List Table) (formed : AllByRecursion IsTable tables) where
  declared : (table integers column : ℕ) → IsColumn tables table integers column → (table < length tables) × (column < 16)
  declared table integers column is = (is.has_table, let t = all_at IsTable tables table no_table formed is.has_table in omega (arith, is.has_column, t.columns))

  in_body : (known own : List ℕ) (body : List Statement) → IsBody tables known own body → AllByRecursion (InTables tables) body
  in_body known own [] h = tt
  in_body known own (Get number a ∷ body) h = (declared a.table (length a.id) a.column h.0.column, in_body known (own ++ number ∷ []) body h.1)
  in_body known own (Set a value ∷ body) h = (declared a.table (length a.id) a.column h.0.column, in_body known own body h.2)
  in_body known own (Out value ∷ body) h = (tt, in_body known own body h.1)

  in_pieces : (known : List ℕ) (pieces : List Piece) → ArePieces tables known pieces → AllByRecursion (λ p. AllByRecursion (InTables tables) p.body) pieces
  in_pieces known [] h = tt
  in_pieces known (p ∷ pieces) h = (in_body known [] p.body h.0.body, in_pieces (known_behind known p) pieces h.1)

in_piece : (program : Workload) → IsProgram program → (id : PieceId) → AllByRecursion (InTables program.tables) (piece_of program id).body
in_piece program formed id =
    elim (present_or_none program id) [
      | inr e ↦ subst (λ (p : Piece). AllByRecursion (InTables program.tables) p.body) (sym e) tt
      | inl there ↦
          (let one : IsProcedure program.tables (get_or program.procedures id.proc no_procedure) = all_at (IsProcedure program.tables) program.procedures id.proc no_procedure formed.procedures there.procedure in
          all_at (λ p. AllByRecursion (InTables program.tables) p.body) (pieces_in program id.proc) id.piece no_piece (in_pieces program.tables formed.tables (range_with_len 0 _) (pieces_in program id.proc) one.pieces) there.piece)
    ]

pub in_exposed : (program : Workload) → IsProgram program → (id : PieceId) → AllByRecursion (InTables program.tables) (exposed program id)
in_exposed program formed id = go (is_view_in program id.proc)
  where
    go : (b : Bool) → AllByRecursion (InTables program.tables) (cond b [] (piece_of program id).body)
    go true = tt
    go false = in_piece program formed id
