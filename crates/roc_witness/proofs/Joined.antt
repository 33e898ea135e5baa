-- What the table says is what the graph says
use Rattle.std.proofs.Common.{◌≡◌, ℕ, ◌+◌, ◌*◌, ◌/◌, ◌%◌, ◌<◌, Bool, true, false, cond, not, ◌&&◌, ◌==◌, List, [], length, get_or, Some, None, refl, ap, ◌∙◌, arith}
use Rattle.std.proofs.lemmas.List.FromFn.{get_or-map-range_with_len}
use Rattle.roc_program.specs.Program.{Workload}
use Rattle.roc_program.specs.LookUps.{no_procedure}
use Rattle.roc_program.specs.Pieces.{HasPiece}
use Rattle.roc_program.specs.Conflict.{are_in_conflict}
use Rattle.roc_program.specs.WellFormed.{IsProgram, IsProcedure}
use Rattle.roc_program.specs.declared.piece_id.PieceId.{PieceId}
use Rattle.roc_program.proofs.PieceIds.{same_id_parts}
use Rattle.roc_sequence.proofs.Holds.{all_at}
use Rattle.roc_scgraph.specs.declared.vertex.Vertex.{Vertex}
use Rattle.roc_scgraph.specs.declared.vertex.Kind.TheVariants.{S, C}
use Rattle.roc_scgraph.specs.Graph.{piece_id, are_siblings, edge}
use Rattle.roc_scgraph.specs.Cycles.{is_fixed}
use Rattle.roc_witness.specs.Inner.Table.{piece_number, numbered_piece, meet, row_for, table_of, joins, IsTableOf}

pub quotient : (m k : ℕ) → k < 16 → (16 * m + k) / 16 ≡ m
quotient m k h = omega arith

pub remainder : (m k : ℕ) → k < 16 → (16 * m + k) % 16 ≡ k
remainder m k h = omega arith

module _ (program : Workload) (formed : IsProgram program) where
  small : (id : PieceId) → HasPiece program id → id.piece < 16
  small id there =
      let one : IsProcedure program.tables (get_or program.procedures id.proc no_procedure) = all_at (IsProcedure program.tables) program.procedures id.proc no_procedure formed.procedures there.procedure in
      omega (arith, one.few_pieces, there.piece)

  at_number : (id : PieceId) → HasPiece program id → numbered_piece (piece_number id) ≡ id
  at_number id there = same_id_parts (numbered_piece (piece_number id)) id (quotient id.proc id.piece (small id there)) (remainder id.proc id.piece (small id there))

  within : (id : PieceId) → HasPiece program id → piece_number id < 16 * length program.procedures
  within id there = omega (arith, small id there, there.procedure)

  pub table_is : (is_immediate : PieceId → Bool) (table : List (List Bool)) → table ≡ table_of program is_immediate → IsTableOf program is_immediate table
  table_is is_immediate table is a b a_there b_there =
      let count = 16 * length program.procedures in
      ap (λ (t : List (List Bool)). get_or (get_or t (piece_number a) []) (piece_number b) false) is
      ∙ ap (λ (r : List Bool). get_or r (piece_number b) false) (get_or-map-range_with_len (λ n. row_for program is_immediate (numbered_piece n) count) 0 count (piece_number a) (piece_number a) [] (within a a_there) (omega arith))
      ∙ get_or-map-range_with_len (λ n. meet program is_immediate (numbered_piece (piece_number a)) (numbered_piece n)) 0 count (piece_number b) (piece_number b) false (within b b_there) (omega arith)
      ∙ ap (λ (p : PieceId). meet program is_immediate p (numbered_piece (piece_number b))) (at_number a a_there)
      ∙ ap (meet program is_immediate a) (at_number b b_there)

by_cases : (s t i c : Bool) → cond s (not t) (i && c) ≡ is_fixed (cond s (cond t None (Some S)) (cond c (Some (C i)) None))
by_cases true true i c = refl
by_cases true false i c = refl
by_cases false t true true = refl
by_cases false t true false = refl
by_cases false t false true = refl
by_cases false t false false = refl

-- a fixed edge of the graph
pub joins_fixed : (program : Workload) (is_immediate : PieceId → Bool) (table : List (List Bool)) → IsTableOf program is_immediate table → (a b : Vertex) → HasPiece program (piece_id a) → HasPiece program (piece_id b)
    → joins table a b ≡ is_fixed (edge program is_immediate a b)
joins_fixed program is_immediate table is a b a_there b_there =
    ap (λ (t : Bool). cond (are_siblings a b) (not (a.piece == b.piece)) t) (is (piece_id a) (piece_id b) a_there b_there)
    ∙ by_cases (are_siblings a b) (a.piece == b.piece) (is_immediate (piece_id a) && is_immediate (piece_id b)) (are_in_conflict program (piece_id a) (piece_id b))
