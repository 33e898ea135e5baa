-- The ids of a program's accesses have one to four integers
use Rattle.std.proofs.Common.{ℕ, List, [], ◌∷◌, ◌++◌, length, arith}
use Rattle.std.specs.List.{AllByRecursion, range_with_len}
use Rattle.roc_program.specs.Keys.{IsKey, HasKey, HasKeys}
use Rattle.roc_program.specs.LookUps.{no_table, table_at}
use Rattle.roc_program.specs.Program.{Table, Statement, Get, Set, Out, Piece, Procedure, Workload}
use Rattle.roc_program.specs.WellFormed.{IsTable, IsColumn, IsBody, known_behind, ArePieces, IsProcedure, IsProgram}
use Rattle.roc_sequence.proofs.Holds.{all_at}

-- the id of a cell of a declared column
pub cell_keyed : {A : Type 0} (tables : List Table) (table column : ℕ) (id : List A) → AllByRecursion IsTable tables → IsColumn tables table (length id) column → IsKey id
cell_keyed tables table column id small is =
    let of : IsTable (table_at tables table) = all_at IsTable tables table no_table small is.has_table in
    record { some = omega (arith, is.arity, of.some_integer); few = omega (arith, is.arity, of.arity) }

body_keyed : (tables : List Table) (known own : List ℕ) (body : List Statement) → AllByRecursion IsTable tables → IsBody tables known own body → AllByRecursion HasKey body
body_keyed tables known own [] small formed = tt
body_keyed tables known own (Get number from ∷ rest) small formed = (cell_keyed tables from.table from.column from.id small formed.0.column, body_keyed tables known (own ++ number ∷ []) rest small formed.1)
body_keyed tables known own (Set to value ∷ rest) small formed = (cell_keyed tables to.table to.column to.id small formed.0.column, body_keyed tables known own rest small formed.2)
body_keyed tables known own (Out value ∷ rest) small formed = (tt, body_keyed tables known own rest small formed.1)

pub pieces_keyed : (tables : List Table) (known : List ℕ) (pieces : List Piece) → AllByRecursion IsTable tables → ArePieces tables known pieces → AllByRecursion HasKeys pieces
pieces_keyed tables known [] small formed = tt
pieces_keyed tables known (piece ∷ rest) small formed = (body_keyed tables known [] piece.body small formed.0.body, pieces_keyed tables (known_behind known piece) rest small formed.1)

procedures_keyed : (tables : List Table) (ps : List Procedure) → AllByRecursion IsTable tables → AllByRecursion (IsProcedure tables) ps → AllByRecursion (λ p. AllByRecursion HasKeys p.pieces) ps
procedures_keyed tables [] small formed = tt
procedures_keyed tables (p ∷ ps) small formed = (pieces_keyed tables (range_with_len 0 p.arguments) p.pieces small formed.0.pieces, procedures_keyed tables ps small formed.1)

pub program_keyed : (program : Workload) → IsProgram program → AllByRecursion (λ p. AllByRecursion HasKeys p.pieces) program.procedures
program_keyed program formed = procedures_keyed program.tables program.procedures formed.tables formed.procedures
