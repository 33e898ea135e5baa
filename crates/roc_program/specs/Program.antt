-- A workload whose names are resolved: tables and columns by number, arguments and bound names by number.
use Rattle.std.specs.Prelude.{ℕ, ℤ, Bool, List}

-- an expression over the values of a procedure's names. The names have the numbers in the order in which they are bound: the arguments first, then each `get` in program order
pub data Expression : Type 0 where
  Number : (value : ℤ) → Expression
  Value : (number : ℕ) → Expression
  Sum Difference Product Minimum Maximum Less : (first second : Expression) → Expression
  Pick : (chooser first second : Expression) → Expression

-- one column of the row with this id, at the piece's place
pub record Access : Type 0 where
  pub table : ℕ
  pub id : List Expression
  pub column : ℕ

-- a `get` sets the value of its name's number
pub data Statement : Type 0 where
  Get : (number : ℕ) (from : Access) → Statement
  Set : (to : Access) (value : Expression) → Statement
  Out : (value : Expression) → Statement

pub record Piece : Type 0 where
  pub name : List ℕ
  pub is_now : Bool
  pub place : Expression
  pub body : List Statement

pub record Procedure : Type 0 where
  pub name : List ℕ
  -- it only reads
  pub is_view : Bool
  pub arguments : ℕ
  -- how many names it has: its arguments and its `get`s
  pub names : ℕ
  -- what these are called, by number
  pub labels : List (List ℕ)
  pub pieces : List Piece

-- a table, and how many integers its ids have
pub record Table : Type 0 where
  pub name : List ℕ
  pub arity : ℕ
  pub columns : List (List ℕ)

-- the value of a cell at the start
pub record Init : Type 0 where
  pub table : ℕ
  pub place : ℤ
  pub id : List ℤ
  pub column : ℕ
  pub value : ℤ

pub record Workload : Type 0 where
  pub shards : ℕ
  pub tables : List Table
  pub inits : List Init
  pub procedures : List Procedure
