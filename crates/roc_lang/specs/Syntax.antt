-- The syntax tree of a workload text, as definitions see it: names with their lines, and no memory.
use Rattle.std.specs.Prelude.{ℕ, ℤ, Bool, List}

-- a name where it stands: its letters, and the line of its token
pub record Name : Type 0 where
  pub text : List ℕ
  pub line : ℕ

pub data Expression : Type 0 where
  Number : (value : ℤ) → Expression
  Variable : (name : Name) → Expression
  Sum Difference Product Minimum Maximum Less : (first second : Expression) → Expression
  Pick : (chooser first second : Expression) → Expression

-- one column of the row with this id, at the piece's place; and the line of the bracket behind the id
pub record Access : Type 0 where
  pub table : Name
  pub id : List Expression
  pub id_line : ℕ
  pub column : Name

-- a `set` with the line of its word
pub data Statement : Type 0 where
  Get : (name : Name) (from : Access) → Statement
  Set : (line : ℕ) (to : Access) (value : Expression) → Statement
  Out : (value : Expression) → Statement

-- a piece, declared `now` or `later`, and the line of that word
pub record Piece : Type 0 where
  pub is_now : Bool
  pub class_line : ℕ
  pub name : Name
  pub place : Expression
  pub body : List Statement

-- a procedure, a view where the word stands behind its arguments
pub record Procedure : Type 0 where
  pub name : Name
  pub arguments : List Name
  pub is_view : Bool
  pub pieces : List Piece

-- a table, and how many integers its ids have
pub record Table : Type 0 where
  pub name : Name
  pub arity : ℕ
  pub columns : List Name

-- the value of a cell at the start
pub record Init : Type 0 where
  pub table : Name
  pub place : ℤ
  pub id : List ℤ
  pub id_line : ℕ
  pub column : Name
  pub value : ℤ

-- the tree of a whole workload text
pub record Tree : Type 0 where
  pub shards : ℕ
  pub shards_line : ℕ
  pub tables : List Table
  pub inits : List Init
  pub procedures : List Procedure
