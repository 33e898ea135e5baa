-- How large the tree of a text is: how many parts it has, and that its integers fit 64 bits. docs/LANGUAGE.md, "Limits" and "Tokens"
use Rattle.std.specs.Prelude.{◌<◌, ◌≤◌, List, length, FitsSigned}
use Rattle.std.specs.List.{AllByRecursion}
use Rattle.std.specs.Int.{w64}
use Rattle.roc_lang.specs.Syntax.{Expression, Number, Variable, Sum, Difference, Product, Minimum, Maximum, Less, Pick, Statement, Get, Set, Out, Piece, Table, Procedure, Init, Tree}
use Rattle.roc_lang.specs.Grammar.{standard}

-- ---- how many

pub record IsSmallTable (t : Table) : Type 0 where
  pub some_integer : standard.least_arity ≤ t.arity
  pub arity : t.arity ≤ standard.arity
  pub columns : length t.columns ≤ standard.columns

pub record AreFewTables (tables : List Table) : Type 0 where
  pub few : length tables ≤ standard.tables
  pub small : AllByRecursion IsSmallTable tables

pub record IsSmallProcedure (p : Procedure) : Type 0 where
  pub arguments : length p.arguments ≤ standard.arguments
  pub some_piece : 0 < length p.pieces
  pub pieces : length p.pieces ≤ standard.pieces
  pub statements : AllByRecursion (λ piece. length piece.body ≤ standard.statements) p.pieces

pub record IsSmallTree (t : Tree) : Type 0 where
  pub tables : AreFewTables t.tables
  pub inits : length t.inits ≤ standard.inits
  pub few_procedures : length t.procedures ≤ standard.procedures
  pub procedures : AllByRecursion IsSmallProcedure t.procedures

-- ---- integers

-- the integers of an expression fit 64 bits
abbrev pub AreWords : Expression → Type 0
AreWords (Number n) = FitsSigned w64 n
AreWords (Variable name) = Unit {0}
AreWords (Sum e f) = AreWords e × AreWords f
AreWords (Difference e f) = AreWords e × AreWords f
AreWords (Product e f) = AreWords e × AreWords f
AreWords (Minimum e f) = AreWords e × AreWords f
AreWords (Maximum e f) = AreWords e × AreWords f
AreWords (Less e f) = AreWords e × AreWords f
AreWords (Pick c e f) = AreWords c × AreWords e × AreWords f

abbrev pub AreStatementWords : Statement → Type 0
AreStatementWords (Get name from) = AllByRecursion AreWords from.id
AreStatementWords (Set line to value) = AllByRecursion AreWords to.id × AreWords value
AreStatementWords (Out value) = AreWords value

pub record ArePieceWords (p : Piece) : Type 0 where
  pub place : AreWords p.place
  pub body : AllByRecursion AreStatementWords p.body

pub record AreInitWords (i : Init) : Type 0 where
  pub place : FitsSigned w64 i.place
  pub id : AllByRecursion (FitsSigned w64) i.id
  pub value : FitsSigned w64 i.value

-- ---- trees

-- what the tree of each text has
pub record IsWithinLimits (t : Tree) : Type 0 where
  pub counts : IsSmallTree t
  pub inits : AllByRecursion AreInitWords t.inits
  pub pieces : AllByRecursion (λ p. AllByRecursion ArePieceWords p.pieces) t.procedures
