-- What holds of each program that a workload text in grammar and scope gives: docs/LANGUAGE.md, "Limits" and "Scope"
use Rattle.std.specs.Prelude.{◌≡◌, ℕ, ◌+◌, ◌<◌, ◌≤◌, true, false, IsTrue, List, [], ◌∷◌, ◌++◌, length, FitsSigned, if◌then◌else◌}
use Rattle.std.specs.List.{AllByRecursion, range_with_len}
use Rattle.std.specs.Int.{w64}
use Rattle.roc_lang.specs.Grammar.{standard}
use Rattle.roc_lang.specs.declared.limits.TheConstants.{SHARDS}
use Rattle.roc_program.specs.Program.{Expression, Number, Value, Sum, Difference, Product, Minimum, Maximum, Less, Pick, Access, Statement, Get, Set, Out, Piece, Procedure, Table, Init, Workload}
use Rattle.roc_program.specs.LookUps.{table_at}
use Rattle.roc_program.specs.Names.{bindings_of, bindings, has_name}

-- its integers fit 64 bits, and its names are known
abbrev pub IsOver : (known : List ℕ) → Expression → Type 0
IsOver known (Number n) = FitsSigned w64 n
IsOver known (Value number) = IsTrue (has_name known number)
IsOver known (Sum a b) = IsOver known a × IsOver known b
IsOver known (Difference a b) = IsOver known a × IsOver known b
IsOver known (Product a b) = IsOver known a × IsOver known b
IsOver known (Minimum a b) = IsOver known a × IsOver known b
IsOver known (Maximum a b) = IsOver known a × IsOver known b
IsOver known (Less a b) = IsOver known a × IsOver known b
IsOver known (Pick c a b) = IsOver known c × IsOver known a × IsOver known b

pub record IsTable (table : Table) : Type 0 where
  pub some_integer : standard.least_arity ≤ table.arity
  pub arity : table.arity ≤ standard.arity
  pub columns : length table.columns ≤ standard.columns

-- there is such a table, its ids have so many integers, and it has this column
pub record IsColumn (tables : List Table) (table integers column : ℕ) : Type 0 where
  pub has_table : table < length tables
  pub arity : integers ≡ (table_at tables table).arity
  pub has_column : column < length (table_at tables table).columns

-- a column that is declared, of a row whose id is over the known names
pub record IsKnownAccess (tables : List Table) (known : List ℕ) (access : Access) : Type 0 where
  pub column : IsColumn tables access.table (length access.id) access.column
  pub id : AllByRecursion (IsOver known) access.id

-- Statements behind those that bound the piece's own names so far: ids are over the known names alone, values over the piece's own too
abbrev pub IsBody : List Table → (known own : List ℕ) → List Statement → Type 0
IsBody tables known own [] = Unit {0}
IsBody tables known own (Get number from ∷ rest) = IsKnownAccess tables known from × IsBody tables known (own ++ number ∷ []) rest
IsBody tables known own (Set to value ∷ rest) = IsKnownAccess tables known to × IsOver (known ++ own) value × IsBody tables known own rest
IsBody tables known own (Out value ∷ rest) = IsOver (known ++ own) value × IsBody tables known own rest

pub record IsPiece (tables : List Table) (known : List ℕ) (piece : Piece) : Type 0 where
  pub statements : length piece.body ≤ standard.statements
  pub place : IsOver known piece.place
  pub body : IsBody tables known [] piece.body

-- what is known behind a piece: also what it binds, where it is a `now` piece
abbrev pub known_behind : List ℕ → Piece → List ℕ
known_behind known piece = if piece.is_now then known ++ bindings_of piece else known

-- pieces in program order
abbrev pub ArePieces : List Table → (known : List ℕ) → List Piece → Type 0
ArePieces tables known [] = Unit {0}
ArePieces tables known (piece ∷ rest) = IsPiece tables known piece × ArePieces tables (known_behind known piece) rest

-- it writes nothing
abbrev pub IsRead : Statement → Type 0
IsRead (Get number from) = Unit {0}
IsRead (Set to value) = ⊥
IsRead (Out value) = Unit {0}

-- it hands on no value, and writes nothing
pub record ReadsOnly (piece : Piece) : Type 0 where
  pub later : piece.is_now ≡ false
  pub body : AllByRecursion IsRead piece.body

-- the arguments have the first numbers, and the `get`s those behind them in program order; the arguments are known to the first piece
pub record IsProcedure (tables : List Table) (procedure : Procedure) : Type 0 where
  pub arguments : procedure.arguments ≤ standard.arguments
  pub names : procedure.names ≡ procedure.arguments + length (bindings procedure.pieces)
  pub numbers : bindings procedure.pieces ≡ range_with_len procedure.arguments (length (bindings procedure.pieces))
  pub labels : length procedure.labels ≡ procedure.names
  pub some_piece : 0 < length procedure.pieces
  pub few_pieces : length procedure.pieces ≤ standard.pieces
  pub pieces : ArePieces tables (range_with_len 0 procedure.arguments) procedure.pieces
  pub viewed : procedure.is_view ≡ true → AllByRecursion ReadsOnly procedure.pieces

pub record IsInit (tables : List Table) (init : Init) : Type 0 where
  pub column : IsColumn tables init.table (length init.id) init.column
  pub place : FitsSigned w64 init.place
  pub id : AllByRecursion (FitsSigned w64) init.id
  pub value : FitsSigned w64 init.value

pub record IsProgram (program : Workload) : Type 0 where
  pub some_shard : 0 < program.shards
  pub few_shards : program.shards ≤ SHARDS
  pub few_tables : length program.tables ≤ standard.tables
  pub tables : AllByRecursion IsTable program.tables
  pub few_inits : length program.inits ≤ standard.inits
  pub inits : AllByRecursion (IsInit program.tables) program.inits
  pub few_procedures : length program.procedures ≤ standard.procedures
  pub procedures : AllByRecursion (IsProcedure program.tables) program.procedures
