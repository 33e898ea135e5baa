-- The lines of a report of a program, and names that tell its parts apart: docs/FORMATS.md, "Report"
use Rattle.std.specs.Prelude.{◌≡◌, ℕ, ◌<◌, ◌^◌, ℤ, FitsSigned, IfSome, List, Option, Some, None, length}
use Rattle.std.specs.List.{AllByRecursion}
use Rattle.std.specs.Int.{w64}
use Rattle.roc_base.specs.declared.id.TxnId.{TxnId}
use Rattle.roc_base.specs.declared.node.Node.{Node}
use Rattle.roc_base.specs.declared.node.Node.TheVariants.{Server, Coord}
use Rattle.roc_base.specs.Edge.{Dependency}
use Rattle.roc_lang.specs.Tokens.{IsWord}
use Rattle.roc_program.specs.Program.{Workload}
use Rattle.roc_program.specs.LookUps.{procedure_name, table_name, columns_of, column_name}
use Rattle.roc_rows.specs.declared.cell.Cell.{Cell}
use Rattle.roc_report.specs.Line.{ShownMessage, Line, Submit, Busy, Spent, Deliver, Nothing, Tick, Stopped, Drain, Draining, NoProc, Skipped, Gone, Ignored, Send, Answer, Order, Row, Pending, End}

-- ---- names

-- the parts with numbers below a count have words as names, and no two of them have one name
pub record AreNames (count : ℕ) (name : ℕ → List ℕ) : Type 0 where
  pub words : (n : ℕ) → n < count → IsWord (name n)
  pub once : (n m : ℕ) → n < count → m < count → name n ≡ name m → n ≡ m

-- procedures, tables, and the columns of each table are told apart by their names
pub record HasNames (program : Workload) : Type 0 where
  pub procedures : AreNames (length program.procedures) (procedure_name program)
  pub tables : AreNames (length program.tables) (table_name program)
  pub columns : (table : ℕ) → table < length program.tables → AreNames (length (columns_of program table)) (column_name program table)

-- ---- numbers of at most 64 bits

abbrev pub IsSmall : ℕ → Type 0
IsSmall n = n < 2 ^ 64

abbrev pub AreSmallIntegers : List ℤ → Type 0
AreSmallIntegers numbers = AllByRecursion (FitsSigned w64) numbers

abbrev pub IsSmallId : TxnId → Type 0
IsSmallId id = IsSmall id.coord × IsSmall id.seq

abbrev pub IsSmallNode : Node → Type 0
IsSmallNode (Server shard) = IsSmall shard.0
IsSmallNode (Coord number) = IsSmall number

abbrev pub IsSmallDuring : Option (ℕ × Option ℕ) → Type 0
IsSmallDuring None = Unit {0}
IsSmallDuring (Some (number, None)) = IsSmall number
IsSmallDuring (Some (number, Some many)) = IsSmall number × IsSmall many

abbrev pub IsSmallEdge : Dependency → Type 0
IsSmallEdge d = IsSmallId d.from × IsSmall d.at.0

pub record IsSmallMessage (m : ShownMessage) : Type 0 where
  pub named : IfSome m.named IsSmallId
  pub from : IsSmallNode m.from
  pub to : IsSmallNode m.to
  pub edges : AllByRecursion IsSmallEdge m.edges
  pub facts : AllByRecursion IsSmallId m.facts

pub record IsSmallCell (cell : Cell) : Type 0 where
  pub place : FitsSigned w64 cell.place
  pub id : AreSmallIntegers cell.id

-- the numbers of a line of a report have at most 64 bits
abbrev pub HasSmallNumbers : Line → Type 0
HasSmallNumbers (Submit id proc args) = IsSmallId id × AreSmallIntegers args
HasSmallNumbers (Busy coord) = IsSmall coord
HasSmallNumbers (Spent coord) = IsSmall coord
HasSmallNumbers (Deliver number) = IsSmall number
HasSmallNumbers Nothing = Unit {0}
HasSmallNumbers (Tick node) = IsSmallNode node
HasSmallNumbers (Stopped shard during) = IsSmall shard.0 × IsSmallDuring during
HasSmallNumbers (Drain coord) = IsSmall coord
HasSmallNumbers (Draining coord) = IsSmall coord
HasSmallNumbers (NoProc coord) = IsSmall coord
HasSmallNumbers Skipped = Unit {0}
HasSmallNumbers Gone = Unit {0}
HasSmallNumbers (Ignored reason) = Unit {0}
HasSmallNumbers (Send number message) = IsSmall number × IsSmallMessage message
HasSmallNumbers (Answer id reply) = IsSmallId id × AreSmallIntegers reply
HasSmallNumbers (Order ids) = AllByRecursion IsSmallId ids
HasSmallNumbers (Row cell value) = IsSmallCell cell × FitsSigned w64 value
HasSmallNumbers (Pending id) = IsSmallId id
HasSmallNumbers (End answered pending messages) = IsSmall answered × IsSmall pending × IsSmall messages

abbrev pub HaveSmallNumbers : List Line → Type 0
HaveSmallNumbers lines = AllByRecursion HasSmallNumbers lines

-- ---- lines

-- the program has the cell's table, and this the cell's column
pub record IsCellOf (program : Workload) (cell : Cell) : Type 0 where
  pub table : cell.table < length program.tables
  pub column : cell.column < length (columns_of program cell.table)

-- the procedure or the cell that a line names is the program's
abbrev pub NamesPartsOf : Workload → Line → Type 0
NamesPartsOf program (Submit id proc args) = proc < length program.procedures
NamesPartsOf program (Row cell value) = IsCellOf program cell
NamesPartsOf program _ = Unit {0}

-- a line of a report of the program
pub record IsReportLine (program : Workload) (line : Line) : Type 0 where
  pub small : HasSmallNumbers line
  pub parts : NamesPartsOf program line
