-- A tree up to its lines: each line is 0, and everything else stays as it is.
use Rattle.std.specs.Prelude.{map}
use Rattle.roc_lang.specs.Syntax.{Name, Expression, Number, Variable, Sum, Difference, Product, Minimum, Maximum, Less, Pick, Access, Statement, Get, Set, Out, Piece, Procedure, Table, Init, Tree}

-- a name's letters alone
abbrev pub bare_name : Name → Name
bare_name n = record { text = n.text; line = 0 }

-- an expression whose names have no lines
abbrev pub bare_expression : Expression → Expression
bare_expression (Number value) = Number value
bare_expression (Variable name) = Variable (bare_name name)
bare_expression (Sum e f) = Sum (bare_expression e) (bare_expression f)
bare_expression (Difference e f) = Difference (bare_expression e) (bare_expression f)
bare_expression (Product e f) = Product (bare_expression e) (bare_expression f)
bare_expression (Minimum e f) = Minimum (bare_expression e) (bare_expression f)
bare_expression (Maximum e f) = Maximum (bare_expression e) (bare_expression f)
bare_expression (Less e f) = Less (bare_expression e) (bare_expression f)
bare_expression (Pick c e f) = Pick (bare_expression c) (bare_expression e) (bare_expression f)

-- one column of a row, without lines
abbrev pub bare_access : Access → Access
bare_access a = record { table = bare_name a.table; id = map bare_expression a.id; id_line = 0; column = bare_name a.column }

-- a statement without lines
abbrev pub bare_statement : Statement → Statement
bare_statement (Get name from) = Get (bare_name name) (bare_access from)
bare_statement (Set line to value) = Set 0 (bare_access to) (bare_expression value)
bare_statement (Out value) = Out (bare_expression value)

-- a piece without lines
abbrev pub bare_piece : Piece → Piece
bare_piece p = record { is_now = p.is_now; class_line = 0; name = bare_name p.name; place = bare_expression p.place; body = map bare_statement p.body }

-- a procedure without lines
abbrev pub bare_procedure : Procedure → Procedure
bare_procedure p = record { name = bare_name p.name; arguments = map bare_name p.arguments; is_view = p.is_view; pieces = map bare_piece p.pieces }

-- a table without lines
abbrev pub bare_table : Table → Table
bare_table t = record { name = bare_name t.name; arity = t.arity; columns = map bare_name t.columns }

-- the value of a cell at the start, without lines
abbrev pub bare_init : Init → Init
bare_init i = record { table = bare_name i.table; place = i.place; id = i.id; id_line = 0; column = bare_name i.column; value = i.value }

-- the whole tree with each line 0: that of the number of shards, of each name, of the bracket behind each id, and of each word now, later and set
abbrev pub without_lines : Tree → Tree
without_lines t = record {
  shards = t.shards;
  shards_line = 0;
  tables = map bare_table t.tables;
  inits = map bare_init t.inits;
  procedures = map bare_procedure t.procedures;
}
