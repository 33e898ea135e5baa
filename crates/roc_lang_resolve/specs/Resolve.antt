-- The program that the tree of a workload text means: each name is the number of its declaration. docs/LANGUAGE.md, "Scope"
use Rattle.std.specs.Prelude.{ℕ, List, [], ◌++◌, length, map, slice_index_or}
use Rattle.std.specs.List.{flat_map, position_or_len}
use Rattle.std.specs.Str.{bytes_eq}
use Rattle.roc_lang.specs.Syntax as syntax
use Rattle.roc_lang.specs.Syntax.{Name}
use Rattle.roc_lang.specs.Scope.{bound_by}
use Rattle.roc_program.specs.Program.{Expression, Number, Value, Sum, Difference, Product, Minimum, Maximum, Less, Pick, Access, Statement, Get, Set, Out, Piece, Procedure, Table, Init, Workload}

-- the texts of names
abbrev pub texts : List Name → List (List ℕ)
texts names = map (λ name. name.text) names

-- the place of a text among these, or their number where it is not there
abbrev pub number_in : List (List ℕ) → List ℕ → ℕ
number_in declared text = position_or_len (λ t. bytes_eq t text) declared

-- a procedure's names in the order in which they are bound: the arguments, then each `get` in program order
abbrev pub names_of : syntax.Procedure → List (List ℕ)
names_of p = texts (p.arguments ++ flat_map (λ piece. flat_map bound_by piece.body) p.pieces)

abbrev pub expression : (names : List (List ℕ)) → syntax.Expression → Expression
expression names (syntax.Number n) = Number n
expression names (syntax.Variable name) = Value (number_in names name.text)
expression names (syntax.Sum a b) = Sum (expression names a) (expression names b)
expression names (syntax.Difference a b) = Difference (expression names a) (expression names b)
expression names (syntax.Product a b) = Product (expression names a) (expression names b)
expression names (syntax.Minimum a b) = Minimum (expression names a) (expression names b)
expression names (syntax.Maximum a b) = Maximum (expression names a) (expression names b)
expression names (syntax.Less a b) = Less (expression names a) (expression names b)
expression names (syntax.Pick c a b) = Pick (expression names c) (expression names a) (expression names b)

abbrev pub table : syntax.Table → Table
table t = record { name = t.name.text; arity = t.arity; columns = texts t.columns }

abbrev pub table_number : List syntax.Table → Name → ℕ
table_number tables name = number_in (map (λ t. t.name.text) tables) name.text

-- the place of a column in the table of a name
abbrev pub column_number : List syntax.Table → (table column : Name) → ℕ
column_number tables table column = number_in (slice_index_or (map (λ t. texts t.columns) tables) (table_number tables table) []) column.text

abbrev pub access : List syntax.Table → (names : List (List ℕ)) → syntax.Access → Access
access tables names a =
    record { table = table_number tables a.table; id = map (expression names) a.id; column = column_number tables a.table a.column }

abbrev pub statement : List syntax.Table → (names : List (List ℕ)) → syntax.Statement → Statement
statement tables names (syntax.Get name from) = Get (number_in names name.text) (access tables names from)
statement tables names (syntax.Set line to value) = Set (access tables names to) (expression names value)
statement tables names (syntax.Out value) = Out (expression names value)

abbrev pub piece : List syntax.Table → (names : List (List ℕ)) → syntax.Piece → Piece
piece tables names p =
    record { name = p.name.text; is_now = p.is_now; place = expression names p.place; body = map (statement tables names) p.body }

abbrev pub procedure : List syntax.Table → syntax.Procedure → Procedure
procedure tables p =
    record {
      name = p.name.text;
      is_view = p.is_view;
      arguments = length p.arguments;
      names = length (names_of p);
      labels = names_of p;
      pieces = map (piece tables (names_of p)) p.pieces;
    }

abbrev pub init : List syntax.Table → syntax.Init → Init
init tables i =
    record {
      table = table_number tables i.table;
      place = i.place;
      id = i.id;
      column = column_number tables i.table i.column;
      value = i.value;
    }

-- the program of a tree
abbrev pub resolved : syntax.Tree → Workload
resolved t =
    record {
      shards = t.shards;
      tables = map table t.tables;
      inits = map (init t.tables) t.inits;
      procedures = map (procedure t.tables) t.procedures;
    }
