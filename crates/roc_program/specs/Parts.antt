-- The parts of the code's workload as those of a program
use Rattle.std.specs.Prelude.{map}
use Rattle.std.specs.String.{string_bytes}
use Rattle.roc_program.specs.declared.parts.Expression.{Expression}
use Rattle.roc_program.specs.declared.parts.Expression.TheVariants.{Number, Value, Sum', Difference', Product', Minimum', Maximum', Less', Pick'}
use Rattle.roc_program.specs.declared.parts.Access.{Access}
use Rattle.roc_program.specs.declared.parts.Statement.{Statement}
use Rattle.roc_program.specs.declared.parts.Statement.TheVariants.{Get, Set, Out}
use Rattle.roc_program.specs.declared.parts.Piece.{Piece}
use Rattle.roc_program.specs.declared.parts.Procedure.{Procedure}
use Rattle.roc_program.specs.declared.parts.Table.{Table}
use Rattle.roc_program.specs.declared.parts.Init.{Init}
use Rattle.roc_program.specs.Program as pure

abbrev pub expression : Expression → pure.Expression
expression (Number n) = pure.Number n
expression (Value number) = pure.Value number
expression (Sum' p a q b) = pure.Sum (expression a) (expression b)
expression (Difference' p a q b) = pure.Difference (expression a) (expression b)
expression (Product' p a q b) = pure.Product (expression a) (expression b)
expression (Minimum' p a q b) = pure.Minimum (expression a) (expression b)
expression (Maximum' p a q b) = pure.Maximum (expression a) (expression b)
expression (Less' p a q b) = pure.Less (expression a) (expression b)
expression (Pick' p c q a r b) = pure.Pick (expression c) (expression a) (expression b)

abbrev pub access : Access → pure.Access
access a = record { table = a.table; id = map expression a.id.items; column = a.column }

abbrev pub statement : Statement → pure.Statement
statement (Get number from) = pure.Get number (access from)
statement (Set to value) = pure.Set (access to) (expression value)
statement (Out value) = pure.Out (expression value)

abbrev pub piece : Piece → pure.Piece
piece p = record { name = string_bytes p.name; is_now = p.is_now; place = expression p.place; body = map statement p.body.items }

abbrev pub procedure : Procedure → pure.Procedure
procedure p = record {
  name = string_bytes p.name;
  is_view = p.is_view;
  arguments = p.arguments;
  names = p.names;
  labels = map string_bytes p.labels.items;
  pieces = map piece p.pieces.items;
}

abbrev pub table : Table → pure.Table
table t = record { name = string_bytes t.name; arity = t.arity; columns = map string_bytes t.columns.items }

abbrev pub init : Init → pure.Init
init i = record { table = i.table; place = i.place; id = i.id; column = i.column; value = i.value }
