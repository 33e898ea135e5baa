-- The parts of the syntax tree of the code, without where they lie in memory.
use Rattle.std.specs.Prelude.{map}
use Rattle.std.specs.String.{string_bytes}
use Rattle.roc_lang.specs.declared.syntax.Name.{Name}
use Rattle.roc_lang.specs.declared.syntax.Expression.{Expression}
use Rattle.roc_lang.specs.declared.syntax.Expression.TheVariants as variants
use Rattle.roc_lang.specs.declared.syntax.Access.{Access}
use Rattle.roc_lang.specs.declared.syntax.Statement.{Statement}
use Rattle.roc_lang.specs.declared.syntax.Statement.TheVariants as statements
use Rattle.roc_lang.specs.declared.syntax.Piece.{Piece}
use Rattle.roc_lang.specs.declared.syntax.Procedure.{Procedure}
use Rattle.roc_lang.specs.declared.syntax.Table.{Table}
use Rattle.roc_lang.specs.declared.syntax.Init.{Init}
use Rattle.roc_lang.specs.Syntax as syntax

abbrev pub name_tree : Name → syntax.Name
name_tree n = record { text = string_bytes n.text; line = n.line }

abbrev pub expression_tree : Expression → syntax.Expression
expression_tree (variants.Number n) = syntax.Number n
expression_tree (variants.Variable name) = syntax.Variable (name_tree name)
expression_tree (variants.Sum' p e q f) = syntax.Sum (expression_tree e) (expression_tree f)
expression_tree (variants.Difference' p e q f) = syntax.Difference (expression_tree e) (expression_tree f)
expression_tree (variants.Product' p e q f) = syntax.Product (expression_tree e) (expression_tree f)
expression_tree (variants.Minimum' p e q f) = syntax.Minimum (expression_tree e) (expression_tree f)
expression_tree (variants.Maximum' p e q f) = syntax.Maximum (expression_tree e) (expression_tree f)
expression_tree (variants.Less' p e q f) = syntax.Less (expression_tree e) (expression_tree f)
expression_tree (variants.Pick' p c q e r f) = syntax.Pick (expression_tree c) (expression_tree e) (expression_tree f)

abbrev pub access_tree : Access → syntax.Access
access_tree a = record { table = name_tree a.table; id = map expression_tree a.id.items; id_line = a.id_line; column = name_tree a.column }

abbrev pub statement_tree : Statement → syntax.Statement
statement_tree (statements.Get name from) = syntax.Get (name_tree name) (access_tree from)
statement_tree (statements.Set line to value) = syntax.Set line (access_tree to) (expression_tree value)
statement_tree (statements.Out value) = syntax.Out (expression_tree value)

abbrev pub piece_tree : Piece → syntax.Piece
piece_tree p = record { is_now = p.is_now; class_line = p.class_line; name = name_tree p.name; place = expression_tree p.place; body = map statement_tree p.body.items }

abbrev pub procedure_tree : Procedure → syntax.Procedure
procedure_tree p = record { name = name_tree p.name; arguments = map name_tree p.arguments.items; is_view = p.is_view; pieces = map piece_tree p.pieces.items }

abbrev pub table_tree : Table → syntax.Table
table_tree t = record { name = name_tree t.name; arity = t.arity; columns = map name_tree t.columns.items }

abbrev pub init_tree : Init → syntax.Init
init_tree i = record { table = name_tree i.table; place = i.place; id = i.id.items; id_line = i.id_line; column = name_tree i.column; value = i.value }
