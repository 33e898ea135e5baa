-- What stands before a place of a procedure, and which names are bound there.
use Rattle.std.specs.Prelude.{List, [], ◌++◌, map, if◌then◌else◌}
use Rattle.std.specs.List.{flat_map}
use Rattle.roc_lang.specs.Syntax.{Name, Statement, Piece}
use Rattle.roc_lang.specs.Tree.{name_tree, statement_tree, piece_tree}
use Rattle.roc_lang.specs.Scope as scope
use Rattle.roc_lang.specs.Scope.{Bound, bound_by}
use Rattle.roc_lang_scope.specs.declared.before.Before.{Before}
use Rattle.roc_lang_scope.specs.declared.before.Within.{Within}

-- what a piece binds where it was declared now, where it was declared later
abbrev pub now_by : Piece → List Name
now_by p = if p.is_now then flat_map bound_by p.body else []

abbrev pub later_by : Piece → List Name
later_by p = if p.is_now then [] else flat_map bound_by p.body

-- the same of pieces, in program order
abbrev pub now_names : List Piece → List Name
now_names pieces = flat_map now_by pieces

abbrev pub later_names : List Piece → List Name
later_names pieces = flat_map later_by pieces

-- the names that are bound before the first piece
abbrev pub bound_first : List Name → Bound
bound_first arguments = record { known = arguments; own = []; past = [] }

-- the names that are bound behind these arguments, these whole pieces and these statements of the next piece
abbrev pub bound_behind : List Name → List Piece → List Statement → Bound
bound_behind arguments pieces body = record { known = arguments ++ now_names pieces; own = flat_map bound_by body; past = later_names pieces }

abbrev pub bound : Before → Bound
bound b = bound_behind (map name_tree b.arguments.now) (map piece_tree b.pieces.now) (map statement_tree b.body.now)

-- the piece that a statement stands in
abbrev pub within_of : Within → scope.Within
within_of w = record { is_view = w.is_view; piece = name_tree w.piece.now }
