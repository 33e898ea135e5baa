use Rattle.std.proofs.Common.{◌≡◌, [], map, take, drop}
use Rattle.roc_lang.specs.Tree.{name_tree, statement_tree, piece_tree, table_tree}
use Rattle.roc_lang.specs.Scope.{statements_faults}
use Rattle.roc_lang_scope.specs.Inner.Before.{bound_behind, within_of}
use Rattle.roc_lang_scope.proofs.pieces.check_body.Given as goal

abbrev pub invariant-loop-i : goal.invariant-loop-i
invariant-loop-i l = statements_faults (map table_tree l.tables) (within_of l.within) (bound_behind (map name_tree l.arguments) (map piece_tree l.pieces) (map statement_tree (take l.i l.body))) (map statement_tree (drop l.i l.body))
    ≡ statements_faults (map table_tree l.tables) (within_of l.within) (bound_behind (map name_tree l.arguments) (map piece_tree l.pieces) []) (map statement_tree l.body)
