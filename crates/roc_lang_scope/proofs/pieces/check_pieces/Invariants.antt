use Rattle.std.proofs.Common.{◌≡◌, [], map, take, drop}
use Rattle.roc_lang.specs.Tree.{name_tree, piece_tree, table_tree}
use Rattle.roc_lang.specs.Scope.{pieces_faults}
use Rattle.roc_lang_scope.specs.Inner.Before.{bound_behind, bound_first}
use Rattle.roc_lang_scope.proofs.pieces.check_pieces.Given as goal

abbrev pub invariant-loop-i : goal.invariant-loop-i
invariant-loop-i l = pieces_faults (map table_tree l.tables) l.is_view (map (λ p. name_tree p.name) (take l.i l.pieces)) (bound_behind (map name_tree l.arguments) (map piece_tree (take l.i l.pieces)) []) (map piece_tree (drop l.i l.pieces))
    ≡ pieces_faults (map table_tree l.tables) l.is_view [] (bound_first (map name_tree l.arguments)) (map piece_tree l.pieces)
