use Rattle.std.proofs.Common.{◌≡◌, false, map, take}
use Rattle.roc_lang.specs.Tree.{name_tree, piece_tree}
use Rattle.roc_lang.specs.Scope.{is_among}
use Rattle.roc_lang_scope.specs.Inner.Before.{now_names}
use Rattle.roc_lang_scope.proofs.before.is_bound_now.Given as goal

abbrev pub invariant-loop-piece : goal.invariant-loop-piece
invariant-loop-piece l = is_among (now_names (map piece_tree (take l.piece-index l.pieces))) (name_tree l.name) ≡ false
