use Rattle.std.proofs.Common.{◌≡◌, [], map, take, drop}
use Rattle.roc_lang.specs.Tree.{name_tree}
use Rattle.roc_lang.specs.Scope.{repeats}
use Rattle.roc_lang_scope.proofs.tree.check_distinct.Given as goal

abbrev pub invariant-loop-i : goal.invariant-loop-i
invariant-loop-i l = repeats (map name_tree (take l.i l.names)) (map name_tree (drop l.i l.names)) ≡ repeats [] (map name_tree l.names)
