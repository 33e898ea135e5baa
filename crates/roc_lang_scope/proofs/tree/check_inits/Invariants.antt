use Rattle.std.proofs.Common.{◌≡◌, map, drop}
use Rattle.std.specs.List.{flat_map}
use Rattle.roc_lang.specs.Tree.{init_tree, table_tree}
use Rattle.roc_lang.specs.Scope.{init_faults}
use Rattle.roc_lang_scope.proofs.tree.check_inits.Given as goal

abbrev pub invariant-loop-init : goal.invariant-loop-init
invariant-loop-init l = flat_map (init_faults (map table_tree l.tables)) (map init_tree (drop l.init-index l.inits)) ≡ flat_map (init_faults (map table_tree l.tables)) (map init_tree l.inits)
