use Rattle.std.proofs.Common.{◌≡◌, [], map, take, drop}
use Rattle.roc_lang.specs.Tree.{name_tree, table_tree}
use Rattle.roc_lang.specs.Scope.{tables_faults}
use Rattle.roc_lang_scope.proofs.tree.check_tables.Given as goal

abbrev pub invariant-loop-i : goal.invariant-loop-i
invariant-loop-i l = tables_faults (map (λ t. name_tree t.name) (take l.i l.tables)) (map table_tree (drop l.i l.tables)) ≡ tables_faults [] (map table_tree l.tables)
