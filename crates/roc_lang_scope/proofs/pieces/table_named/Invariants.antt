use Rattle.std.proofs.Common.{◌≡◌, map, drop}
use Rattle.roc_lang.specs.Tree.{name_tree, table_tree}
use Rattle.roc_lang.specs.Scope.{table_named}
use Rattle.roc_lang_scope.proofs.pieces.table_named.Given as goal

abbrev pub invariant-loop-table : goal.invariant-loop-table
invariant-loop-table l = table_named (map table_tree (drop l.table-index l.tables)) (name_tree l.name) ≡ table_named (map table_tree l.tables) (name_tree l.name)
