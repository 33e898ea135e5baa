use Rattle.std.proofs.Common.{◌≡◌, false, map, take}
use Rattle.roc_lang.specs.Tree.{name_tree}
use Rattle.roc_lang.specs.Scope.{is_among}
use Rattle.roc_lang_scope.proofs.tree.is_table.Given as goal

abbrev pub invariant-loop-table : goal.invariant-loop-table
invariant-loop-table l = is_among (map (λ t. name_tree t.name) (take l.table-index l.tables)) (name_tree l.name) ≡ false
