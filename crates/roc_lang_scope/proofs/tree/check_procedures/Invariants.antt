use Rattle.std.proofs.Common.{◌≡◌, [], map, take, drop}
use Rattle.roc_lang.specs.Tree.{name_tree, procedure_tree, table_tree}
use Rattle.roc_lang.specs.Scope.{procedures_faults}
use Rattle.roc_lang_scope.proofs.tree.check_procedures.Given as goal

abbrev pub invariant-loop-i : goal.invariant-loop-i
invariant-loop-i l = procedures_faults (map table_tree l.tables) (map (λ p. name_tree p.name) (take l.i l.procedures)) (map procedure_tree (drop l.i l.procedures))
    ≡ procedures_faults (map table_tree l.tables) [] (map procedure_tree l.procedures)
