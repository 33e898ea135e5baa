use Rattle.std.proofs.Common.{◌≡◌, false, map, take}
use Rattle.roc_lang.specs.Tree.{name_tree}
use Rattle.roc_lang.specs.Scope.{is_among}
use Rattle.roc_lang_scope.proofs.tree.is_procedure.Given as goal

abbrev pub invariant-loop-procedure : goal.invariant-loop-procedure
invariant-loop-procedure l = is_among (map (λ p. name_tree p.name) (take l.procedure-index l.procedures)) (name_tree l.name) ≡ false
