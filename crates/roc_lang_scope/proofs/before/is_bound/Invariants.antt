use Rattle.std.proofs.Common.{◌≡◌, false, map, take}
use Rattle.std.specs.List.{flat_map}
use Rattle.roc_lang.specs.Tree.{name_tree, statement_tree}
use Rattle.roc_lang.specs.Scope.{is_among, bound_by}
use Rattle.roc_lang_scope.proofs.before.is_bound.Given as goal

abbrev pub invariant-loop-statement : goal.invariant-loop-statement
invariant-loop-statement l = is_among (flat_map bound_by (map statement_tree (take l.statement-index l.body))) (name_tree l.name) ≡ false
