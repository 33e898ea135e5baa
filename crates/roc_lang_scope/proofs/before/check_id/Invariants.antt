use Rattle.std.proofs.Common.{◌≡◌, map, drop}
use Rattle.std.specs.List.{flat_map}
use Rattle.roc_lang.specs.Tree.{expression_tree}
use Rattle.roc_lang.specs.Scope.{key_faults}
use Rattle.roc_lang_scope.specs.Inner.Before.{bound}
use Rattle.roc_lang_scope.proofs.before.check_id.Given as goal

abbrev pub invariant-loop-integer : goal.invariant-loop-integer
invariant-loop-integer l = flat_map (key_faults (bound l.before)) (map expression_tree (drop l.integer-index l.id)) ≡ flat_map (key_faults (bound l.before)) (map expression_tree l.id)
