use Rattle.std.proofs.Common.{◌≡◌, false, map, take}
use Rattle.roc_lang.specs.Tree.{name_tree}
use Rattle.roc_lang.specs.Scope.{is_among}
use Rattle.roc_lang_scope.proofs.before.is_among.Given as goal

abbrev pub invariant-loop-earlier : goal.invariant-loop-earlier
invariant-loop-earlier l = is_among (map name_tree (take l.earlier-index l.names)) (name_tree l.name) ≡ false
