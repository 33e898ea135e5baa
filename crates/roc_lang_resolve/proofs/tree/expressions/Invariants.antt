use Rattle.std.proofs.Common.{◌≡◌, map, take}
use Rattle.roc_lang.specs.Tree.{expression_tree}
use Rattle.roc_program.specs.Parts as view
use Rattle.roc_lang_resolve.specs.Resolve as resolve
use Rattle.roc_lang_resolve.proofs.tree.expressions.Given as goal

abbrev pub invariant-loop-source : goal.invariant-loop-source
invariant-loop-source l =
    map view.expression l.resolved.items ≡ map (resolve.expression (map (λ n. n.now) l.names)) (map expression_tree (take l.source-index l.all))
