use Rattle.std.proofs.Common.{◌≡◌, map, take}
use Rattle.roc_lang.specs.Tree.{init_tree, table_tree}
use Rattle.roc_program.specs.Parts as view
use Rattle.roc_lang_resolve.specs.Resolve as resolve
use Rattle.roc_lang_resolve.proofs.tree.inits.Given as goal

abbrev pub invariant-loop-source : goal.invariant-loop-source
invariant-loop-source l =
    map view.init l.resolved.items ≡ map (resolve.init (map table_tree l.tables)) (map init_tree (take l.source-index l.all))
