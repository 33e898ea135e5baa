use Rattle.std.proofs.Common.{◌≡◌, map, take}
use Rattle.roc_lang.specs.Tree.{procedure_tree, table_tree}
use Rattle.roc_program.specs.Parts as view
use Rattle.roc_lang_resolve.specs.Resolve as resolve
use Rattle.roc_lang_resolve.proofs.tree.procedures.Given as goal

abbrev pub invariant-loop-source : goal.invariant-loop-source
invariant-loop-source l =
    map view.procedure l.resolved.items ≡ map (resolve.procedure (map table_tree l.tables)) (map procedure_tree (take l.source-index l.all))
