use Rattle.std.proofs.Common.{◌≡◌, map, take}
use Rattle.roc_lang.specs.Tree.{statement_tree, table_tree}
use Rattle.roc_program.specs.Parts as view
use Rattle.roc_lang_resolve.specs.Resolve as resolve
use Rattle.roc_lang_resolve.proofs.tree.statements.Given as goal

abbrev pub invariant-loop-source : goal.invariant-loop-source
invariant-loop-source l =
    map view.statement l.resolved.items ≡ map (resolve.statement (map table_tree l.tables) (map (λ n. n.now) l.names)) (map statement_tree (take l.source-index l.body))
