use Rattle.std.proofs.Common.{◌≡◌, map, take}
use Rattle.roc_lang.specs.Tree.{piece_tree, table_tree}
use Rattle.roc_program.specs.Parts as view
use Rattle.roc_lang_resolve.specs.Resolve as resolve
use Rattle.roc_lang_resolve.proofs.tree.pieces.Given as goal

abbrev pub invariant-loop-source : goal.invariant-loop-source
invariant-loop-source l =
    map view.piece l.resolved.items ≡ map (resolve.piece (map table_tree l.tables) (map (λ n. n.now) l.names)) (map piece_tree (take l.source-index l.all))
