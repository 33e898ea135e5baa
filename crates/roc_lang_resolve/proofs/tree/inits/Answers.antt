use Rattle.roc_lang.specs.Tree.{init_tree}
use Rattle.roc_program.specs.Keys.{IsKey}
use Rattle.roc_program.proofs.Rows.{all_read}
use Rattle.roc_lang_resolve.proofs.tree.inits.Goals as goal

pub init-requires-clause-key : goal.init-requires-clause-key
init-requires-clause-key c =
    all_read (λ i. IsKey i.id) init_tree c.args.all.now c.loop-source.source-index c.source-item.result c.requires.keys c.loop-source-test.true c.source-item.is
