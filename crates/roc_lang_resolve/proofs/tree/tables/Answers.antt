use Rattle.roc_lang.specs.Tree.{table_tree}
use Rattle.roc_lang.specs.Limits.{IsSmallTable}
use Rattle.roc_program.proofs.Rows.{all_read}
use Rattle.roc_lang_resolve.proofs.tree.tables.Goals as goal

pub table-requires : goal.table-requires
table-requires c =
    all_read IsSmallTable table_tree c.args.all.now c.loop-source.source-index c.source-item.result c.requires.small c.loop-source-test.true c.source-item.is
