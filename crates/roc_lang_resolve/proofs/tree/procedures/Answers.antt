use Rattle.roc_lang.specs.Tree.{procedure_tree}
use Rattle.roc_lang.specs.Limits.{IsSmallProcedure}
use Rattle.roc_program.proofs.Rows.{all_read}
use Rattle.roc_lang_resolve.proofs.tree.procedures.Goals as goal

pub procedure-requires-clause-small : goal.procedure-requires-clause-small
procedure-requires-clause-small c =
    all_read IsSmallProcedure procedure_tree c.args.all.now c.loop-source.source-index c.source-item.result c.requires.small c.loop-source-test.true c.source-item.is
