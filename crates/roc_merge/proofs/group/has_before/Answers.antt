use Rattle.std.proofs.Common.{sym, ap, ◌∙◌, arith}
use Rattle.roc_merge.specs.Inner.Tables.{holds}
use Rattle.roc_merge.proofs.Grouped.{any_below, none_more}
use Rattle.roc_merge.proofs.group.has_before.Goals as goal

pub returns-then-row-from : goal.returns-then-row-from
returns-then-row-from c = sym (any_below (holds c.args.row.now) c.loop-before.before c.args.piece (omega arith) (ap (holds c.args.row.now) (sym c.from.ensures) ∙ c.if-row-from.true))

pub loop-before-preserved : goal.loop-before-preserved
loop-before-preserved c = none_more (holds c.args.row.now) c.loop-before.before c.loop-before.invariant (ap (holds c.args.row.now) (sym c.from.ensures) ∙ c.if-row-from.false)
