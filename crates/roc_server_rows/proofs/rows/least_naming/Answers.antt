use Rattle.std.proofs.Common.{◌≤◌, ◌∙◌, List, take, ap, subst, sym}
use Rattle.std.specs.List.{flat_map}
use Rattle.roc_sequence.proofs.Fronts.{front_whole}
use Rattle.roc_step.specs.Links.{least_naming}
use Rattle.roc_step.proofs.LeastNaming.{least_bound}
use Rattle.roc_server_rows.specs.declared.rows.Row.{Row}
use Rattle.roc_server_rows.specs.Inner.Rows.{told_entries}
use Rattle.roc_server_rows.proofs.LeastOfRows.{row_more, rows_least}
use Rattle.roc_server_rows.proofs.rows.least_naming.Goals as goal

pub loop-row-preserved : goal.loop-row-preserved
loop-row-preserved c =
    row_more c.args.id c.args.at c.args.rows.now c.loop-row.row-index c.row-item.result c.loop-row.least c.least_at-least.result
    c.loop-row-test.true c.row-item.is c.loop-row.invariant c.least_at-least.ensures

pub returns-clause-least : goal.returns-clause-least
returns-clause-least c =
    c.loop-row.invariant
    ∙ (ap (λ (rs : List Row). least_naming c.args.id c.args.at (flat_map told_entries rs)) (front_whole c.args.rows.now c.loop-row.row-index c.loop-row-test.false)
    ∙ rows_least c.args.id c.args.at c.args.rows.now)

pub returns-clause-bound : goal.returns-clause-bound
returns-clause-bound c =
    subst (λ n. n ≤ c.args.at) (sym c.loop-row.invariant) (least_bound c.args.id c.args.at (flat_map told_entries (take c.loop-row.row-index c.args.rows.now)))
