use Rattle.std.proofs.Common.{◌∙◌, ap, sym, arith}
use Rattle.roc_step.specs.Links.{least_naming}
use Rattle.roc_server_rows.proofs.LeastOfRows.{row_entries, untold_entries}
use Rattle.roc_server_rows.proofs.rows.least_at.Goals as goal

pub returns-then-row-eq0 : goal.returns-then-row-eq0
returns-then-row-eq0 c = ap (least_naming c.args.id c.args.at) (sym (untold_entries c.args.row.now c.if-row-eq0.true))

pub returns : goal.returns
returns c = c.least_in.ensures ∙ ap (least_naming c.args.id c.args.at) (sym (row_entries c.args.row.now (omega (arith, c.if-row-eq0.false))))
