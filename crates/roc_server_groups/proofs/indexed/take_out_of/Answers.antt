use Rattle.std.proofs.Common.{◌∙◌, ◌||◌, take, sym, ap}
use Rattle.std.proofs.lemmas.List.Folds.{list_any_more}
use Rattle.std.specs.List.{list_any}
use Rattle.roc_rows.specs.Cells.{is_cell}
use Rattle.roc_group.specs.declared.access.Access.{Access}
use Rattle.roc_server_groups.proofs.IndexSteps.{out_more}
use Rattle.roc_server_groups.proofs.indexed.take_out_of.Goals as goal

pub loop-access-preserved : goal.loop-access-preserved
loop-access-preserved c =
    let a = c.access-item.result in
    let cells = c.args.cells.now in
    let k = c.loop-access.access-index in
    out_more c.args.id (λ d. list_any (λ (x : Access). is_cell x.cell d) (take k cells)) (λ d. is_cell a.cell d) _ c.args.index.now c.loop-access.index c.take_out.new.self
    (λ d. list_any_more (λ (x : Access). is_cell x.cell d) cells k a c.loop-access-test.true ∙ ap (λ (x : Access). list_any (λ (y : Access). is_cell y.cell d) (take k cells) || is_cell x.cell d) (sym c.access-item.is))
    c.loop-access.invariant c.take_out.ensures.changes
