use Rattle.std.proofs.Common.{◌∙◌, ◌++◌, ap}
use Rattle.roc_base.specs.Edges.{united}
use Rattle.roc_server_table.specs.Inner.Among.{among}
use Rattle.roc_server_rows.specs.Rows.{followed}
use Rattle.roc_server_table.proofs.EntriesAmong.{united_among}
use Rattle.roc_server_table.proofs.components.row_edges_among.Goals as goal

pub returns : goal.returns
returns c =
    let rows = c.args.rows.now in
    let row = c.args.row.now in
    united_among c.args.ids.now c.args.skipped rows row.edges row.names c.in_ok-found.found.items c.unite.new.self c.as_slice.ensures.list.rising
    (c.in_ok-found.ensures
    ∙ (ap (λ es. among c.args.ids.now c.args.skipped (followed rows es c.as_slice-2.result.now)) c.as_slice.ensures.entries
    ∙ ap (λ ls. among c.args.ids.now c.args.skipped (followed rows row.edges ls)) c.as_slice-2.ensures))
    (c.in_ok-unite.ensures.united ∙ (ap (λ l. united (l ++ c.deref.result.now)) c.new-edges.ensures ∙ ap united c.deref.ensures.value))
