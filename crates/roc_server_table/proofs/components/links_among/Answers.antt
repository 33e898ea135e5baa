use Rattle.std.proofs.Common.{List, refl, get_or, option_copied}
use Rattle.roc_base.specs.declared.id.TxnId.{TxnId}
use Rattle.roc_component.proofs.ListsWithin.{learns_within, once_from_rising}
use Rattle.roc_depgraph.specs.declared.known.KnownList.{KnownList}
use Rattle.roc_server_table.specs.Inner.Among.{links_past}
use Rattle.roc_server_rows.specs.Rows.{row_links}
use Rattle.roc_server_table.proofs.EntriesAmong.{edges_kept}
use Rattle.roc_server_table.proofs.components.links_among.Goals as goal

pub loop-id-preserved : goal.loop-id-preserved
loop-id-preserved c =
    let none : TxnId = record { coord = 0; seq = 0 } in
    let ids : List TxnId = c.args.ids.now in
    let known : List KnownList = links_past c.args.skipped (row_links c.args.rows.now) in
    let id : TxnId = get_or ids c.loop-id.id-index none in
    learns_within known ids ids c.loop-id.id-index id none c.loop-id.links c.learn.new.self c.in_ok-learn.field-0 c.in_ok-edges.edges
    (once_from_rising ids c.requires.rising) c.loop-id-test.true refl c.loop-id.invariant
    (edges_kept ids c.args.skipped c.args.rows.now id (option_copied c.told_row-row.result) c.in_ok-edges.edges c.in_ok-edges.ensures c.told_row-row.ensures) c.in_ok-learn.ensures.ok
