use Rattle.std.proofs.Common.{◌≡◌, take}
use Rattle.roc_server_table.specs.Inner.Among.{links_past, links_within}
use Rattle.roc_server_rows.specs.Rows.{row_links}
use Rattle.roc_server_table.proofs.components.links_among.Given as goal

abbrev pub invariant-loop-id : goal.invariant-loop-id
invariant-loop-id l = l.links ≡ links_within (links_past l.skipped (row_links l.rows)) l.ids (take l.id-index l.ids)
