use Rattle.std.proofs.Common.{map, take}
use Rattle.roc_server_rows.specs.Except.{link_but, rows_but}
use Rattle.roc_server_rows.proofs.Waits.{AreFreeLinks}
use Rattle.roc_server_rows.proofs.marks.held_among.Given as goal

abbrev pub invariant-loop-link : goal.invariant-loop-link
invariant-loop-link l = AreFreeLinks (rows_but l.except l.rows) l.marks (take l.link-index (map (link_but l.except) l.links))
