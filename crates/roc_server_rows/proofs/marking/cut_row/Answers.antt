use Rattle.std.proofs.Common.{List, ap}
use Rattle.roc_server_rows.specs.declared.rows.Link.{Link}
use Rattle.roc_server_rows.specs.declared.rows.Row.{Row}
use Rattle.roc_server_rows.proofs.marking.cut_row.Goals as goal

abbrev named : Row → List Link → Row
named r ls = record { id = r.id; birth = r.birth; turn = r.turn; edges = r.edges; names = ls; next = r.next }

pub returns : goal.returns
returns c = ap (named c.args.row.now) c.cut_names.ensures
