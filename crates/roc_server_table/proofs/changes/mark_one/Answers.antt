use Rattle.std.proofs.Common.{◌≡◌, length, sym, arith}
use Rattle.roc_server_table.proofs.DecidedToo.{absent_too, one_too}
use Rattle.roc_server_table.proofs.changes.mark_one.Goals as goal

pub returns-in-Some : goal.returns-in-Some
returns-in-Some c =
    let each : length c.mark_row.new.marks ≡ length c.args.marks.now = omega arith in
    one_too c.args.numbers.now.entries c.args.id c.in-Some.at c.args.marks.now c.mark_row.new.marks (sym c.in-Some.ensures) each c.mark_row.ensures

pub returns-in_default : goal.returns-in_default
returns-in_default c = absent_too c.args.numbers.now.entries c.args.id c.args.marks.now (sym c.in_default.ensures)
