use Rattle.std.proofs.Common.{◌≡◌, take, filter}
use Rattle.roc_server_rows.specs.Rows.{row_in, is_told}
use Rattle.roc_server_table.proofs.leading.told_among.Given as goal

abbrev pub invariant-loop-at : goal.invariant-loop-at
invariant-loop-at l = l.told.items ≡ filter (λ n. is_told (row_in l.rows n)) (take l.at-index l.numbers)
