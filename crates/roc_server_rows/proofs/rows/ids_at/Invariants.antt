use Rattle.std.proofs.Common.{◌≡◌, map, take}
use Rattle.roc_server_rows.specs.Rows.{row_in}
use Rattle.roc_server_rows.proofs.rows.ids_at.Given as goal

abbrev pub invariant-loop-at : goal.invariant-loop-at
invariant-loop-at l = l.ids.items ≡ map (λ n. (row_in l.rows n).id) (take l.at-index l.numbers)
