-- The order of cells is total
use Rattle.std.specs.Cmp.{IsTotalOrder}
use Rattle.std.proofs.lemmas.Cmp.{on_total, then_total, nat_cmp_total, int_cmp_total}
use Rattle.roc_base.specs.KeyOrder.{key_cmp-total}
use Rattle.roc_rows.specs.Cells.{cell_cmp}

pub cell_cmp-total : IsTotalOrder cell_cmp
cell_cmp-total =
    then_total (on_total (λ c. c.table) nat_cmp_total)
    (then_total (on_total (λ c. c.place) int_cmp_total) (then_total (on_total (λ c. c.id) key_cmp-total) (on_total (λ c. c.column) nat_cmp_total)))
