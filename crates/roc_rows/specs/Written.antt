-- What writing a number does to the map of the cells that are not 0
use Rattle.std.specs.Prelude.{ℤ, pos, if◌then◌else◌}
use Rattle.std.specs.FinMap as map
use Rattle.std.specs.FinMap.{FinMap}
use Rattle.std.specs.Ordering.{int_eq}
use Rattle.roc_rows.specs.declared.cell.Cell.{Cell}
use Rattle.roc_rows.specs.Cells.{cell_cmp}

-- a 0 takes the cell out
unfoldable pub written : FinMap cell_cmp ℤ → Cell → ℤ → FinMap cell_cmp ℤ
written m c v = if int_eq v (pos 0) then map.remove m c else map.insert m c v
