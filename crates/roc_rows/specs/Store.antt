-- What all cells hold: a number for each, 0 where nothing was written
use Rattle.std.specs.Prelude.{◌≢◌, ℤ, pos, List, Some, unwrap_or}
use Rattle.std.specs.FinMap as map
use Rattle.std.specs.FinMap.{FinMap}
use Rattle.roc_rows.specs.declared.cell.Cell.{Cell}
use Rattle.roc_rows.specs.Cells.{cell_cmp}
use Rattle.roc_rows.specs.Written.{written}
use Rattle.roc_rows.specs.Inner.Writes.{empty-no_zero, written-no_zero}

-- the number of each cell that is not 0. Cells that are 0 are left out, so that two stores which read alike are one
pub record Store : Type 0 where
  pub numbers : FinMap cell_cmp ℤ
  pub no_zero : (c : Cell) → map.get numbers c ≢ Some (pos 0)

-- the number of a cell
unfoldable pub read : Store → Cell → ℤ
read s c = unwrap_or (map.get s.numbers c) (pos 0)

-- the cells that are not 0 with their numbers, by cell rising
unfoldable pub entries : Store → List (Cell × ℤ)
entries s = map.entries s.numbers

-- all cells 0
unfoldable pub empty : Store
empty = record { numbers = map.empty; no_zero = empty-no_zero }

-- the store after a number is written into a cell
unfoldable pub write : Store → Cell → ℤ → Store
write s c v = record { numbers = written s.numbers c v; no_zero = written-no_zero s.numbers s.no_zero c v }
