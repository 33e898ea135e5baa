-- How often cells were written: a count for each, which stays at its largest number
use Rattle.std.specs.Prelude.{ℕ, ◌+◌, ◌-◌, ◌^◌, min, unwrap_or}
use Rattle.std.specs.FinMap as map
use Rattle.std.specs.FinMap.{FinMap}
use Rattle.roc_rows.specs.declared.cell.Cell.{Cell}
use Rattle.roc_rows.specs.Cells.{cell_cmp}

-- of each cell that was written, how often
abbrev pub Counts : Type 0
Counts = FinMap cell_cmp ℕ

-- how often a cell was written
unfoldable pub version : Counts → Cell → ℕ
version m c = unwrap_or (map.get m c) 0

-- before any write
unfoldable pub unwritten : Counts
unwritten = map.empty

-- after one more write to a cell
unfoldable pub counted : Counts → Cell → Counts
counted m c = map.insert m c (min (version m c + 1) (2 ^ 64 - 1))

-- what a shard keeps of this: the counts, and how many more of them cannot fail
pub record Versioned : Type 0 where
  pub counts : Counts
  pub spare : ℕ
