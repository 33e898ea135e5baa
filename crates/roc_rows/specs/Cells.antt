-- Cells: when two are one, and their order
use Rattle.std.specs.Prelude.{Bool, ◌&&◌, ◌==◌}
use Rattle.std.specs.Ordering.{nat_cmp, int_cmp, int_eq, ordering_then}
use Rattle.std.specs.declared.cmp.Ordering.{Ordering}
use Rattle.roc_base.specs.Equality.{is_nums}
use Rattle.roc_base.specs.Key.{key_cmp}
use Rattle.roc_rows.specs.declared.cell.Cell.{Cell}

-- the two cells are one
abbrev pub is_cell : Cell → Cell → Bool
is_cell a b = a.table == b.table && (int_eq a.place b.place && (is_nums a.id b.id && a.column == b.column))

-- by table, then by place, by id and by column
abbrev pub cell_cmp : Cell → Cell → Ordering
cell_cmp a b = ordering_then (nat_cmp a.table b.table) (ordering_then (int_cmp a.place b.place) (ordering_then (key_cmp a.id b.id) (nat_cmp a.column b.column)))
