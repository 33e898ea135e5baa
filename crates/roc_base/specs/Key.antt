-- Ids of rows: the order of lists
use Rattle.std.specs.Prelude.{ℤ, List}
use Rattle.std.specs.Cmp.Lexicographic.{slice_cmp}
use Rattle.std.specs.Ordering.{int_cmp}
use Rattle.std.specs.declared.cmp.Ordering.{Ordering}

-- the first integers that differ decide, and a front comes before what goes on
abbrev pub key_cmp : List ℤ → List ℤ → Ordering
key_cmp = slice_cmp int_cmp
