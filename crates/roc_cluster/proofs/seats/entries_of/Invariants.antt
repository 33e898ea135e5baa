use Rattle.std.proofs.Common.{take}
use Rattle.roc_cluster.specs.Inner.Judged.{table_views, AreRead}
use Rattle.roc_cluster.proofs.seats.entries_of.Given as goal

abbrev pub invariant-loop-table : goal.invariant-loop-table
invariant-loop-table l = AreRead l.shards (table_views (take l.table-index l.tables)) l.entries
