use Rattle.std.proofs.Common.{◌≡◌, drop}
use Rattle.toml.specs.View.{items_view}
use Rattle.roc_cluster.specs.Entries.{tables_of}
use Rattle.roc_cluster.specs.Inner.Judged.{table_views}
use Rattle.roc_cluster.proofs.Tables.{with_front}
use Rattle.roc_cluster.proofs.document.all_tables.Given as goal

abbrev pub invariant-loop-item : goal.invariant-loop-item
invariant-loop-item l = with_front (table_views l.tables.items) (tables_of (items_view (drop l.item-index l.items))) ≡ tables_of (items_view l.items)
