-- The tables so far, and those that are still found
use Rattle.std.proofs.Common.{refl}
use Rattle.toml.specs.View.{items_view}
use Rattle.roc_cluster.specs.Entries.{tables_of}
use Rattle.roc_cluster.proofs.Tables.{one_more, no_table, none_left}
use Rattle.roc_cluster.proofs.document.all_tables.Goals as goal

pub loop-item-preserved : goal.loop-item-preserved
loop-item-preserved c =
    one_more c.args.items.now c.loop-item.item-index c.item-item.result c.loop-item.tables.items c.push.new.self.items c.in-Some.table (tables_of (items_view c.args.items.now))
    c.loop-item-test.true c.item-item.is c.in-Some.ensures c.in_ok-push-in-Some.ensures.items c.loop-item.invariant

pub returns-in-None : goal.returns-in-None
returns-in-None c = record {
  ok = tt;
  err = (no_table c.args.items.now c.loop-item.item-index c.item-item.result c.loop-item.tables.items (tables_of (items_view c.args.items.now)) c.loop-item-test.true c.item-item.is c.in-None.ensures c.loop-item.invariant, refl);
}

pub returns : goal.returns
returns c = record {
  ok = none_left c.args.items.now c.loop-item.item-index c.loop-item.tables.items (tables_of (items_view c.args.items.now)) c.loop-item-test.false c.loop-item.invariant;
  err = tt;
}
