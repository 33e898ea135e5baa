-- Lists of the decided transactions that keep what ran meet what the law about orders asks for
use Rattle.std.proofs.Common.{List}
use Rattle.roc_base.specs.declared.id.TxnId.{TxnId}
use Rattle.roc_rows.specs.Store.{Store}
use Rattle.roc_law_orders.specs.Orders.{Follows}
use Rattle.roc_law_log.specs.Scheme.{Scheme}
use Rattle.roc_law_log.specs.Log.{Log}
use Rattle.roc_law_log.specs.Kept.{KeepsRan}

module _ (S : Scheme) (start : Store) (w : Log) (f : Follows S.behaviour start w.past.ran w.order) where
  pub keeps : KeepsRan S start w w.order
  keeps = record { once = f.once; from = λ t h. h; all = λ t h. h; ran_first = f.order; ran_alone = f.absent_later }

  pub kept_follows : (O : List TxnId) → KeepsRan S start w O → Follows S.behaviour start w.past.ran O
  kept_follows O k =
      record {
        once = k.once;
        order = k.ran_first;
        absent_later = k.ran_alone;
        absent_steady = λ q h g n. f.absent_steady q (k.from q.txn h) g n;
        writers = λ q r x h a b c d e. k.all q.txn (f.writers q r x (k.from r.txn h) a b c d e);
        own_order = λ q r h e a b c d. f.own_order q r (k.from r.txn h) e a b c d;
        own_earlier = λ q r h e a c d. f.own_earlier q r (k.from r.txn h) e a c d;
        needs_ran = λ r h g. f.needs_ran r (k.from r.txn h) g;
      }
