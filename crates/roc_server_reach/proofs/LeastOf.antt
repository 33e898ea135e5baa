-- The least of what one predicate holds of are those of another that holds of the same
use Rattle.roc_base.specs.declared.id.TxnId.{TxnId}
use Rattle.std.proofs.Common.{List}
use Rattle.roc_server_reach.specs.Least.{AreLeastIds}

pub least_same : (P Q : TxnId → Type 0) → ((t : TxnId) → P t → Q t) → ((t : TxnId) → Q t → P t) → (ids : List TxnId) → AreLeastIds P ids → AreLeastIds Q ids
least_same P Q to from ids l =
    record {
      all = l.all;
      rising = record { rising = l.rising.rising; sound = λ t h. to t (l.rising.sound t h); complete = λ t h. l.rising.complete t (from t h) };
      first = l.first;
      rises = l.rises;
    }
