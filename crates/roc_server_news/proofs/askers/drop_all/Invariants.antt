use Rattle.std.proofs.Common.{◌≡◌, ◌≤◌, not, filter, take}
use Rattle.std.specs.List.{list_any}
use Rattle.roc_base.specs.TxnId.{is_txn}
use Rattle.roc_server_news.proofs.askers.drop_all.Given as goal

abbrev pub invariant-loop-k : goal.invariant-loop-k
invariant-loop-k l = record {
  waiting : l.waits.waiting ≡ record l.initial.waits.waiting { askers = filter (λ a. not (list_any (λ k. is_txn k.of a.id) (take l.k-index l.news))) l.initial.waits.waiting.askers };
  fetches : l.waits.fetches ≡ filter (λ a. not (list_any (λ k. is_txn k.of a.id) (take l.k-index l.news))) l.initial.waits.fetches;
  spare : l.initial.waits.spare ≤ l.waits.spare;
}
