use Rattle.std.proofs.Common.{◌≡◌, ◌++◌, filter, take}
use Rattle.roc_base.specs.TxnId.{txn_lt}
use Rattle.roc_step.specs.Carried.{unknown_of}
use Rattle.roc_server_news.proofs.news.push_before.Given as goal

abbrev pub invariant-loop-fact : goal.invariant-loop-fact
invariant-loop-fact l = l.news.items ≡ l.initial.news.items ++ unknown_of l.table.known (filter (λ f. txn_lt f.of l.fn.id) (take l.fact-index l.facts))
