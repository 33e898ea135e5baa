use Rattle.std.proofs.Common.{◌≡◌, ◌+◌, ◌≤◌, drop}
use Rattle.roc_step.specs.Waits.{with_all_asked}
use Rattle.roc_server_news.proofs.asks.keep_asked.Given as goal

abbrev pub invariant-loop-a : goal.invariant-loop-a
invariant-loop-a l = record {
  asked : with_all_asked (drop l.a-index l.asks) l.waits.waiting.asked ≡ with_all_asked l.asks l.initial.waits.waiting.asked;
  askers : l.waits.waiting.askers ≡ l.initial.waits.waiting.askers;
  fetches : with_all_asked (drop l.a-index l.asks) l.waits.fetches ≡ with_all_asked l.asks l.initial.waits.fetches;
  spare : l.initial.waits.spare ≤ l.waits.spare + l.a-index;
}
