use Rattle.std.proofs.Common.{map, take}
use Rattle.roc_msg.specs.Outbox.{HasSent}
use Rattle.roc_step.specs.Asking.{fetch_from}
use Rattle.roc_server_news.proofs.fetches.send_fetches.Given as goal

abbrev pub invariant-loop-a : goal.invariant-loop-a
invariant-loop-a l = HasSent l.initial.outbox l.outbox (map (fetch_from l.shard) (take l.a-index l.asks))
