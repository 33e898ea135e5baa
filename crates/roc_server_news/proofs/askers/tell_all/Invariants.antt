use Rattle.std.proofs.Common.{take}
use Rattle.std.specs.List.{flat_map}
use Rattle.roc_msg.specs.Outbox.{HasSent}
use Rattle.roc_step.specs.Asking.{knowns_for}
use Rattle.roc_server_news.proofs.askers.tell_all.Given as goal

abbrev pub invariant-loop-k : goal.invariant-loop-k
invariant-loop-k l = HasSent l.initial.outbox l.outbox (flat_map (knowns_for l.waits.waiting.askers) (take l.k-index l.news))
