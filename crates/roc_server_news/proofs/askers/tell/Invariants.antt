use Rattle.std.proofs.Common.{map, take}
use Rattle.roc_msg.specs.Outbox.{HasSent}
use Rattle.roc_step.specs.Asking.{known_to}
use Rattle.roc_server_news.proofs.askers.tell.Given as goal

abbrev pub invariant-loop-a : goal.invariant-loop-a
invariant-loop-a l = HasSent l.initial.outbox l.outbox (map (known_to l.k) (take l.a-index l.askers))
