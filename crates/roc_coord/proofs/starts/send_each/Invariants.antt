use Rattle.std.proofs.Common.{◌≡◌, ◌++◌, map, take}
use Rattle.roc_msg.specs.Outbox.{HasSent}
use Rattle.roc_coord.specs.Fits.{IsTransactionOf}
use Rattle.roc_coord.specs.Starts.{sent_start, start_for}
use Rattle.roc_coord.proofs.starts.send_each.Given as goal

abbrev pub invariant-loop-group : goal.invariant-loop-group
invariant-loop-group l = record {
  kept : l.x ≡ record l.initial.x { starts = l.initial.x.starts ++ map (sent_start l.plan l.initial.x) (take l.group-index l.ready) };
  sent : HasSent l.initial.outbox l.outbox (map (start_for l.plan l.initial.x) (take l.group-index l.ready));
  fits : IsTransactionOf l.plan l.x;
}
