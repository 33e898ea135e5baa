use Rattle.std.proofs.Common.{◌≡◌, ◌++◌, drop}
use Rattle.roc_log.specs.Sent.{outs_logged}
use Rattle.roc_fold.proofs.due.put_outs.Given as goal

abbrev pub invariant-loop-out : goal.invariant-loop-out
invariant-loop-out l = l.due.items ++ outs_logged l.header (drop l.out-index l.outs) ≡ l.fn.due.items ++ outs_logged l.header l.outs
