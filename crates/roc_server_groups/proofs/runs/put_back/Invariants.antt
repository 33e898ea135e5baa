use Rattle.std.proofs.Common.{◌≡◌, vec_len}
use Rattle.roc_server_groups.specs.Inner.Restored.{restored}
use Rattle.roc_server_groups.proofs.runs.put_back.Given as goal

abbrev pub invariant-loop-at : goal.invariant-loop-at
invariant-loop-at l = restored l.earlier.items l.started.groups ≡ restored l.fn.earlier.items l.fn.started.groups

abbrev pub decreases-loop-at : goal.decreases-loop-at
decreases-loop-at l = vec_len l.earlier
