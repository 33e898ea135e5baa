-- No version more.
use Rattle.std.proofs.Common.{sym, ap, subst}
use Rattle.roc_io.specs.Cause.{HasCause}
use Rattle.roc_disk_memory.specs.Versions.{seen_in}
use Rattle.roc_disk_memory.proofs.Steps.{elapses_equal, no_more_equal}
use Rattle.roc_disk_memory.proofs.mem.MemDiskDisk.open.Goals as goal

pub returns-clause-cause : goal.returns-clause-cause
returns-clause-cause c = subst (λ failed. HasCause failed c.args.self.now.calls.faults c.next_fails-fails.new.self.faults) (sym c.open.ensures.due) c.next_fails-fails.ensures

pub returns-clause-content : goal.returns-clause-content
returns-clause-content c = λ told other. ap (λ versions. seen_in versions other) c.open.ensures.same

pub returns-clause-stop : goal.returns-clause-stop
returns-clause-stop c = λ told other. no_more_equal _ _ other c.open.ensures.same

pub returns-clause-time : goal.returns-clause-time
returns-clause-time c = λ told other. elapses_equal _ _ other c.open.ensures.same
