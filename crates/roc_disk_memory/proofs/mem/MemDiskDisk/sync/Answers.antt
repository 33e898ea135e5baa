-- A call that fails was counted.
use Rattle.std.proofs.Common.{sym, subst}
use Rattle.roc_io.specs.Cause.{HasCause}
use Rattle.roc_disk_memory.proofs.mem.MemDiskDisk.sync.Goals as goal

pub returns-clause-cause : goal.returns-clause-cause
returns-clause-cause c = subst (λ failed. HasCause failed c.args.self.now.calls.faults c.next_fails-fails.new.self.faults) (sym c.sync.ensures.due) c.next_fails-fails.ensures
