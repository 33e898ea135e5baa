-- No version more.
use Rattle.roc_disk_memory.proofs.Steps.{elapses_same}
use Rattle.roc_disk_memory.proofs.mem.MemDiskDisk.len.Goals as goal

pub returns-then-next_fails-clause-time : goal.returns-then-next_fails-clause-time
returns-then-next_fails-clause-time c = λ told other. elapses_same c.args.self.now.store.versions.items other

pub returns-clause-time : goal.returns-clause-time
returns-clause-time c = λ told other. elapses_same c.args.self.now.store.versions.items other
