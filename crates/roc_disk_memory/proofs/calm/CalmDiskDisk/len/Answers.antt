-- No version more.
use Rattle.roc_disk_memory.proofs.Steps.{elapses_same}
use Rattle.roc_disk_memory.proofs.calm.CalmDiskDisk.len.Goals as goal

pub returns-clause-time : goal.returns-clause-time
returns-clause-time c = λ told other. elapses_same c.args.self.now.store.versions.items other
