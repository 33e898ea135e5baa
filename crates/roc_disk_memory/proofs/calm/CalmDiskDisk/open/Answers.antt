-- No version more.
use Rattle.std.proofs.Common.{ap}
use Rattle.roc_disk_memory.specs.Versions.{seen_in}
use Rattle.roc_disk_memory.proofs.Steps.{elapses_equal, no_more_equal}
use Rattle.roc_disk_memory.proofs.calm.CalmDiskDisk.open.Goals as goal

pub returns-clause-content : goal.returns-clause-content
returns-clause-content c = λ told other. ap (λ versions. seen_in versions other) c.open.ensures.same

pub returns-clause-stop : goal.returns-clause-stop
returns-clause-stop c = λ told other. no_more_equal _ _ other c.open.ensures.same

pub returns-clause-time : goal.returns-clause-time
returns-clause-time c = λ told other. elapses_equal _ _ other c.open.ensures.same
