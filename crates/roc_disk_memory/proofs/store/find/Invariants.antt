-- No version before this one has the name.
use Rattle.std.proofs.Common.{◌≡◌, drop}
use Rattle.roc_disk_memory.specs.Versions.{held}
use Rattle.roc_disk_memory.proofs.store.find.Given as goal

abbrev pub invariant-loop-version : goal.invariant-loop-version
invariant-loop-version l = held (drop l.version-index l.versions) l.name ≡ held l.versions l.name
