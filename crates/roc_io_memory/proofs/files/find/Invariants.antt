-- No file before this one has the name.
use Rattle.std.proofs.Common.{◌≡◌, drop}
use Rattle.roc_io_memory.specs.Files.{held}
use Rattle.roc_io_memory.proofs.files.find.Given as goal

abbrev pub invariant-loop-file : goal.invariant-loop-file
invariant-loop-file l = held (drop l.file-index l.files) l.name ≡ held l.files l.name
