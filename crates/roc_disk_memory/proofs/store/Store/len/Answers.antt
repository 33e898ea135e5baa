use Rattle.std.proofs.Common.{◌≡◌, length, ap}
use Rattle.roc_disk_memory.specs.Versions.{seen_in}
use Rattle.roc_disk_memory.proofs.Steps.{at_file}
use Rattle.roc_disk_memory.proofs.store.Store.len.Goals as goal

pub returns : goal.returns
returns c = λ name same.
    at_file (λ n. length c.files.result.0.now ≡ length (seen_in c.args.self.now.versions.items n)) c.args.self.now.file.items name same (ap length c.files.ensures.seen)
