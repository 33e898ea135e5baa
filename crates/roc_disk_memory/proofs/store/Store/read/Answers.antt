use Rattle.std.proofs.Common.{◌≡◌, ◌+◌, ◌≤◌, length, take, drop, sym, ◌∙◌, ap, subst}
use Rattle.roc_disk_memory.specs.Versions.{seen_in}
use Rattle.roc_disk_memory.proofs.Steps.{at_file}
use Rattle.roc_disk_memory.proofs.store.Store.read.Goals as goal

pub returns-clause-read : goal.returns-clause-read
returns-clause-read c = λ name same.
    let n = length c.args.into.now in
    at_file (λ name. c.args.at + n ≤ length (seen_in c.args.self.now.versions.items name) → c.read_from.new.into ≡ take n (drop c.args.at (seen_in c.args.self.now.versions.items name)))
    c.args.self.now.file.items name same
    (λ inside. c.read_from.ensures.read (subst (λ l. c.args.at + n ≤ length l) (sym c.files.ensures.seen) inside) ∙ ap (λ l. take n (drop c.args.at l)) c.files.ensures.seen)
