-- A sync adds a version that a read sees as the one before; unless it fails, a stop leaves that too.
use Rattle.roc_disk.specs.Stops.{Only}
use Rattle.roc_disk_memory.specs.Versions.{seen_in, MayLeave}
use Rattle.roc_disk_memory.proofs.Steps.{at_file, unless_failed, made_same, made_only, made_time}
use Rattle.roc_disk_memory.proofs.store.Store.sync.Goals as goal

pub returns-clause-durable : goal.returns-clause-durable
returns-clause-durable c = λ told name same.
    let old = c.args.self.now.versions.items in
    let new = c.push.new.self.versions.items in
    unless_failed (Only (seen_in old name) (MayLeave new name)) c.answer.result c.args.fails c.answer.ensures (λ fine.
    at_file (λ n. Only (seen_in old n) (MayLeave new n)) c.args.self.now.file.items name same
    (made_only c.synced-made.result old new c.args.self.now.file.items _ (c.push.ensures.added told) c.files.ensures.seen c.synced-made.ensures.seen (c.synced-made.ensures.synced fine)))

pub returns-clause-content : goal.returns-clause-content
returns-clause-content c = λ told other.
    (made_same c.synced-made.result _ _ _ _ _ (c.push.ensures.added told) c.files.ensures.seen c.files.ensures.stable c.synced-made.ensures.seen c.synced-made.ensures.stable other).0

pub returns-clause-stop : goal.returns-clause-stop
returns-clause-stop c = λ told other.
    (made_same c.synced-made.result _ _ _ _ _ (c.push.ensures.added told) c.files.ensures.seen c.files.ensures.stable c.synced-made.ensures.seen c.synced-made.ensures.stable other).1

pub returns-clause-time : goal.returns-clause-time
returns-clause-time c = λ told other. made_time c.synced-made.result _ _ _ (c.push.ensures.added told) other
