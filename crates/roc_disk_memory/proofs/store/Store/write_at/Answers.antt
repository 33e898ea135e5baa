-- A write adds a version, both of whose images are one step on.
use Rattle.std.proofs.Common.{◌≡◌, length, ◌∙◌, ap}
use Rattle.roc_disk.specs.Answers.{put}
use Rattle.roc_disk.specs.Stops.{Torn, Follows}
use Rattle.roc_disk_memory.specs.Versions.{seen_in, MayLeave}
use Rattle.roc_disk_memory.proofs.Steps.{at_file, unless_failed, made_seen, made_step, made_others, made_time}
use Rattle.roc_disk_memory.proofs.store.Store.write_at.Goals as goal

pub returns-clause-written : goal.returns-clause-written
returns-clause-written c = λ told name same inside.
    let old = c.args.self.now.versions.items in
    let new = c.push.new.self.versions.items in
    let bytes = c.args.bytes.now in
    unless_failed (seen_in new name ≡ put (seen_in old name) c.args.at bytes) c.answer.result c.args.fails c.answer.ensures (λ fine.
    at_file (λ n. seen_in new n ≡ put (seen_in old n) c.args.at bytes) c.args.self.now.file.items name same
    (made_seen c.written-made.result old new c.args.self.now.file.items _ (c.push.ensures.added told) (c.written-made.ensures.put fine) ∙ ap (λ l. put l c.args.at bytes) c.files.ensures.seen))

pub returns-clause-stop : goal.returns-clause-stop
returns-clause-stop c = λ told name same.
    let old = c.args.self.now.versions.items in
    let new = c.push.new.self.versions.items in
    let step = Torn c.args.at (length c.args.bytes.now) in
    at_file (λ n. Follows step (MayLeave old n) (MayLeave new n)) c.args.self.now.file.items name same
    (made_step step c.written-made.result old new c.args.self.now.file.items _ _ (c.push.ensures.added told) c.files.ensures.seen c.files.ensures.stable c.written-made.ensures.seen c.written-made.ensures.stable)

pub returns-clause-others : goal.returns-clause-others
returns-clause-others c = λ told other apart. made_others c.written-made.result _ _ _ (c.push.ensures.added told) other apart

pub returns-clause-time : goal.returns-clause-time
returns-clause-time c = λ told other. made_time c.written-made.result _ _ _ (c.push.ensures.added told) other
