-- A cut adds a version, both of whose images are one step on.
use Rattle.std.proofs.Common.{◌≡◌, take, ◌∙◌, ap}
use Rattle.roc_disk.specs.Stops.{Cut, Follows}
use Rattle.roc_disk_memory.specs.Versions.{seen_in, MayLeave}
use Rattle.roc_disk_memory.proofs.Steps.{at_file, unless_failed, made_seen, made_step, made_others, made_time}
use Rattle.roc_disk_memory.proofs.store.Store.cut.Goals as goal

pub returns-clause-cut : goal.returns-clause-cut
returns-clause-cut c = λ told name same inside.
    let old = c.args.self.now.versions.items in
    let new = c.push.new.self.versions.items in
    unless_failed (seen_in new name ≡ take c.args.len (seen_in old name)) c.answer.result c.args.fails c.answer.ensures (λ fine.
    at_file (λ n. seen_in new n ≡ take c.args.len (seen_in old n)) c.args.self.now.file.items name same
    (made_seen c.cut_short-made.result old new c.args.self.now.file.items _ (c.push.ensures.added told) (c.cut_short-made.ensures.cut fine) ∙ ap (take c.args.len) c.files.ensures.seen))

pub returns-clause-stop : goal.returns-clause-stop
returns-clause-stop c = λ told name same.
    let old = c.args.self.now.versions.items in
    let new = c.push.new.self.versions.items in
    let step = Cut c.args.len in
    at_file (λ n. Follows step (MayLeave old n) (MayLeave new n)) c.args.self.now.file.items name same
    (made_step step c.cut_short-made.result old new c.args.self.now.file.items _ _ (c.push.ensures.added told) c.files.ensures.seen c.files.ensures.stable c.cut_short-made.ensures.seen c.cut_short-made.ensures.stable)

pub returns-clause-others : goal.returns-clause-others
returns-clause-others c = λ told other apart. made_others c.cut_short-made.result _ _ _ (c.push.ensures.added told) other apart

pub returns-clause-time : goal.returns-clause-time
returns-clause-time c = λ told other. made_time c.cut_short-made.result _ _ _ (c.push.ensures.added told) other
