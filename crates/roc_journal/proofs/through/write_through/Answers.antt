use Rattle.std.proofs.Common.{sym, subst, ap, ◌∙◌, ◌≤◌, length}
use Rattle.roc_disk.specs.Answers.{put}
use Rattle.roc_disk.specs.Stops.{Torn}
use Rattle.roc_disk.proofs.Tearing.{torn_same}
use Rattle.roc_journal.proofs.TwoCalls.{call_fails, sync_follows}
use Rattle.roc_journal.proofs.through.write_through.Goals as goal

pub returns-in-Failed-clause-written : goal.returns-in-Failed-clause-written
returns-in-Failed-clause-written g c = λ tells name bytes durable within.
    call_fails g.D.Disk c.args.disk.now c.write_at.new.self c.write_at.new.self name bytes (Torn c.args.at (length c.args.bytes.now)) (torn_same _ _ bytes) durable
    (λ image left. g.met.D.Disk.only_now c.args.disk.now name image (c.write_at.ensures.told tells) left)
    (c.write_at.ensures.stop tells name durable.file) (c.write_at.ensures.time tells name) _

pub returns-in-Ok-clause-written : goal.returns-in-Ok-clause-written
returns-in-Ok-clause-written g c = λ tells name bytes durable within.
    let mid = c.sync.ensures.told tells in
    let inside = subst (λ held. c.args.at ≤ length held) (sym durable.content) within in
    sync_follows g.D.Disk c.args.disk.now c.write_at.new.self c.sync.new.self name bytes (Torn c.args.at (length c.args.bytes.now)) (torn_same _ _ bytes) durable
    (λ image left. g.met.D.Disk.only_now c.args.disk.now name image (c.write_at.ensures.told mid) left)
    (c.write_at.ensures.stop mid name durable.file) (c.write_at.ensures.time mid name) c.sync.result _
    (c.write_at.ensures.file mid) (c.in-Ok.ensures.written mid name durable.file inside ∙ ap (λ held. put held c.args.at c.args.bytes.now) durable.content)
    (c.sync.ensures.file tells) (c.sync.ensures.content tells name) (c.sync.ensures.stop tells name) (c.sync.ensures.time tells name)
    (c.sync.ensures.durable tells name (c.write_at.ensures.file mid ∙ durable.file))
