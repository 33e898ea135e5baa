use Rattle.std.proofs.Common.{sym, subst, ap, ◌∙◌, ◌≤◌, length, take, List, ℕ}
use Rattle.roc_disk.specs.Stops.{Cut}
use Rattle.roc_disk.proofs.Tearing.{cut_same}
use Rattle.roc_journal.proofs.TwoCalls.{call_fails, sync_follows}
use Rattle.roc_journal.proofs.through.cut_through.Goals as goal

pub returns-in-Failed-clause-cut : goal.returns-in-Failed-clause-cut
returns-in-Failed-clause-cut g c = λ tells name bytes durable within.
    call_fails g.D.Disk c.args.disk.now c.cut.new.self c.cut.new.self name bytes (Cut c.args.len) (cut_same _ bytes) durable
    (λ image left. g.met.D.Disk.only_now c.args.disk.now name image (c.cut.ensures.told tells) left)
    (c.cut.ensures.stop tells name durable.file) (c.cut.ensures.time tells name) _

pub returns-in-Ok-clause-cut : goal.returns-in-Ok-clause-cut
returns-in-Ok-clause-cut g c = λ tells name bytes durable within.
    let mid = c.sync.ensures.told tells in
    let inside = subst (λ held. c.args.len ≤ length held) (sym durable.content) within in
    sync_follows g.D.Disk c.args.disk.now c.cut.new.self c.sync.new.self name bytes (Cut c.args.len) (cut_same _ bytes) durable
    (λ image left. g.met.D.Disk.only_now c.args.disk.now name image (c.cut.ensures.told mid) left)
    (c.cut.ensures.stop mid name durable.file) (c.cut.ensures.time mid name) c.sync.result _
    (c.cut.ensures.file mid) (c.in-Ok.ensures.cut mid name durable.file inside ∙ ap (λ (held : List ℕ). take c.args.len held) durable.content)
    (c.sync.ensures.file tells) (c.sync.ensures.content tells name) (c.sync.ensures.stop tells name) (c.sync.ensures.time tells name)
    (c.sync.ensures.durable tells name (c.cut.ensures.file mid ∙ durable.file))
