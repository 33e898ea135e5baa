use Rattle.roc_journal.proofs.Unwritten.{one_read, reads_on}
use Rattle.roc_journal.proofs.pieces.synced_len.Goals as goal

pub returns-in-Failed-clause-stays : goal.returns-in-Failed-clause-stays
returns-in-Failed-clause-stays g c = λ tells.
    one_read g.D.Disk c.args.disk.now c.sync.new.self (c.sync.ensures.told tells) (c.sync.ensures.file tells) (c.sync.ensures.content tells) (c.sync.ensures.stop tells) (c.sync.ensures.time tells)
    (λ name image left. g.met.D.Disk.only_now c.args.disk.now name image (c.sync.ensures.told tells) left)

pub returns-in-Failed-len-clause-stays : goal.returns-in-Failed-len-clause-stays
returns-in-Failed-len-clause-stays g c = λ tells.
    let mid = c.len.ensures.told tells in
    reads_on g.D.Disk c.args.disk.now c.sync.new.self c.len.new.self
    (one_read g.D.Disk c.args.disk.now c.sync.new.self (c.sync.ensures.told mid) (c.sync.ensures.file mid) (c.sync.ensures.content mid) (c.sync.ensures.stop mid) (c.sync.ensures.time mid)
    (λ name image left. g.met.D.Disk.only_now c.args.disk.now name image (c.sync.ensures.told mid) left))
    (one_read g.D.Disk c.sync.new.self c.len.new.self mid (c.len.ensures.file tells) (c.len.ensures.content tells) (c.len.ensures.stop tells) (c.len.ensures.time tells)
    (λ name image left. g.met.D.Disk.only_now c.sync.new.self name image mid left))

pub returns-in-Len-clause-stays : goal.returns-in-Len-clause-stays
returns-in-Len-clause-stays g c = λ tells.
    let mid = c.len.ensures.told tells in
    reads_on g.D.Disk c.args.disk.now c.sync.new.self c.len.new.self
    (one_read g.D.Disk c.args.disk.now c.sync.new.self (c.sync.ensures.told mid) (c.sync.ensures.file mid) (c.sync.ensures.content mid) (c.sync.ensures.stop mid) (c.sync.ensures.time mid)
    (λ name image left. g.met.D.Disk.only_now c.args.disk.now name image (c.sync.ensures.told mid) left))
    (one_read g.D.Disk c.sync.new.self c.len.new.self mid (c.len.ensures.file tells) (c.len.ensures.content tells) (c.len.ensures.stop tells) (c.len.ensures.time tells)
    (λ name image left. g.met.D.Disk.only_now c.sync.new.self name image mid left))
