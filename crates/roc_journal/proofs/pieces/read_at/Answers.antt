use Rattle.roc_journal.proofs.Unwritten.{one_read}
use Rattle.roc_journal.proofs.pieces.read_at.Goals as goal

pub returns-clause-stays : goal.returns-clause-stays
returns-clause-stays g c = λ tells.
    one_read g.D.Disk c.args.disk.now c.read.new.self (c.read.ensures.told tells) (c.read.ensures.file tells) (c.read.ensures.content tells) (c.read.ensures.stop tells) (c.read.ensures.time tells)
    (λ name image left. g.met.D.Disk.only_now c.args.disk.now name image (c.read.ensures.told tells) left)
