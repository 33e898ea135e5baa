use Rattle.roc_journal.proofs.Unwritten.{reads_on}
use Rattle.roc_journal.proofs.reader.Reader.open.Goals as goal

pub returns-else-len-eq0-clause-stays : goal.returns-else-len-eq0-clause-stays
returns-else-len-eq0-clause-stays g c = λ tells.
    reads_on g.D.Disk c.args.disk.now c.synced_len.new.disk c.open_magic.new.disk (c.synced_len.ensures.stays (c.open_magic.ensures.told tells)) (c.open_magic.ensures.stays tells)
