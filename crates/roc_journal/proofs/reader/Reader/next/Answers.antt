use Rattle.roc_journal.proofs.Unwritten.{reads_on}
use Rattle.roc_journal.proofs.reader.Reader.next.Goals as goal

pub returns-then-byte-eq1-clause-stays : goal.returns-then-byte-eq1-clause-stays
returns-then-byte-eq1-clause-stays g c = λ tells.
    reads_on g.D.Disk c.args.disk.now c.byte_at.new.disk c.next_record.new.disk (c.byte_at.ensures.stays (c.next_record.ensures.told tells)) (c.next_record.ensures.stays tells)
