use Rattle.std.proofs.Common.{ap, arith, length}
use Rattle.roc_journal.proofs.Bounds.{spelling_size}
use Rattle.roc_journal.proofs.record.record_of.Goals as goal

pub overflow_cast-len : goal.overflow_cast-len
overflow_cast-len c = omega (arith, c.len.ensures, ap length c.in_ok-datagram.ensures, spelling_size c.args.header.now c.args.msg.now c.requires)
