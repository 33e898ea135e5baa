use Rattle.std.proofs.Common.{sym, ◌∙◌}
use Rattle.roc_journal.proofs.Datagrams.{none_found, one_found, other_found}
use Rattle.roc_journal.proofs.pieces.record_in.Goals as goal

pub returns-in-Err : goal.returns-in-Err
returns-in-Err c = none_found c.args.tag c.args.datagram.now c.in-Err.fault c.no_record.result c.in-Err.ensures.only c.no_record.ensures

pub returns-then-eq : goal.returns-then-eq
returns-then-eq c = one_found c.args.tag c.args.datagram.now c.in-Ok.header c.in-Ok.msg (sym c.eq.ensures ∙ c.if-eq.true) c.in-Ok.ensures.found.0 c.in-Ok.ensures.found.1

pub returns-else-eq : goal.returns-else-eq
returns-else-eq c = other_found c.args.tag c.args.datagram.now c.in-Ok.header c.in-Ok.msg (sym c.eq.ensures ∙ c.if-eq.false) c.in-Ok.ensures.only
