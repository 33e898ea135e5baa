use Rattle.std.proofs.Common.{rules, arith}
use Rattle.roc_journal.proofs.Heads.{no_gate, at_gate, something}
use Rattle.roc_journal.proofs.reader.Reader.open_gate.Goals as goal

pub returns-then-len-eq12-clause-started : goal.returns-then-len-eq12-clause-started
returns-then-len-eq12-clause-started c = λ bytes len is_magic is_tag.
    (something bytes (omega (arith, c.requires, len)), no_gate c.args.tag bytes (search rules) is_magic is_tag (omega (arith, c.if-len-eq12.true, len)))

pub returns-clause-started : goal.returns-clause-started
returns-clause-started c = λ bytes len is_magic is_tag.
    (len, at_gate c.args.tag bytes (search rules) is_magic is_tag c.args.len (omega (arith, c.requires, c.if-len-eq12.false, len)))
