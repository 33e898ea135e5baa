use Rattle.std.proofs.Common.{refl, sym, subst, ◌∙◌, arith}
use Rattle.roc_journal.specs.Inner.Pieces.{IsFound}
use Rattle.roc_journal.proofs.Nexts.{is_none, is_next, may_want, open_size}
use Rattle.roc_journal.proofs.reader.Reader.judge.Goals as goal

pub returns-in-Err-clause-read : goal.returns-in-Err-clause-read
returns-in-Err-clause-read c = λ bytes records behind open_at len told spelled text.
    may_want bytes records c.args.self.now behind open_at _ told c.requires.few (omega (arith, c.requires.within, len))

pub returns-in-Ok-None-clause-read : goal.returns-in-Ok-None-clause-read
returns-in-Ok-None-clause-read c = λ bytes records behind open_at len told spelled text.
    is_none bytes records c.args.self.now behind open_at _ told c.args.datagram.now text
    (subst (IsFound c.args.self.now.tag c.args.datagram.now) c.in-Ok-None.field-0-is c.in-Ok-None.ensures)

pub returns-in-Ok-Some-clause-read : goal.returns-in-Ok-Some-clause-read
returns-in-Ok-Some-clause-read c = λ bytes records behind open_at len told spelled text.
    let found = subst (IsFound c.args.self.now.tag c.args.datagram.now) c.in-Ok-Some.field-0-is c.in-Ok-Some.ensures in (
      omega (arith, open_at.gate),
      is_next bytes records c.args.self.now behind open_at _ told c.in-Ok-Some.found _ refl refl found.0 spelled (sym text ∙ found.1)
          (omega (arith, c.requires.within, len, open_size bytes records c.args.self.now behind open_at)),
    )
