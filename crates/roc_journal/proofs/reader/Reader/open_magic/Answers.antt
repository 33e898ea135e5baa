use Rattle.std.proofs.Common.{sym, ◌∙◌, arith}
use Rattle.roc_journal.proofs.Heads.{no_magic, other_magic, something}
use Rattle.roc_journal.proofs.Unwritten.{reads_on}
use Rattle.roc_journal.proofs.reader.Reader.open_magic.Goals as goal

pub returns-then-len-lt4-clause-started : goal.returns-then-len-lt4-clause-started
returns-then-len-lt4-clause-started g c = λ tells name file.
    let len = c.requires.len tells name file in
    (something _ (omega (arith, c.requires.some, len)), no_magic c.args.tag _ (omega (arith, c.if-len-lt4.true, len)))

pub returns-then-eq-clause-stays : goal.returns-then-eq-clause-stays
returns-then-eq-clause-stays g c = λ tells.
    reads_on g.D.Disk c.args.disk.now c.four_at.new.disk c.open_tag.new.disk (c.four_at.ensures.stays (c.open_tag.ensures.told tells)) (c.open_tag.ensures.stays tells)

pub returns-else-eq-clause-started : goal.returns-else-eq-clause-started
returns-else-eq-clause-started g c = λ tells name file.
    let len = c.requires.len (c.four_at.ensures.told tells) name file in
    (something _ (omega (arith, c.requires.some, len)), other_magic c.args.tag _ c.in-Some.found (c.in-Some.ensures.bytes tells name file) (sym c.eq.ensures ∙ c.if-eq.false))
