use Rattle.std.proofs.Common.{sym, ◌∙◌, rules, arith}
use Rattle.roc_journal.proofs.Heads.{no_tag, other_tag, something}
use Rattle.roc_journal.proofs.reader.Reader.open_tag.Goals as goal

pub returns-then-len-lt12-clause-started : goal.returns-then-len-lt12-clause-started
returns-then-len-lt12-clause-started g c = λ tells name file is_magic.
    let len = c.requires.len tells name file in
    (something _ (omega (arith, c.requires.some, len)), no_tag c.args.tag _ (search rules) is_magic (omega (arith, c.if-len-lt12.true, len)))

pub returns-else-eq-clause-started : goal.returns-else-eq-clause-started
returns-else-eq-clause-started g c = λ tells name file is_magic.
    let len = c.requires.len (c.eight_at.ensures.told tells) name file in
    (something _ (omega (arith, c.requires.some, len)), other_tag c.args.tag _ is_magic c.in-Some.found (c.in-Some.ensures.bytes tells name file) (sym c.eq.ensures ∙ c.if-eq.false))
