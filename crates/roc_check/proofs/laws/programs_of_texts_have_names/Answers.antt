use Rattle.std.proofs.Common.{sym, subst}
use Rattle.roc_report.specs.ReportLine.{HasNames}
use Rattle.roc_check.proofs.laws.programs_of_texts_have_names.Goals as goal

pub returns : goal.returns
returns c bytes program is =
    let words = c.texts_have_words.ensures bytes is.text.tokens is.tree is.text.spelt is.text.text in
    subst HasNames (sym is.is) (c.programs_have_names.ensures is.tree words is.in_scope)
