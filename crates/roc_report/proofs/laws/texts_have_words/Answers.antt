use Rattle.roc_lang.specs.Grammar.{standard}
use Rattle.roc_report.proofs.Worded.{has_words}
use Rattle.roc_report.proofs.laws.texts_have_words.Goals as goal

pub returns : goal.returns
returns c = has_words standard
