use Rattle.roc_lang_parse.proofs.Unique.{one_spelling}
use Rattle.roc_lang_parse.proofs.laws.tokens_are_unique.Goals as goal

pub returns : goal.returns
returns c = one_spelling
