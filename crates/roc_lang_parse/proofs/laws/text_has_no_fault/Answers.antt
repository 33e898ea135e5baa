use Rattle.roc_lang_parse.proofs.Unique.{text_has_none}
use Rattle.roc_lang_parse.proofs.laws.text_has_no_fault.Goals as goal

pub returns : goal.returns
returns c = text_has_none
