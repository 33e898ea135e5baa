use Rattle.roc_lang_parse.proofs.Unique as unique
use Rattle.roc_lang_parse.proofs.laws.text_or_fault.Goals as goal

pub returns : goal.returns
returns c = unique.text_or_fault
