use Rattle.roc_lang_print.proofs.Whole.{parsed_again}
use Rattle.roc_lang_print.proofs.laws.canonical_text_is_parsed.Goals as goal

pub returns : goal.returns
returns c = parsed_again
