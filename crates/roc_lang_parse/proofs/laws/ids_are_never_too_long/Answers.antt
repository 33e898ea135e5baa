use Rattle.roc_lang_parse.proofs.Spared.{never_too_long}
use Rattle.roc_lang_parse.proofs.laws.ids_are_never_too_long.Goals as goal

pub returns : goal.returns
returns c = never_too_long
