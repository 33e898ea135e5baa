use Rattle.roc_lang_parse.proofs.Ids.{never_the_fault}
use Rattle.roc_lang_parse.proofs.laws.ids_are_never_the_fault.Goals as goal

pub returns : goal.returns
returns c = never_the_fault
