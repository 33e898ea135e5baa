use Rattle.roc_lang_parse.proofs.Unique.{one_fault}
use Rattle.roc_lang_parse.proofs.laws.fault_is_unique.Goals as goal

pub returns : goal.returns
returns c = one_fault
