use Rattle.roc_lang_resolve.proofs.Formed.{program_formed}
use Rattle.roc_lang_resolve.proofs.laws.programs_are_well_formed.Goals as goal

pub returns : goal.returns
returns c = program_formed
