use Rattle.roc_kept.proofs.Files.{recovered_alike}
use Rattle.roc_kept.proofs.laws.recovered_is_one.Goals as goal

pub returns : goal.returns
returns c = recovered_alike c.journals_are_unique.ensures c.kept_fold_is_one.ensures
