use Rattle.roc_lang.proofs.Limited.{within_limits}
use Rattle.roc_lang.proofs.laws.texts_are_within_limits.Goals as goal

pub returns : goal.returns
returns c = within_limits
