use Rattle.roc_conflict.proofs.Promoting.{none_marked}
use Rattle.roc_conflict.proofs.marks.no_marks.Goals as goal

pub returns : goal.returns
returns c = none_marked
