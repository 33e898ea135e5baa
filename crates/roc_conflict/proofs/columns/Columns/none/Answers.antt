use Rattle.roc_conflict.proofs.Gathering.{none_meet}
use Rattle.roc_conflict.proofs.columns.Columns.none.Goals as goal

pub returns : goal.returns
returns c = λ program id. none_meet _ program id c.no_marks.ensures c.no_marks-2.ensures
