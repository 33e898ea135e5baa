use Rattle.roc_whole.proofs.Reading.{pieces_leave, view_leaves}
use Rattle.roc_whole.proofs.laws.views_leave_the_store.Goals as goal

pub returns : goal.returns
returns c = record { pieces = pieces_leave; whole = view_leaves }
