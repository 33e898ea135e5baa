use Rattle.std.proofs.Common.{refl}
use Rattle.roc_group.specs.GroupRun.{group_pieces, begin}
use Rattle.roc_group.proofs.Effects.{run_alike, pieces-others}
use Rattle.roc_group.proofs.laws.runs_follow_from_cells.Goals as goal

pub returns-clause-same : goal.returns-clause-same
returns-clause-same c plan call s t agree = run_alike (begin plan call s) (begin plan call t) (group_pieces plan call) refl refl agree

pub returns-clause-others : goal.returns-clause-others
returns-clause-others c plan call s x none = pieces-others (begin plan call s) (group_pieces plan call) x none
