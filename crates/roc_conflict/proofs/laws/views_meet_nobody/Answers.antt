use Rattle.roc_conflict.proofs.Views.{view_meets_nobody, view_has_none, view_is_deferrable}
use Rattle.roc_conflict.proofs.laws.views_meet_nobody.Goals as goal

pub returns-clause-meet : goal.returns-clause-meet
returns-clause-meet c = view_meets_nobody

pub returns-clause-alone : goal.returns-clause-alone
returns-clause-alone c = view_has_none

pub returns-clause-deferrable : goal.returns-clause-deferrable
returns-clause-deferrable c = view_is_deferrable
