use Rattle.roc_plan.proofs.Views.{view_count, view_group, view_waits, view_takes_nothing, view_meets_no_group}
use Rattle.roc_plan.proofs.laws.views_are_apart.Goals as goal

pub returns-clause-count : goal.returns-clause-count
returns-clause-count c = view_count

pub returns-clause-pieces : goal.returns-clause-pieces
returns-clause-pieces c = view_group

pub returns-clause-deferrable : goal.returns-clause-deferrable
returns-clause-deferrable c = view_waits

pub returns-clause-inputs : goal.returns-clause-inputs
returns-clause-inputs c = view_takes_nothing

pub returns-clause-meet : goal.returns-clause-meet
returns-clause-meet c = view_meets_no_group
