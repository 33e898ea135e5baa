use Rattle.roc_plan.proofs.Meetings.{one_class_meets, one_contended_meets, siblings_apart}
use Rattle.roc_plan.proofs.laws.groups_meet_their_own_class.Goals as goal

pub returns-clause-one_class : goal.returns-clause-one_class
returns-clause-one_class c = one_class_meets

pub returns-clause-one_contended : goal.returns-clause-one_contended
returns-clause-one_contended c = one_contended_meets

pub returns-clause-siblings : goal.returns-clause-siblings
returns-clause-siblings c = siblings_apart
