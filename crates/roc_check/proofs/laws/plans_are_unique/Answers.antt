use Rattle.std.proofs.Common.{ap}
use Rattle.roc_check.specs.Lines.{check_lines}
use Rattle.roc_check.proofs.Unique.{one_plan_of_text}
use Rattle.roc_check.proofs.laws.plans_are_unique.Goals as goal

pub returns-clause-plan : goal.returns-clause-plan
returns-clause-plan c = one_plan_of_text c.merged_groups_are_one.ensures

pub returns-clause-lines : goal.returns-clause-lines
returns-clause-lines c = λ bytes one other a b. ap check_lines (one_plan_of_text c.merged_groups_are_one.ensures bytes one other a b)
