use Rattle.roc_plan.proofs.Sources.{source_of}
use Rattle.roc_plan.proofs.laws.inputs_come_from_immediate_groups.Goals as goal

pub returns : goal.returns
returns c = λ plan is proc g input h. let s = source_of plan is proc g input h in (s.apart, s.there, s.immediate, s.bound)
