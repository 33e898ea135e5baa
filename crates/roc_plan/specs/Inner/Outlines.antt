-- What a plan's fields say: the grouped program, and that what is kept of each group is what its definition gives
use Rattle.roc_plan.specs.declared.plan.Plan.TheInside.{Inside}
use Rattle.roc_plan.specs.Groups as groups
use Rattle.roc_plan.specs.Outlines.{outlined_plan, AreOutlines}

-- the grouped program
abbrev pub plan : Inside → groups.Plan
plan p = outlined_plan p.workload p.outlines.items

-- its outlines are those of the plan, which is accepted
abbrev pub IsOutlined : Inside → Type 0
IsOutlined p = AreOutlines p.workload p.outlines.items
