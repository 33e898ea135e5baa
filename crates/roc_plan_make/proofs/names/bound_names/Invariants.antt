use Rattle.std.proofs.Common.{◌≡◌, map, take}
use Rattle.roc_program.specs.Parts as view
use Rattle.roc_merge_groups.specs.Groups.{groups_in}
use Rattle.roc_plan.specs.Groups.{bound_in}
use Rattle.roc_plan_make.proofs.names.bound_names.Given as goal

abbrev pub invariant-loop-group : goal.invariant-loop-group
invariant-loop-group l = map (λ row. row.items) l.rows.items ≡ map (bound_in (view.procedure l.procedure)) (take l.group (groups_in l.groups l.proc))
