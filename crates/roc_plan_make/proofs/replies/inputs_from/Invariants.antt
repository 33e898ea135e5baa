use Rattle.std.proofs.Common.{◌≡◌, map, take}
use Rattle.roc_plan_make.specs.Inner.Built.{source_by}
use Rattle.roc_plan_make.proofs.replies.inputs_from.Given as goal

abbrev pub invariant-loop-name : goal.invariant-loop-name
invariant-loop-name l = l.inputs.items ≡ map (source_by (map (λ row. row.items) l.bounds)) (take l.name-index l.names)
