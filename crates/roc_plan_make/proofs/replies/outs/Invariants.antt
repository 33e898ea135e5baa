use Rattle.std.proofs.Common.{◌≡◌, take}
use Rattle.std.specs.List.{count_by}
use Rattle.roc_plan_make.specs.Inner.Counts.{is_out}
use Rattle.roc_plan_make.proofs.replies.outs.Given as goal

abbrev pub invariant-loop-statement : goal.invariant-loop-statement
invariant-loop-statement l = l.count ≡ count_by is_out (take l.statement-index l.body)
