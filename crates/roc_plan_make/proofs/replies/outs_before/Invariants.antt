use Rattle.std.proofs.Common.{◌≡◌, ◌≤◌, ◌*◌, length, take}
use Rattle.roc_program.specs.Parts as view
use Rattle.roc_program.specs.Names.{outputs}
use Rattle.roc_plan_make.proofs.replies.outs_before.Given as goal

abbrev pub invariant-loop-before : goal.invariant-loop-before
invariant-loop-before l = (l.count ≡ length (outputs (take l.before (view.procedure l.procedure).pieces))) × (l.count ≤ l.before * 64)
