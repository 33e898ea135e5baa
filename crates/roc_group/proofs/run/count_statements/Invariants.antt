use Rattle.std.proofs.Common.{◌≡◌, take}
use Rattle.roc_program.specs.Parts as pure
use Rattle.roc_plan.specs.Groups.{pieces_at}
use Rattle.roc_group.specs.GroupRun.{statements_in}
use Rattle.roc_group.proofs.run.count_statements.Given as goal

-- the statements of the pieces so far
abbrev pub invariant-loop-number : goal.invariant-loop-number
invariant-loop-number l = l.count ≡ statements_in (pieces_at (pure.procedure l.procedure) (take l.number-index l.pieces))
