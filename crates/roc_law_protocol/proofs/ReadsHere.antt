-- A read changes nothing of what transactions left on a server, and nothing is sent to answer it
use Rattle.std.proofs.Common.{Option, Some, None}
use Rattle.roc_plan.specs.Groups.{Plan}
use Rattle.roc_step.specs.declared.handled.Handled.{Handled}
use Rattle.roc_step.specs.declared.handled.Handled.TheVariants.{Done}
use Rattle.roc_step.specs.declared.kept_read.KeptRead.{KeptRead}
use Rattle.roc_step.specs.Reads.{read_refusal, read_judged, after_read}
use Rattle.roc_step.specs.State.{refused, ServerState, ServerStep}

-- so what holds where a message changes nothing holds of it
pub for_read : (plan : Plan) (s : ServerState) (q : KeptRead) (P : ServerStep → Type 0) → ((answer : Handled) → P (refused s answer)) → P (after_read plan s q)
for_read plan s q P all = go (read_refusal plan s q)
  where
    go : (x : Option Handled) → P (read_judged s x)
    go (Some answer) = all answer
    go None = all Done
