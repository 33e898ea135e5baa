-- A transaction is settled
use Rattle.std.specs.Prelude.{ℕ, List}
use Rattle.roc_base.specs.declared.id.TxnId.{TxnId}
use Rattle.roc_depgraph.specs.Deps.{IsDecided}
use Rattle.roc_msg.specs.declared.msg.Msg.TheVariants as msg
use Rattle.roc_msg.specs.Outbox.{Collected}
use Rattle.roc_plan.specs.Groups.{Plan}
use Rattle.roc_step.specs.declared.handled.Handled.{Handled}
use Rattle.roc_step.specs.Lists.{after_settled}
use Rattle.roc_step.specs.New.{AreNewTaken}
use Rattle.roc_step.specs.State.{ServerState}
use Rattle.roc_step.specs.Step.{links_after}
use Rattle.roc_server.specs.Inner.Shown.{ShowsStep}

-- a settled transaction was taken, or its watermark alone
pub record Settles (plan : Plan) (s state : ServerState) (before after : Collected) (id : TxnId) (mark : ℕ) (answer : Handled) : Type 0 where
  pub components : List (List TxnId)
  pub are_new : AreNewTaken (IsDecided s.lists.links) (links_after s (msg.Settled id mark)) components
  pub shown : ShowsStep (after_settled plan components s id mark) answer state before after
