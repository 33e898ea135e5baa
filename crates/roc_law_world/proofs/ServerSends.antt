-- What a server sends for transactions is of these
use Rattle.std.proofs.Common.{◌≡◌, false, refl}
use Rattle.roc_msg.specs.declared.msg.Msg.{Msg}
use Rattle.roc_plan.specs.Groups.{Plan}
use Rattle.roc_step.specs.State.{answered, ServerState}
use Rattle.roc_step.specs.Step.{Findings, after_message, tick_sends}
use Rattle.roc_law_protocol.proofs.ServerSends.{AreSo, AreKindsSo, message_so, tick_so}
use Rattle.roc_law_world.specs.Beside.{is_of_view}

abbrev IsOfTransaction : Msg → Type 0
IsOfTransaction msg = is_of_view msg ≡ false

kinds_of_transactions : (plan : Plan) → AreKindsSo plan IsOfTransaction
kinds_of_transactions plan = record { startok = λ shard e. refl; commitok = λ s id. refl; list = λ known asker. refl; fetch = λ shard ask. refl }

module _ (plan : Plan) (s : ServerState) where
  pub message_of_transactions : (f : Findings) (msg : Msg) → AreSo IsOfTransaction (after_message plan s f msg).sends
  message_of_transactions f msg = message_so plan IsOfTransaction (kinds_of_transactions plan) s (λ id asker. refl) f msg

  pub tick_of_transactions : AreSo IsOfTransaction (answered s (tick_sends s)).sends
  tick_of_transactions = tick_so plan IsOfTransaction (kinds_of_transactions plan) s
