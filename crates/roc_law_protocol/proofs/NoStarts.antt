-- A server starts nothing
use Rattle.roc_base.specs.declared.id.TxnId.{TxnId}
use Rattle.roc_msg.specs.declared.msg.Msg.{Msg}
use Rattle.roc_plan.specs.Groups.{Plan}
use Rattle.roc_step.specs.State.{answered, ServerState}
use Rattle.roc_step.specs.Step.{Findings, after_message, tick_sends}
use Rattle.roc_law_protocol.proofs.Served.{StartsAre}
use Rattle.roc_law_protocol.proofs.ServerSends.{AreSo, AreKindsSo, message_so, tick_so}

no_kind_starts : (plan : Plan) (Of : TxnId → Type 0) → AreKindsSo plan (StartsAre Of)
no_kind_starts plan Of = record { startok = λ shard e. tt; commitok = λ s id. tt; list = λ known asker. tt; fetch = λ shard ask. tt }

module _ (plan : Plan) (s : ServerState) (Of : TxnId → Type 0) where
  pub no_starts : (f : Findings) (msg : Msg) → AreSo (StartsAre Of) (after_message plan s f msg).sends
  no_starts f msg = message_so plan (StartsAre Of) (no_kind_starts plan Of) s (λ id asker. tt) f msg

  pub no_starts_at_tick : AreSo (StartsAre Of) (answered s (tick_sends s)).sends
  no_starts_at_tick = tick_so plan (StartsAre Of) (no_kind_starts plan Of) s
