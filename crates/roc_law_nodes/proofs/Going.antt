-- Whatever a server's node may take, it has a turn
use Rattle.std.proofs.Common.{◌≡◌, ℕ, ◌-◌, suc, Bool, true, false, List, Some, sym, ap, subst, ◌∙◌, refl, arith}
use Rattle.std.proofs.lemmas.Option.{slice_get_within}
use Rattle.std.specs.Prelude.{slice_get}
use Rattle.roc_sequence.proofs.Members.{same_there}
use Rattle.roc_base.specs.declared.node.Node.TheVariants.{Server}
use Rattle.roc_base.specs.declared.node.Shard.{Shard}
use Rattle.roc_io.specs.Packet.{Packet}
use Rattle.roc_msg.specs.declared.msg.Msg.{Msg}
use Rattle.roc_msg.specs.declared.msg.Envelope.{Envelope}
use Rattle.roc_step.specs.Reads.{AnswersReads, ReadStep}
use Rattle.roc_step.specs.State.{ServerState, ServerStep, Viewing}
use Rattle.roc_step.specs.Step.{Handles}
use Rattle.roc_law_protocol.specs.declared.event.Event.{Event}
use Rattle.roc_law_protocol.specs.declared.event.Event.TheVariants.{Deliver}
use Rattle.roc_law_protocol.proofs.Undelivered.{number_of}
use Rattle.roc_law_world.specs.Fits.{FitsWorld}
use Rattle.roc_law_world.specs.Happens.{Outcome, Happens, IsReceived}
use Rattle.roc_law_world.specs.Run.{Stepped, IsRun, IsEventOf}
use Rattle.roc_law_world.specs.World.{World, mark_delivered}
use Rattle.roc_node.specs.Judgement.{judged}
use Rattle.roc_node.specs.declared.judging.Judged.{Judged}
use Rattle.roc_node.specs.declared.judging.Judged.TheVariants.{Delivery, Skipped}
use Rattle.roc_node.specs.NodeEvent.{NodeEvent, took, silent}
use Rattle.roc_node_serve.specs.ServerRun.{ServerNodeState, is_stop, server_heard, server_received, server_took, TakesMessage, TakesJudged, AfterTurn}
use Rattle.roc_law_nodes.specs.Interleaved.{AllSettings, AllNodes, Move, AreInterleaved, IsCaused, IsMessageSent, IsJudgedSent, WasSentTo, setting_at}
use Rattle.roc_law_nodes.specs.WorldOf.{IsWorldOf}
use Rattle.roc_law_nodes.proofs.NodeMoves.{map_get}
use Rattle.roc_law_nodes.proofs.Woven.{world_of}

module _ (N : AllSettings) (fit : (steps : List Stepped) (w : World) → IsRun N.plan N.coords steps w → FitsWorld N.plan w)
    (outcome : (w : World) (e : Event) → FitsWorld N.plan w → IsEventOf N.plan w e → (o : Outcome) × Happens N.plan w e o) where
  module _ {moves : List Move} {all : AllNodes} (r : AreInterleaved N moves all) (shard : Shard) (node : ServerNodeState) (at : slice_get all.servers shard.0 ≡ Some node) where
    -- what comes of a message at the node's core
    abbrev Steps : Msg → Type 0
    Steps msg = (step : ServerStep) × (q : ReadStep) × Handles N.plan node.state msg step × AnswersReads N.plan node.viewing msg step q

    -- what came of it in a world that has the node
    taken_steps : (w : World) (msg : Msg) (o : Outcome) → slice_get w.servers shard.0 ≡ Some node.state → slice_get w.viewing shard.0 ≡ Some node.viewing
        → IsReceived N.plan w msg (Server shard) o → Steps msg
    taken_steps w msg o servers viewing received = (
      received.step,
      received.reads,
      subst (λ (s : ServerState). Handles N.plan s msg received.step) (same_there w.servers shard.0 received.state node.state received.there servers) received.handles,
      subst (λ (v : Viewing). AnswersReads N.plan v msg received.step received.reads) (same_there w.viewing shard.0 received.viewing node.viewing received.keeps viewing) received.answers,
    )

    -- its delivery may happen there
    comes : (w : World) (k : ℕ) (m : Envelope) → FitsWorld N.plan w → slice_get w.sent k ≡ Some m → (o : Outcome) × IsReceived N.plan (mark_delivered w (suc k)) m.msg m.to o
    comes w k m fits there =
        let within = slice_get_within w.sent k m there in
        let o = outcome w (Deliver (suc k)) fits (omega arith, omega arith) in
        let number : suc k - 1 ≡ k = omega arith in
        let found : slice_get w.sent k ≡ Some o.1.0 = ap (slice_get w.sent) (sym number) ∙ o.1.2 in
        (o.0, subst (λ (e : Envelope). IsReceived N.plan (mark_delivered w (suc k)) e.msg e.to o.0) (same_there w.sent k o.1.0 m found there) o.1.3)

    sent_steps : (msg : Msg) → WasSentTo all.sent (Server shard) msg → Steps msg
    sent_steps msg (from, has) = go found.0 found.1 found.2
      where
        found : (steps : List Stepped) × (w : World) × IsWorldOf N moves all steps w
        found = world_of N r

        go : (steps : List Stepped) (w : World) → IsWorldOf N moves all steps w → Steps msg
        go steps w is =
            let m : Envelope = record { from = from; to = Server shard; msg = msg } in
            let p = number_of all.sent m has in
            let o = comes w p.0 m (fit steps w is.run) (ap (λ l. slice_get l p.0) is.sent ∙ p.1) in
            taken_steps (mark_delivered w (suc p.0)) msg o.0
            (ap (λ l. slice_get l shard.0) is.servers ∙ map_get (λ (n : ServerNodeState). n.state) all.servers shard.0 node at)
            (ap (λ l. slice_get l shard.0) is.viewing ∙ map_get (λ (n : ServerNodeState). n.viewing) all.servers shard.0 node at) o.1

    message_goes : (heard : ServerNodeState) (bytes : List ℕ) (msg : Msg) → heard.state ≡ node.state → heard.viewing ≡ node.viewing → (b : Bool) → IsMessageSent all.sent (Server shard) b msg
        → (next : ServerNodeState) × TakesMessage (setting_at N (Server shard)) heard b bytes msg next
    message_goes heard bytes msg state viewing true sent = (_, refl)
    message_goes heard bytes msg state viewing false sent =
        let s = sent_steps msg sent in (
          server_took (setting_at N (Server shard)) heard bytes s.0 s.1,
          (s.0, s.1, subst (λ (x : ServerState). Handles N.plan x msg s.0) (sym state) s.2, subst (λ (v : Viewing). AnswersReads N.plan v msg s.0 s.1) (sym viewing) s.3, refl),
        )

    judged_goes : (packet : Packet) (j : Judged) (heard : ServerNodeState) → heard.state ≡ node.state → heard.viewing ≡ node.viewing → IsJudgedSent all.sent (Server shard) j
        → (next : ServerNodeState) × TakesJudged (setting_at N (Server shard)) heard packet j next
    judged_goes packet (Delivery header msg) heard state viewing sent = message_goes (server_heard heard header packet.address) packet.bytes msg state viewing (is_stop msg) sent
    judged_goes packet (Skipped skip) heard state viewing sent = (_, refl)

    pub going_on : (event : NodeEvent) → IsCaused N.tag all.sent (Server shard) event → (next : ServerNodeState) × AfterTurn (setting_at N (Server shard)) node event next
    going_on (took packet) caused = judged_goes packet (judged N.tag packet.bytes) (server_received node (took packet)) refl refl caused
    going_on silent caused = (_, refl)
