-- What a server's node logs is what its turns bring
use Rattle.std.proofs.Common.{◌≡◌, ℕ, Bool, true, false, List, [], ◌∷◌, ◌++◌, Ok, refl, sym, subst, inl, append-nil}
use Rattle.roc_sequence.proofs.Members.{has_left, has_right}
use Rattle.roc_io.specs.Packet.{Packet}
use Rattle.roc_msg.specs.declared.msg.Msg.{Msg}
use Rattle.roc_msg.specs.declared.msg.Msg.TheVariants.{Stop}
use Rattle.roc_wire.specs.declared.header.Header.{Header}
use Rattle.roc_wire.specs.Laws.{Spells}
use Rattle.roc_wire.specs.Reading.{datagram, pair}
use Rattle.roc_step.specs.Runs.{accesses_of}
use Rattle.roc_step.specs.Step.{tick_sends}
use Rattle.roc_log.specs.declared.line.LogLine.TheVariants.{In, Tick}
use Rattle.roc_log.specs.Sent.{outs_logged}
use Rattle.roc_node.specs.Judgement.{judged}
use Rattle.roc_node.specs.declared.judging.Judged.{Judged}
use Rattle.roc_node.specs.declared.judging.Judged.TheVariants.{Delivery, Skipped}
use Rattle.roc_node.specs.NodeEvent.{NodeEvent, took, silent, NodeSetting}
use Rattle.roc_node_serve.specs.ServerRun.{ServerNodeState, is_stop, server_received, server_stopped, server_heard}
use Rattle.roc_node_serve.specs.ServerRun.{TakesMessage, TakesJudged, AfterEvent, IsServerRunFrom, begun, goes_on}
use Rattle.roc_fold.specs.Fold.{Core, serving, GivenByEvent}
use Rattle.roc_law_audit.proofs.Stopped.{tagged_brings, idle, stop_gives}
use Rattle.roc_law_nodes.specs.Own.{OwnEvent, delivered, ticked}
use Rattle.roc_law_nodes.specs.Turns.{judged_brings, turn_brings, turns_bring, SpellsDelivery}
use Rattle.roc_law_nodes.proofs.NodeLogs.{AreLogged, none_logged, logs_more, logged_as, only_stop, AllSpell, SpellsWhatItBrings}
use Rattle.roc_law_nodes.proofs.ServerFolds.{turns_more}

module _ (reads : (bytes : List ℕ) (header : Header) (msg : Msg) → Spells bytes header msg → datagram bytes ≡ Ok (pair header msg)) (S : NodeSetting) (first : ServerNodeState) where
  abbrev tag : List ℕ
  tag = S.header.tag

  abbrev core_of : ServerNodeState → Core
  core_of node = serving node.state node.viewing

  -- these own events lead to the node's core, and its lines are logged
  abbrev Leads : List OwnEvent → ServerNodeState → Type 0
  Leads own node = AreLogged S.plan S.header (core_of first) own (core_of node) node.logged

  module _ (own : List OwnEvent) (node : ServerNodeState) (l : Leads own node) where
    stop_logs : (bytes : List ℕ) → SpellsDelivery tag bytes Stop → Leads (own ++ delivered Stop ∷ []) (server_stopped node bytes)
    stop_logs bytes s =
        logs_more (delivered Stop) (In bytes) (idle (core_of node)) l (bytes, s, refl)
        (Stop, tagged_brings reads tag bytes s.header Stop s.tagged s.spells, stop_gives S.plan S.header node.state node.viewing)

    message_logs : (bytes : List ℕ) (msg : Msg) (next : ServerNodeState) → SpellsDelivery tag bytes msg → (b : Bool) → is_stop msg ≡ b → TakesMessage S node b bytes msg next
        → Leads (own ++ delivered msg ∷ []) next
    message_logs bytes msg next s true e h =
        let is = only_stop msg e in
        subst (Leads (own ++ delivered msg ∷ [])) (sym h)
        (subst (λ (m : Msg). Leads (own ++ delivered m ∷ []) (server_stopped node bytes)) (sym is) (stop_logs bytes (subst (SpellsDelivery tag bytes) is s)))
    message_logs bytes msg next s false e (r, q, handles, answers, is) =
        let g : GivenByEvent = record { core = serving r.state q.viewing; due = outs_logged S.header (r.sends ++ q.sends); decided = r.decided; ran = accesses_of r.ran } in
        subst (Leads (own ++ delivered msg ∷ [])) (sym is)
        (logs_more (delivered msg) (In bytes) g l (bytes, s, refl)
        (msg, tagged_brings reads tag bytes s.header msg s.tagged s.spells, record { step = r; reads = q; handles = handles; answers = answers; is = refl }))

  module _ (own : List OwnEvent) (node : ServerNodeState) (l : Leads own node) where
    judged_logs : (packet : Packet) (j : Judged) (next : ServerNodeState) → ((header : Header) (msg : Msg) → j ≡ Delivery header msg → SpellsDelivery tag packet.bytes msg)
        → TakesJudged S node packet j next → Leads (own ++ judged_brings j) next
    judged_logs packet (Delivery header msg) next spells h = message_logs own (server_heard node header packet.address) l packet.bytes msg next (spells header msg refl) (is_stop msg) refl h
    judged_logs packet (Skipped skip) next spells h = subst (Leads (own ++ [])) (sym h) (logged_as l (append-nil own) refl refl)

    turn_logs : (event : NodeEvent) (next : ServerNodeState) → ((packet : Packet) → took packet ≡ event → SpellsWhatItBrings tag packet.bytes) → AfterEvent S node event next
        → Leads (own ++ turn_brings tag event) next
    turn_logs (took packet) next spells h = judged_logs packet (judged tag packet.bytes) next (spells packet refl) h
    turn_logs silent next spells h =
        let g : GivenByEvent = record { core = core_of node; due = outs_logged S.header (tick_sends node.state); decided = []; ran = [] } in
        subst (Leads (own ++ ticked ∷ [])) (sym h) (logs_more ticked Tick g l refl refl)

  pub server_run_logs : {events : List NodeEvent} {node : ServerNodeState} → first.logged ≡ [] → IsServerRunFrom S first events node → AllSpell tag events → Leads (turns_bring tag events) node
  server_run_logs none begun spell = logged_as none_logged refl refl none
  server_run_logs none (goes_on {events = events} {node = node} event next r going after) spell =
      let before = server_run_logs none r (λ packet h. spell packet (has_left (took packet) events (event ∷ []) h)) in
      subst (λ (x : List OwnEvent). Leads x next) (sym (turns_more tag events event))
      (turn_logs (turns_bring tag events) (server_received node event) before event next (λ packet e. spell packet (has_right (took packet) events (event ∷ []) (inl e))) after)
