-- A server's node is the fold of its core's step over what its turns bring
use Rattle.std.proofs.Common.{◌≡◌, ℕ, Bool, true, false, not, cond, List, [], ◌∷◌, ◌++◌, refl, sym, ap, subst, ◌∙◌, append-nil, append_assoc}
use Rattle.std.proofs.lemmas.List.Elements.{filter-append}
use Rattle.std.specs.Prelude.{filter}
use Rattle.roc_io.specs.Packet.{Packet}
use Rattle.roc_msg.specs.declared.msg.Msg.{Msg}
use Rattle.roc_msg.specs.declared.msg.Msg.TheVariants.{Stop}
use Rattle.roc_msg.specs.declared.outbox.Outgoing.{Outgoing}
use Rattle.roc_plan.specs.Groups.{Plan}
use Rattle.roc_step.specs.Reads.{AnswersReads, ReadStep}
use Rattle.roc_step.specs.State.{ServerState, ServerStep, Viewing}
use Rattle.roc_step.specs.Step.{Handles}
use Rattle.roc_node.specs.Judgement.{judged}
use Rattle.roc_node.specs.declared.judging.Judged.{Judged}
use Rattle.roc_node.specs.declared.judging.Judged.TheVariants.{Delivery, Skipped}
use Rattle.roc_node.specs.NodeEvent.{NodeEvent, took, silent, NodeSetting}
use Rattle.roc_node_serve.specs.ServerRun.{ServerNodeState, is_stop, server_heard, server_received, TakesMessage, TakesJudged, AfterEvent, IsServerRunFrom, begun, goes_on}
use Rattle.roc_law_nodes.specs.Own.{OwnEvent, delivered, ticked, requested, stopped}
use Rattle.roc_law_nodes.specs.Fold.{ServerSteps, IsServerFoldFrom, server_begun, server_goes_on}
use Rattle.roc_law_nodes.specs.Turns.{judged_brings, turn_brings, turns_bring, is_for_core}
use Rattle.roc_law_nodes.proofs.WorldFolds.{server_as}

-- one turn more
pub turns_more : (tag : List ℕ) (events : List NodeEvent) (event : NodeEvent) → turns_bring tag (events ++ event ∷ []) ≡ turns_bring tag events ++ turn_brings tag event
turns_more tag [] event = append-nil (turn_brings tag event)
turns_more tag (e ∷ es) event = ap (λ l. turn_brings tag e ++ l) (turns_more tag es event) ∙ sym (append_assoc (turn_brings tag e) (turns_bring tag es) (turn_brings tag event))

abbrev pub for_core : List OwnEvent → List OwnEvent
for_core own = filter is_for_core own

-- what is for the core, with what one more turn brings
pub core_more : (tag : List ℕ) (events : List NodeEvent) (event : NodeEvent) → for_core (turns_bring tag (events ++ event ∷ [])) ≡ for_core (turns_bring tag events) ++ for_core (turn_brings tag event)
core_more tag events event = ap for_core (turns_more tag events event) ∙ filter-append is_for_core (turns_bring tag events) (turn_brings tag event)

pub of_message : (msg : Msg) (b : Bool) → is_stop msg ≡ b → for_core (delivered msg ∷ []) ≡ cond b [] (delivered msg ∷ [])
of_message msg true e = ap (λ (b : Bool). cond (not b) (delivered msg ∷ []) []) e
of_message msg false e = ap (λ (b : Bool). cond (not b) (delivered msg ∷ []) []) e

module _ (S : NodeSetting) (first : ServerNodeState) where
  -- what the core was given leads to this node
  abbrev Folds : List OwnEvent → ServerNodeState → Type 0
  Folds own node = IsServerFoldFrom S.plan first.state first.viewing first.messages own node.state node.viewing node.messages

  module _ (own : List OwnEvent) (node : ServerNodeState) (fold : Folds own node) where
    same_still : (next : ServerNodeState) (none : List OwnEvent) → none ≡ [] → next.state ≡ node.state → next.viewing ≡ node.viewing → next.messages ≡ node.messages → Folds (own ++ none) next
    same_still next none e state viewing messages = server_as S.plan fold (ap (λ l. own ++ l) e ∙ append-nil own) state viewing messages

    message_folds : (heard : ServerNodeState) (bytes : List ℕ) (msg : Msg) (next : ServerNodeState) → heard.state ≡ node.state → heard.viewing ≡ node.viewing → heard.messages ≡ node.messages → (b : Bool) → is_stop msg ≡ b
        → TakesMessage S heard b bytes msg next → Folds (own ++ for_core (delivered msg ∷ [])) next
    message_folds heard bytes msg next state viewing messages true e h =
        same_still next (for_core (delivered msg ∷ [])) (of_message msg true e) (ap (λ (n : ServerNodeState). n.state) h ∙ state) (ap (λ (n : ServerNodeState). n.viewing) h ∙ viewing) (ap (λ (n : ServerNodeState). n.messages) h ∙ messages)
    message_folds heard bytes msg next state viewing messages false e (r, q, handles, answers, is) =
        server_as S.plan
        (server_goes_on (delivered msg) r.state q.viewing (r.sends ++ q.sends) fold
        (r, q, subst (λ (s : ServerState). Handles S.plan s msg r) state handles, subst (λ (v : Viewing). AnswersReads S.plan v msg r q) viewing answers, refl, refl, refl))
        (ap (λ l. own ++ l) (of_message msg false e))
        (ap (λ (n : ServerNodeState). n.state) is)
        (ap (λ (n : ServerNodeState). n.viewing) is)
        (ap (λ (n : ServerNodeState). n.messages) is ∙ ap (λ l. l ++ (r.sends ++ q.sends)) messages)

    judged_folds : (packet : Packet) (j : Judged) (next : ServerNodeState) → TakesJudged S node packet j next → Folds (own ++ for_core (judged_brings j)) next
    judged_folds packet (Delivery header msg) next h = message_folds (server_heard node header packet.address) packet.bytes msg next refl refl refl (is_stop msg) refl h
    judged_folds packet (Skipped skip) next h = same_still next [] refl (ap (λ (n : ServerNodeState). n.state) h) (ap (λ (n : ServerNodeState). n.viewing) h) (ap (λ (n : ServerNodeState). n.messages) h)

    event_folds : (event : NodeEvent) (next : ServerNodeState) → AfterEvent S node event next → Folds (own ++ for_core (turn_brings S.header.tag event)) next
    event_folds (took packet) next h = judged_folds packet (judged S.header.tag packet.bytes) next h
    event_folds silent next h =
        server_as S.plan (server_goes_on ticked node.state node.viewing _ fold (refl, refl, refl)) refl (ap (λ (n : ServerNodeState). n.state) h) (ap (λ (n : ServerNodeState). n.viewing) h) (ap (λ (n : ServerNodeState). n.messages) h)

  pub run_folds : {events : List NodeEvent} {node : ServerNodeState} → IsServerRunFrom S first events node
      → IsServerFoldFrom S.plan first.state first.viewing first.messages (filter is_for_core (turns_bring S.header.tag events)) node.state node.viewing node.messages
  run_folds begun = server_begun
  run_folds (goes_on {events = events} {node = node} event next r going after) =
      server_as S.plan (event_folds (for_core (turns_bring S.header.tag events)) (server_received node event) (run_folds r) event next after) (core_more S.header.tag events event) refl refl refl

-- ---- a stop changes nothing

module _ (plan : Plan) (first : ServerState) (keeps : Viewing) (before : List Outgoing) where
  stop_does_nothing : (msg : Msg) (s : ServerState) (v : Viewing) (after : ServerState) (kept : Viewing) (outs : List Outgoing) → is_stop msg ≡ true → ServerSteps plan s v (delivered msg) after kept outs → (after ≡ s) × (kept ≡ v) × (outs ≡ [])
  stop_does_nothing Stop s v after kept outs e (r, q, handles, answers, state, views, sends) =
      let behind = subst (λ (r : ServerStep). AnswersReads plan v Stop r q) handles.is answers in (
        state ∙ ap (λ (r : ServerStep). r.state) handles.is,
        views ∙ ap (λ (q : ReadStep). q.viewing) behind.is,
        sends ∙ (ap (λ (r : ServerStep). r.sends ++ q.sends) handles.is ∙ ap (λ (q : ReadStep). q.sends) behind.is),
      )
  stop_does_nothing msg s v after kept outs e h = absurd (cc)

  module _ (front : List OwnEvent) (s : ServerState) (v : Viewing) (messages : List Outgoing) (fold : IsServerFoldFrom plan first keeps before front s v messages) where
    message_more : (msg : Msg) (after : ServerState) (kept : Viewing) (outs : List Outgoing) → ServerSteps plan s v (delivered msg) after kept outs → (b : Bool) → is_stop msg ≡ b
        → IsServerFoldFrom plan first keeps before (front ++ for_core (delivered msg ∷ [])) after kept (messages ++ outs)
    message_more msg after kept outs h true e =
        let none = stop_does_nothing msg s v after kept outs e h in
        server_as plan fold (ap (λ l. front ++ l) (of_message msg true e) ∙ append-nil front) none.0 none.1 (ap (λ l. messages ++ l) none.2 ∙ append-nil messages)
    message_more msg after kept outs h false e = server_as plan (server_goes_on (delivered msg) after kept outs fold h) (ap (λ l. front ++ l) (of_message msg false e)) refl refl refl

    own_more : (own : OwnEvent) (after : ServerState) (kept : Viewing) (outs : List Outgoing) → ServerSteps plan s v own after kept outs
        → IsServerFoldFrom plan first keeps before (front ++ for_core (own ∷ [])) after kept (messages ++ outs)
    own_more (delivered msg) after kept outs h = message_more msg after kept outs h (is_stop msg) refl
    own_more ticked after kept outs h = server_goes_on ticked after kept outs fold h
    own_more (requested proc args) after kept outs h = absurd h
    own_more (stopped at) after kept outs h = server_goes_on (stopped at) after kept outs fold h

  pub without_stops : {own : List OwnEvent} {s : ServerState} {v : Viewing} {messages : List Outgoing} → IsServerFoldFrom plan first keeps before own s v messages
      → IsServerFoldFrom plan first keeps before (filter is_for_core own) s v messages
  without_stops server_begun = server_begun
  without_stops (server_goes_on {events = events} {s = s} {v = v} {messages = messages} own after kept outs fold h) =
      server_as plan (own_more (for_core events) s v messages (without_stops fold) own after kept outs h) (filter-append is_for_core events (own ∷ [])) refl refl refl
