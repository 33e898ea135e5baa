-- A node's run is a fold of its core's steps.
use Rattle.std.proofs.Common.{◌≡◌, ◌≢◌, Bool, true, false, List, [], ◌∷◌, ◌++◌, Option, Some, None, map, refl, sym, ◌∙◌, ap, subst, append-nil}
use Rattle.std.proofs.lemmas.Bool.{false≢true}
use Rattle.std.specs.Prelude.{if◌then◌else◌, nat_lt}
use Rattle.roc_base.specs.declared.id.TxnId.{TxnId}
use Rattle.roc_epoch.specs.declared.file.File.{File}
use Rattle.roc_epoch.specs.declared.file.File.TheVariants.{Neither}
use Rattle.roc_epoch.specs.declared.next.Next.{Next}
use Rattle.roc_epoch.specs.Files.{file_of, own_file}
use Rattle.roc_grown.specs.declared.handled.GrownHandled.{GrownHandled}
use Rattle.roc_grown.specs.declared.handled.GrownHandled.TheVariants as answer
use Rattle.roc_grown.specs.Server.{GrownHandles, GrownServerState, GrownStep, handled_so, over_if_all, told_drained, after_drained, have_all_drained, taken_at, gone_over}
use Rattle.roc_grown.specs.Server.{of_drained, of_switched, of_other, of_own, foreign_at, grown_server_tick, switched_sends, switched_to, with_drained}
use Rattle.roc_io.specs.Packet.{Packet}
use Rattle.roc_msg.specs.declared.msg.Msg.{Msg}
use Rattle.roc_node.specs.NodeEvent.{NodeEvent, took, silent}
use Rattle.roc_node_serve.specs.ServerRun.{is_stop}
use Rattle.roc_step.specs.declared.handled.Handled.{Handled}
use Rattle.roc_step.specs.declared.handled.Handled.TheVariants as core
use Rattle.roc_wire.specs.declared.header.Header.{Header}
use Rattle.roc_grown_node.specs.declared.judging.GrownJudged.{GrownJudged}
use Rattle.roc_grown_node.specs.declared.judging.GrownJudged.TheVariants.{Delivery, Skipped}
use Rattle.roc_grown_node.specs.Judgement.{grown_judged}
use Rattle.roc_grown_node.specs.Posting.{Filed, filed}
use Rattle.roc_grown_node.specs.Setting.{GrownNodeSetting}
use Rattle.roc_grown_node.proofs.Judged.{delivered_file}
use Rattle.roc_grown_serve.specs.Fold.{Brought, came, CoreSteps, IsCoreFold, event_brings, grown_judged_brings, no_event, one_event_more}
use Rattle.roc_grown_serve.specs.GrownRun.{GrownNodeState, AfterGrownEvent, IsGrownRunFrom, TakesGrownJudged, TakesGrownMessage, begun, goes_on, grown_heard, grown_received}

-- ---- a core skips no delivery

abbrev is_skip : GrownHandled → Bool
is_skip answer.Skipped = true
is_skip answer.Done = false
is_skip answer.Gone = false
is_skip (answer.Ignored why) = false

handled_is_no_skip : (h : Handled) → is_skip (handled_so h) ≡ false
handled_is_no_skip core.Done = refl
handled_is_no_skip core.Gone = refl
handled_is_no_skip (core.Ignored why) = refl

over_is_no_skip : (next : Next) (s : GrownServerState) → is_skip ((over_if_all next s).answer) ≡ false
over_is_no_skip next s = go (have_all_drained next.coords s.drained) where
  go : (b : Bool) → is_skip ((if b then taken_at (gone_over s) (switched_sends s.core.shard next.coords s.drained) else taken_at s []).answer) ≡ false
  go true = refl
  go false = refl

told_is_no_skip : (next : Next) (s : GrownServerState) (upto : TxnId) → is_skip ((told_drained next s upto).answer) ≡ false
told_is_no_skip next s upto = go s.switched where
  go : (b : Bool)
      → is_skip ((if b then taken_at s (switched_to s.core.shard upto ∷ []) else over_if_all next (record s { drained = with_drained upto s.drained })).answer) ≡ false
  go true = refl
  go false = over_is_no_skip next (record s { drained = with_drained upto s.drained })

drained_is_no_skip : (next : Next) (s : GrownServerState) (upto : TxnId) → is_skip ((after_drained (Some next) s upto).answer) ≡ false
drained_is_no_skip next s upto = go (nat_lt upto.coord next.coords) where
  go : (b : Bool) → is_skip ((if b then told_drained next s upto else foreign_at s).answer) ≡ false
  go true = told_is_no_skip next s upto
  go false = refl

module _ (S : GrownNodeSetting) (s : GrownServerState) (file : File) where
  no_skip : {msg : Msg} {g : GrownStep} → GrownHandles S.plan (Some S.next) s file msg g → file ≡ file_of s.switched msg → is_skip (g.answer) ≡ false
  no_skip (of_drained upto g e) is = ap (λ (g : GrownStep). is_skip (g.answer)) e ∙ drained_is_no_skip S.next s upto
  no_skip (of_switched upto shard g e) is = ap (λ (g : GrownStep). is_skip (g.answer)) e
  no_skip (of_other msg g none other e) is = absurd (other (is ∙ ap (λ b. if b then Neither else own_file s.switched) none))
  no_skip (of_own msg r q g none own handles reads e) is = ap (λ (g : GrownStep). is_skip (g.answer)) e ∙ handled_is_no_skip r.answer

  pub not_skipped : (msg : Msg) (g : GrownStep) → GrownHandles S.plan (Some S.next) s file msg g → file ≡ file_of s.switched msg → g.answer ≢ answer.Skipped
  not_skipped msg g h is skips = false≢true (sym (no_skip h is) ∙ ap is_skip skips)

-- ---- a run is a fold

-- what an event brings leads the core there, and it sends what the node has more
abbrev Leads : GrownNodeSetting → (node next : GrownNodeState) → Option Brought → Type 0
Leads S node next brought = (outs : List Filed) × CoreSteps S node.state brought next.state outs × (next.messages ≡ node.messages ++ outs)

module _ (S : GrownNodeSetting) (node next : GrownNodeState) where
  message_leads : (file : File) (msg : Msg) → file ≡ file_of node.state.switched msg → (packet : Packet) (header : Header) (stops : Bool)
      → TakesGrownMessage S (grown_heard node header packet.address) stops file msg next → Leads S node next (if stops then None else Some (came file msg))
  message_leads file msg is packet header true h =
      ([], (ap (λ (n : GrownNodeState). n.state) h, refl), ap (λ (n : GrownNodeState). n.messages) h ∙ sym (append-nil node.messages))
  message_leads file msg is packet header false h =
      let g = h.0 in
      (map (filed g.state.switched) g.sends, (g, h.1, not_skipped S node.state file msg g h.1 is, ap (λ (n : GrownNodeState). n.state) h.2, refl), ap (λ (n : GrownNodeState). n.messages) h.2)

  judged_leads : (packet : Packet) (j : GrownJudged) → grown_judged S node.state.switched packet.bytes ≡ j → TakesGrownJudged S node packet j next → Leads S node next (grown_judged_brings j)
  judged_leads packet (Delivery header file msg) is h =
      message_leads file msg (delivered_file S node.state.switched packet.bytes header file msg is) packet header (is_stop msg) h
  judged_leads packet (Skipped skip) is h = ([], (ap (λ (n : GrownNodeState). n.state) h, refl), ap (λ (n : GrownNodeState). n.messages) h ∙ sym (append-nil node.messages))

  event_leads : (event : NodeEvent) → AfterGrownEvent S node event next → Leads S node next (event_brings S node.state.switched event)
  event_leads (took packet) h = judged_leads packet (grown_judged S node.state.switched packet.bytes) refl h
  event_leads silent h =
      (map (filed node.state.switched) (grown_server_tick node.state), (ap (λ (n : GrownNodeState). n.state) h, refl), ap (λ (n : GrownNodeState). n.messages) h)

pub folds : (S : GrownNodeSetting) (first : GrownNodeState) {events : List NodeEvent} {node : GrownNodeState} → IsGrownRunFrom S first events node → first.messages ≡ []
    → IsCoreFold S first.state events node.state node.messages
folds S first begun none = subst (IsCoreFold S first.state [] first.state) (sym none) no_event
folds S first (goes_on {events = events} {node = node} event next run goes after) none =
    let led = event_leads S (grown_received node event) next event after in
    subst (IsCoreFold S first.state (events ++ event ∷ []) next.state) (sym led.2) (one_event_more event next.state led.0 (folds S first run none) led.1)
