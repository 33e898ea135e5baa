-- What a server's node asked of its link before does not matter to what it does; and a step of its core.
use Rattle.std.proofs.Common.{◌≡◌, Bool, true, false, List, [], ◌++◌, Some, map, refl, sym, ◌∙◌, ap, subst, append-nil, Result, Ok, Err, IfOk}
use Rattle.roc_base.specs.declared.memory.NoMemory.{NoMemory}
use Rattle.roc_epoch.specs.declared.file.File.{File}
use Rattle.roc_grown.specs.declared.handled.GrownHandled.{GrownHandled}
use Rattle.roc_grown.specs.Server.{GrownHandles, GrownServerState, GrownStep, ShowsGrown, grown_server_tick}
use Rattle.roc_io.specs.Link.{LinkEvent, sending}
use Rattle.roc_io.specs.Packet.{Packet}
use Rattle.roc_msg.specs.declared.msg.Msg.{Msg}
use Rattle.roc_msg.specs.declared.outbox.Outgoing.{Outgoing}
use Rattle.roc_msg.specs.Outbox.{Collected}
use Rattle.roc_node.specs.Counts.{with_skip, with_taken}
use Rattle.roc_node.specs.declared.counts.Counts.{Counts}
use Rattle.roc_node.specs.declared.judging.Skip.{Skip}
use Rattle.roc_node.specs.NodeEvent.{NodeEvent, took, silent}
use Rattle.roc_node.specs.Posting.{Hearsay}
use Rattle.roc_node_serve.specs.ServerRun.{is_stop}
use Rattle.roc_wire.specs.declared.header.Header.{Header}
use Rattle.roc_grown_node.specs.declared.judging.GrownJudged.{GrownJudged}
use Rattle.roc_grown_node.specs.declared.judging.GrownJudged.TheVariants.{Delivery, Skipped}
use Rattle.roc_grown_node.specs.Judgement.{grown_judged}
use Rattle.roc_grown_node.specs.Posting.{Filed, filed, grown_packets_for}
use Rattle.roc_grown_node.specs.Setting.{GrownNodeSetting}
use Rattle.roc_grown_serve.specs.declared.server_node.GrownServerNode.{GrownServerNode}
use Rattle.roc_grown_serve.specs.declared.server_node.TurnOutput.{TurnOutput}
use Rattle.roc_grown_serve.specs.GrownRun.{GrownNodeState, TakesGrownMessage, TakesGrownJudged, AfterGrownEvent, grown_heard, with_grown_answer}
use Rattle.roc_grown_serve.specs.Inner.GrownTurn.{node_of, bare, Leads}

abbrev of : GrownServerState → List Filed → List LinkEvent → Hearsay → Counts → Bool → GrownNodeState
of s m p h c b = record { state = s; messages = m; traffic = p; heard = h; counts = c; stopped = b }

-- ---- what a node asked of its link before does not matter to what it does

-- the same, with these messages and this traffic before its own
abbrev pub continued : List Filed → List LinkEvent → GrownNodeState → GrownNodeState
continued messages traffic node = record node { messages = messages ++ node.messages; traffic = traffic ++ node.traffic }

module _ (messages : List Filed) (traffic : List LinkEvent) where
  of_none : (state : GrownServerState) (heard : Hearsay) (counts : Counts) (stopped : Bool)
      → continued messages traffic (of state [] [] heard counts stopped) ≡ of state messages traffic heard counts stopped
  of_none state heard counts stopped =
      ap (λ m. of state m (traffic ++ []) heard counts stopped) (append-nil messages) ∙ ap (λ p. of state messages p heard counts stopped) (append-nil traffic)

  message_behind : (S : GrownNodeSetting) (server_node : GrownServerNode) (stops : Bool) (file : File) (msg : Msg) (next : GrownNodeState)
      → TakesGrownMessage S (bare server_node) stops file msg next → TakesGrownMessage S (node_of server_node messages traffic false) stops file msg (continued messages traffic next)
  message_behind S server_node true file msg next h = ap (continued messages traffic) h ∙ of_none server_node.server server_node.heard _ true
  message_behind S server_node false file msg next h = (h.0, h.1, ap (continued messages traffic) h.2)

  judged_behind : (S : GrownNodeSetting) (server_node : GrownServerNode) (packet : Packet) (j : GrownJudged) (next : GrownNodeState)
      → TakesGrownJudged S (bare server_node) packet j next → TakesGrownJudged S (node_of server_node messages traffic false) packet j (continued messages traffic next)
  judged_behind S server_node packet (Delivery header file msg) next h =
      message_behind S (record server_node { heard = (grown_heard (bare server_node) header packet.address).heard }) (is_stop msg) file msg next h
  judged_behind S server_node packet (Skipped skip) next h = ap (continued messages traffic) h ∙ of_none server_node.server server_node.heard _ false

  pub event_behind : (S : GrownNodeSetting) (server_node : GrownServerNode) (event : NodeEvent) (next : GrownNodeState)
      → AfterGrownEvent S (bare server_node) event next → AfterGrownEvent S (node_of server_node messages traffic false) event (continued messages traffic next)
  event_behind S server_node (took packet) next h = judged_behind S server_node packet (grown_judged S server_node.server.switched packet.bytes) next h
  event_behind S server_node silent next h = ap (continued messages traffic) h

-- ---- a step of the core

same_node : (messages : List Filed) (s t : GrownServerState) (p q : List LinkEvent) (h i : Hearsay) (c d : Counts) (b e : Bool)
    → s ≡ t → p ≡ q → h ≡ i → c ≡ d → b ≡ e → of s messages p h c b ≡ of t messages q i d e
same_node messages s t p q h i c d b e s1 p1 h1 c1 b1 = λ j. of (s1 j) messages (p1 j) (h1 j) (c1 j) (b1 j)

-- what goes out for these messages
went_out : (S : GrownNodeSetting) (heard : Hearsay) (items : List Packet) (b c : Bool) (outs sends : List Outgoing) → items ≡ grown_packets_for S b heard outs → b ≡ c → outs ≡ sends
    → map sending items ≡ map sending (grown_packets_for S c heard sends)
went_out S heard items b c outs sends is switched same = ap (map sending) (is ∙ λ j. grown_packets_for S (switched j) heard (same j))

-- with the same server
pub same_server : (server_node : GrownServerNode) (server : GrownServerState) → server ≡ server_node.server → record server_node { server = server } ≡ server_node
same_server server_node server is = ap (λ s. record server_node { server = s }) is

-- a tick
pub ticked : (S : GrownNodeSetting) (old new : GrownServerNode) (output : TurnOutput) (out_old out_new : Collected) (outs : List Outgoing) (switched : Bool)
    → out_new.messages ≡ out_old.messages ++ grown_server_tick old.server → out_old.messages ≡ [] → new ≡ old → outs ≡ out_new.messages → switched ≡ old.server.switched
    → output.stopped ≡ false → output.sends.items ≡ grown_packets_for S switched old.heard outs → Leads (AfterGrownEvent S (bare old) silent) new output
ticked S old new output out_old out_new outs switched sends none same lent is stops posts =
    let ticks = grown_server_tick old.server in
    let gained : outs ≡ ticks = lent ∙ sends ∙ ap (λ l. l ++ ticks) none in
    let messages = map (filed old.server.switched) ticks in record {
      messages = messages;
      is = ap (λ n. node_of n messages (map sending output.sends.items) output.stopped) same
          ∙ same_node messages _ _ _ _ _ _ _ _ _ _ refl (went_out S old.heard output.sends.items switched old.server.switched outs ticks posts is gained) refl refl stops;
    }

-- the same of what a call gave
pub tick_leads : (S : GrownNodeSetting) (old new : GrownServerNode) (result : Result TurnOutput NoMemory) (out_old out_new : Collected) (outs : List Outgoing) (switched : Bool)
    → out_new.messages ≡ out_old.messages ++ grown_server_tick old.server → out_old.messages ≡ [] → new ≡ old → outs ≡ out_new.messages → switched ≡ old.server.switched
    → IfOk result (λ output. output.stopped ≡ false) → IfOk result (λ output. output.sends.items ≡ grown_packets_for S switched old.heard outs)
    → IfOk result (Leads (AfterGrownEvent S (bare old) silent) new)
tick_leads S old new (Ok output) out_old out_new outs switched sends none same lent is stops posts = ticked S old new output out_old out_new outs switched sends none same lent is stops posts
tick_leads S old new (Err fault) out_old out_new outs switched sends none same lent is stops posts = tt

-- a step
pub stepped : (S : GrownNodeSetting) (old new : GrownServerNode) (output : TurnOutput) (file : File) (msg : Msg) (answer : GrownHandled) (out_old out_new : Collected) (outs : List Outgoing)
    (switched : Bool)
    → (g : GrownStep) × GrownHandles S.plan (Some S.next) old.server file msg g × ShowsGrown g answer new.server out_old out_new
    → out_old.messages ≡ [] → outs ≡ out_new.messages → switched ≡ new.server.switched → new.heard ≡ old.heard → new.counts ≡ with_grown_answer old.counts answer → output.stopped ≡ false
    → output.sends.items ≡ grown_packets_for S switched old.heard outs
    → Leads (TakesGrownMessage S (bare old) false file msg) new output
stepped S old new output file msg answer out_old out_new outs switched step none lent is heard counts stopped sends =
    let g = step.0 in let shows = step.2 in
    let gained : outs ≡ g.sends = lent ∙ shows.sends ∙ ap (λ l. l ++ g.sends) none in
    let over : switched ≡ g.state.switched = is ∙ sym (ap (λ (s : GrownServerState). s.switched) shows.keeps) in record {
      messages = map (filed g.state.switched) g.sends;
      is = (
        g,
        step.1,
        same_node (map (filed g.state.switched) g.sends) _ _ _ _ _ _ _ _ _ _ (sym shows.keeps)
            (went_out S old.heard output.sends.items switched g.state.switched outs g.sends sends over gained) heard (counts ∙ ap (with_grown_answer old.counts) (sym shows.answers)) stopped,
      );
    }

-- a stop
pub stopped_by : (S : GrownNodeSetting) (old new : GrownServerNode) (output : TurnOutput) (file : File) (msg : Msg) (stops : Bool) → stops ≡ true → new.server ≡ old.server
    → new.heard ≡ old.heard → new.counts ≡ with_taken old.counts → output.stopped ≡ true → output.sends.items ≡ []
    → Leads (TakesGrownMessage S (bare old) stops file msg) new output
stopped_by S old new output file msg stops is server heard counts stopped sends = subst (λ b. Leads (TakesGrownMessage S (bare old) b file msg) new output) (sym is) (record {
  messages = [];
  is = same_node [] _ _ _ _ _ _ _ _ _ _ server (ap (map sending) sends) heard counts stopped;
})

-- a message for the core
pub core_leads : (S : GrownNodeSetting) (old new : GrownServerNode) (result : Result TurnOutput NoMemory) (file : File) (msg : Msg) (stops : Bool) → stops ≡ false
    → IfOk result (Leads (TakesGrownMessage S (bare old) false file msg) new) → IfOk result (Leads (TakesGrownMessage S (bare old) stops file msg) new)
core_leads S old new result file msg stops is leads = subst (λ b. IfOk result (Leads (TakesGrownMessage S (bare old) b file msg) new)) (sym is) leads

-- a datagram that is skipped
pub skip_leads : (S : GrownNodeSetting) (old new : GrownServerNode) (output : TurnOutput) (packet : Packet) (skip : Skip) → grown_judged S old.server.switched packet.bytes ≡ Skipped skip
    → new.server ≡ old.server → new.heard ≡ old.heard → new.counts ≡ with_skip old.counts skip → output.stopped ≡ false → output.sends.items ≡ []
    → Leads (AfterGrownEvent S (bare old) (took packet)) new output
skip_leads S old new output packet skip judges server heard counts stopped sends = record {
  messages = [];
  is = subst (λ j. TakesGrownJudged S (bare old) packet j (node_of new [] (map sending output.sends.items) output.stopped)) (sym judges)
      (same_node [] _ _ _ _ _ _ _ _ _ _ server (ap (map sending) sends) heard counts stopped);
}

-- one that is a delivery
pub delivery_leads : (S : GrownNodeSetting) (old heard new : GrownServerNode) (result : Result TurnOutput NoMemory) (packet : Packet) (header : Header) (file : File) (msg : Msg)
    → grown_judged S old.server.switched packet.bytes ≡ Delivery header file msg → bare heard ≡ grown_heard (bare old) header packet.address
    → IfOk result (Leads (TakesGrownMessage S (bare heard) (is_stop msg) file msg) new) → IfOk result (Leads (AfterGrownEvent S (bare old) (took packet)) new)
delivery_leads S old heard new result packet header file msg judges hears leads =
    subst (λ j. IfOk result (Leads (TakesGrownJudged S (bare old) packet j) new)) (sym judges)
    (subst (λ n. IfOk result (Leads (TakesGrownMessage S n (is_stop msg) file msg) new)) hears leads)
