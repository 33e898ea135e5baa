-- What a server's node asked of its link before does not matter to what it does; and a step of its core.
use Rattle.std.proofs.Common.{◌≡◌, ℕ, Bool, true, false, List, [], ◌∷◌, ◌++◌, map, refl, sym, ◌∙◌, ap, subst, append-nil, Result, Ok, Err, IfOk}
use Rattle.roc_base.specs.declared.memory.NoMemory.{NoMemory}
use Rattle.roc_io.specs.Link.{LinkEvent, sending}
use Rattle.roc_io.specs.Packet.{Packet}
use Rattle.roc_kept.specs.declared.fault.KeptFault.{KeptFault}
use Rattle.roc_kept.specs.declared.kept.KeptServer.{KeptServer}
use Rattle.roc_log.specs.declared.line.LogLine.{LogLine}
use Rattle.roc_log.specs.declared.line.LogLine.TheVariants.{In, Tick}
use Rattle.roc_log.specs.Sent.{outs_logged}
use Rattle.roc_msg.specs.declared.msg.Msg.{Msg}
use Rattle.roc_msg.specs.declared.outbox.Outgoing.{Outgoing}
use Rattle.roc_msg.specs.Outbox.{Collected}
use Rattle.roc_step.specs.declared.handled.Handled.{Handled}
use Rattle.roc_step.specs.Step.{Handles, Shows, tick_sends}
use Rattle.roc_step.specs.Reads.{AnswersReads, ReadStep}
use Rattle.roc_step.specs.State.{ServerState, ServerStep, Viewing}
use Rattle.roc_node.specs.Posting.{Hearsay, packets_for}
use Rattle.roc_node.specs.Judgement.{judged}
use Rattle.roc_node.specs.declared.judging.Judged.{Judged}
use Rattle.roc_node.specs.declared.judging.Judged.TheVariants.{Delivery, Skipped}
use Rattle.roc_node.specs.declared.judging.Skip.{Skip}
use Rattle.roc_node.specs.declared.counts.Counts.{Counts}
use Rattle.roc_node.specs.Counts.{with_skip, with_taken}
use Rattle.roc_node.specs.NodeEvent.{NodeEvent, took, silent, NodeSetting}
use Rattle.roc_node_serve.specs.declared.server_node.ServerNode.{ServerNode}
use Rattle.roc_node_serve.specs.declared.server_node.TurnOutput.{TurnOutput}
use Rattle.roc_node_serve.specs.ServerRun.{ServerNodeState, TakesMessage, TakesJudged, AfterEvent, is_stop, server_heard, with_answer}
use Rattle.roc_node_serve.specs.Inner.LogTurn.{text_for}
use Rattle.roc_node_serve.specs.Inner.ServerTurn.{node_of, bare, Leads}
use Rattle.roc_node_serve.proofs.Logs.{no_text}

-- ---- what a node asked of its link before does not matter to what it does

-- the same, with these messages, this traffic and these lines before its own
abbrev pub continued : List Outgoing → List LinkEvent → List LogLine → ServerNodeState → ServerNodeState
continued messages traffic logged node = record node { messages = messages ++ node.messages; traffic = traffic ++ node.traffic; logged = logged ++ node.logged }

module _ (messages : List Outgoing) (traffic : List LinkEvent) (logged : List LogLine) where
  abbrev of : ServerState → Viewing → List Outgoing → List LinkEvent → List LogLine → Hearsay → Counts → Bool → ServerNodeState
  of s v m p l h c b = record { state = s; viewing = v; messages = m; traffic = p; logged = l; heard = h; counts = c; stopped = b }

  of_none : (state : ServerState) (v : Viewing) (lines all : List LogLine) (heard : Hearsay) (counts : Counts) (stopped : Bool) → logged ++ lines ≡ all
      → continued messages traffic logged (of state v [] [] lines heard counts stopped) ≡ of state v messages traffic all heard counts stopped
  of_none state v lines all heard counts stopped is =
      ap (λ m. of state v m (traffic ++ []) (logged ++ lines) heard counts stopped) (append-nil messages)
      ∙ ap (λ p. of state v messages p (logged ++ lines) heard counts stopped) (append-nil traffic)
      ∙ ap (λ l. of state v messages traffic l heard counts stopped) is

  message_behind : (S : NodeSetting) (server_node : ServerNode) (stops : Bool) (bytes : List ℕ) (msg : Msg) (next : ServerNodeState)
      → TakesMessage S (bare server_node) stops bytes msg next → TakesMessage S (node_of server_node messages traffic logged false) stops bytes msg (continued messages traffic logged next)
  message_behind S server_node true bytes msg next h =
      ap (continued messages traffic logged) h ∙ of_none server_node.server.server.state server_node.server.server.viewing (In bytes ∷ []) _ server_node.heard _ true refl
  message_behind S server_node false bytes msg next h = (h.0, h.1, h.2, h.3, ap (continued messages traffic logged) h.4)

  judged_behind : (S : NodeSetting) (server_node : ServerNode) (packet : Packet) (j : Judged) (next : ServerNodeState)
      → TakesJudged S (bare server_node) packet j next → TakesJudged S (node_of server_node messages traffic logged false) packet j (continued messages traffic logged next)
  judged_behind S server_node packet (Delivery header msg) next h =
      message_behind S (record server_node { heard = (server_heard (bare server_node) header packet.address).heard }) (is_stop msg) packet.bytes msg next h
  judged_behind S server_node packet (Skipped skip) next h =
      ap (continued messages traffic logged) h
      ∙ of_none server_node.server.server.state server_node.server.server.viewing [] logged server_node.heard _ false (append-nil logged)

  pub event_behind : (S : NodeSetting) (server_node : ServerNode) (event : NodeEvent) (next : ServerNodeState)
      → AfterEvent S (bare server_node) event next → AfterEvent S (node_of server_node messages traffic logged false) event (continued messages traffic logged next)
  event_behind S server_node (took packet) next h = judged_behind S server_node packet (judged S.header.tag packet.bytes) next h
  event_behind S server_node silent next h = ap (continued messages traffic logged) h

-- ---- a step of the core

abbrev made : List Outgoing → List LogLine → ServerState → Viewing → List LinkEvent → Hearsay → Counts → Bool → ServerNodeState
made messages lines s v p h c b = record { state = s; viewing = v; messages = messages; traffic = p; logged = lines; heard = h; counts = c; stopped = b }

same_node : (messages : List Outgoing) (lines : List LogLine) (s t : ServerState) (v w : Viewing) (p q : List LinkEvent) (h i : Hearsay) (c d : Counts) (b e : Bool)
    → s ≡ t → v ≡ w → p ≡ q → h ≡ i → c ≡ d → b ≡ e
    → made messages lines s v p h c b ≡ made messages lines t w q i d e
same_node messages lines s t v w p q h i c d b e s1 v1 p1 h1 c1 b1 = λ j. made messages lines (s1 j) (v1 j) (p1 j) (h1 j) (c1 j) (b1 j)

-- what is logged for what an outbox gained
gained_text : (logs : Bool) (S : NodeSetting) (line : LogLine) (text : List ℕ) (outs sends : List Outgoing) → text ≡ text_for logs S.plan.program (line ∷ outs_logged S.header outs) → outs ≡ sends
    → text ≡ text_for logs S.plan.program (line ∷ outs_logged S.header sends)
gained_text logs S line text outs sends is same = is ∙ ap (λ l. text_for logs S.plan.program (line ∷ outs_logged S.header l)) same

-- with the same server
pub same_server : (server_node : ServerNode) (server : KeptServer) → server ≡ server_node.server → record server_node { server = server } ≡ server_node
same_server server_node server is = ap (λ s. record server_node { server = s }) is

-- a tick
pub ticked : (logs : Bool) (S : NodeSetting) (old new : ServerNode) (output : TurnOutput) (out_old out_new : Collected)
    → out_new.messages ≡ out_old.messages ++ tick_sends old.server.server.state
    → out_old.messages ≡ [] → new ≡ old → output.stopped ≡ false
    → output.sends.items ≡ packets_for S.header S.cluster old.heard out_new.messages → output.log.items ≡ text_for logs S.plan.program (Tick ∷ outs_logged S.header out_new.messages)
    → Leads logs S (AfterEvent S (bare old) silent) new output
ticked logs S old new output out_old out_new sends none same stops posts text =
    let ticks = tick_sends old.server.server.state in
    let gained : out_new.messages ≡ ticks = sends ∙ ap (λ l. l ++ ticks) none in
    let lines = Tick ∷ outs_logged S.header ticks in record {
      messages = ticks;
      lines = lines;
      is = ap (λ n. node_of n ticks (map sending output.sends.items) lines output.stopped) same
          ∙ ap (λ b. node_of old ticks (map sending output.sends.items) lines b) stops
          ∙ ap (λ l. node_of old ticks (map sending l) lines false) (posts ∙ ap (packets_for S.header S.cluster old.heard) gained);
      text = gained_text logs S Tick output.log.items _ _ text gained;
    }

-- the same of what a call gave
pub tick_leads : (logs : Bool) (S : NodeSetting) (old new : ServerNode) (result : Result TurnOutput NoMemory) (out_old out_new : Collected) (outs : List Outgoing)
    → out_new.messages ≡ out_old.messages ++ tick_sends old.server.server.state
    → out_old.messages ≡ [] → new ≡ old → outs ≡ out_new.messages → IfOk result (λ output. output.stopped ≡ false)
    → IfOk result (λ output. output.sends.items ≡ packets_for S.header S.cluster old.heard outs)
    → IfOk result (λ output. output.log.items ≡ text_for logs S.plan.program (Tick ∷ outs_logged S.header outs))
    → IfOk result (Leads logs S (AfterEvent S (bare old) silent) new)
tick_leads logs S old new (Ok output) out_old out_new outs sends none same lent stops posts text =
    ticked logs S old new output out_old out_new sends none same stops (posts ∙ ap (packets_for S.header S.cluster old.heard) lent)
    (gained_text logs S Tick output.log.items outs out_new.messages text lent)
tick_leads logs S old new (Err fault) out_old out_new outs sends none same lent stops posts text = tt

-- a step
pub stepped : (logs : Bool) (S : NodeSetting) (old new : ServerNode) (output : TurnOutput) (bytes : List ℕ) (msg : Msg) (answer : Handled) (out_old out_new : Collected) (outs : List Outgoing)
    → (r : ServerStep) × (q : ReadStep) × Handles S.plan old.server.server.state msg r × AnswersReads S.plan old.server.server.viewing msg r q
    × Shows r q answer new.server.server.state new.server.server.viewing out_old out_new
    → out_old.messages ≡ [] → outs ≡ out_new.messages → new.heard ≡ old.heard → new.counts ≡ with_answer old.counts answer → output.stopped ≡ false
    → output.sends.items ≡ packets_for S.header S.cluster old.heard outs
    → output.log.items ≡ text_for logs S.plan.program (In bytes ∷ outs_logged S.header outs)
    → Leads logs S (TakesMessage S (bare old) false bytes msg) new output
stepped logs S old new output bytes msg answer out_old out_new outs step none lent heard counts stopped sends text =
    let r = step.0 in let q = step.1 in let shows = step.4 in
    let gained : outs ≡ r.sends ++ q.sends = lent ∙ shows.sends ∙ ap (λ l. l ++ (r.sends ++ q.sends)) none in
    let lines = In bytes ∷ outs_logged S.header (r.sends ++ q.sends) in record {
      messages = r.sends ++ q.sends;
      lines = lines;
      is = (
        r,
        q,
        step.2,
        step.3,
        same_node (r.sends ++ q.sends) lines _ _ _ _ _ _ _ _ _ _ _ _ (sym shows.keeps) (sym shows.views)
            (ap (map sending) (sends ∙ ap (packets_for S.header S.cluster old.heard) gained)) heard (counts ∙ ap (with_answer old.counts) (sym shows.answers)) stopped,
      );
      text = gained_text logs S (In bytes) output.log.items _ _ text gained;
    }

-- a stop
pub stopped_by : (logs : Bool) (S : NodeSetting) (old new : ServerNode) (output : TurnOutput) (bytes : List ℕ) (msg : Msg) (stops : Bool) → stops ≡ true → new.server ≡ old.server
    → new.heard ≡ old.heard → new.counts ≡ with_taken old.counts → (output.stopped ≡ true) × (output.sends.items ≡ [])
    → output.log.items ≡ text_for logs S.plan.program (In bytes ∷ []) → Leads logs S (TakesMessage S (bare old) stops bytes msg) new output
stopped_by logs S old new output bytes msg stops is server heard counts given text = subst (λ b. Leads logs S (TakesMessage S (bare old) b bytes msg) new output) (sym is) (record {
  messages = [];
  lines = In bytes ∷ [];
  is = same_node [] (In bytes ∷ []) _ _ _ _ _ _ _ _ _ _ _ _ (ap (λ (k : KeptServer). k.server.state) server) (ap (λ (k : KeptServer). k.server.viewing) server)
      (ap (map sending) given.1) heard counts given.0;
  text = text;
})

-- the same of what a call gave
pub stop_leads : (logs : Bool) (S : NodeSetting) (old new : ServerNode) (result : Result TurnOutput KeptFault) (bytes : List ℕ) (msg : Msg) (stops : Bool) → stops ≡ true
    → new.server ≡ old.server → new.heard ≡ old.heard → IfOk result (λ output. new.counts ≡ with_taken old.counts)
    → IfOk result (λ output. (output.stopped ≡ true) × (output.sends.items ≡ [])) → IfOk result (λ output. output.log.items ≡ text_for logs S.plan.program (In bytes ∷ []))
    → IfOk result (Leads logs S (TakesMessage S (bare old) stops bytes msg) new)
stop_leads logs S old new (Ok output) bytes msg stops is server heard counts given text = stopped_by logs S old new output bytes msg stops is server heard counts given text
stop_leads logs S old new (Err fault) bytes msg stops is server heard counts given text = tt

-- a message for the core
pub core_leads : (logs : Bool) (S : NodeSetting) (old new : ServerNode) (result : Result TurnOutput KeptFault) (bytes : List ℕ) (msg : Msg) (stops : Bool) → stops ≡ false
    → IfOk result (Leads logs S (TakesMessage S (bare old) false bytes msg) new) → IfOk result (Leads logs S (TakesMessage S (bare old) stops bytes msg) new)
core_leads logs S old new result bytes msg stops is leads = subst (λ b. IfOk result (Leads logs S (TakesMessage S (bare old) b bytes msg) new)) (sym is) leads

-- a datagram that is skipped has no lines
pub skip_leads : (logs : Bool) (S : NodeSetting) (old new : ServerNode) (output : TurnOutput) (packet : Packet) (skip : Skip) → judged S.header.tag packet.bytes ≡ Skipped skip
    → new.server ≡ old.server → new.heard ≡ old.heard → new.counts ≡ with_skip old.counts skip → output.stopped ≡ false → output.sends.items ≡ [] → output.log.items ≡ []
    → Leads logs S (AfterEvent S (bare old) (took packet)) new output
skip_leads logs S old new output packet skip judges server heard counts stopped sends text = record {
  messages = [];
  lines = [];
  is = subst (λ j. TakesJudged S (bare old) packet j (node_of new [] (map sending output.sends.items) [] output.stopped)) (sym judges)
      (same_node [] [] _ _ _ _ _ _ _ _ _ _ _ _ (ap (λ (k : KeptServer). k.server.state) server) (ap (λ (k : KeptServer). k.server.viewing) server) (ap (map sending) sends) heard counts stopped);
  text = text ∙ no_text logs S.plan.program;
}
