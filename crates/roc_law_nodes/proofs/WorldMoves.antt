-- From a world, each step of a node's core is one event more
use Rattle.std.proofs.Common.{◌≡◌, ℕ, ℤ, ◌-◌, suc, Bool, true, false, List, [], ◌∷◌, ◌++◌, Some, None, Result, Ok, map, refl, sym, ap, subst, ◌∙◌, append-nil, arith}
use Rattle.std.specs.Prelude.{slice_get, slice_set, if◌then◌else◌}
use Rattle.roc_base.specs.declared.id.TxnId.{TxnId}
use Rattle.roc_base.specs.declared.node.Node.{Node}
use Rattle.roc_base.specs.declared.node.Node.TheVariants.{Server, Coord}
use Rattle.roc_base.specs.declared.node.Shard.{Shard}
use Rattle.roc_base.specs.Node.{is_node}
use Rattle.roc_msg.specs.declared.msg.Msg.{Msg}
use Rattle.roc_msg.specs.declared.msg.Envelope.{Envelope}
use Rattle.roc_msg.specs.declared.outbox.Outgoing.{Outgoing}
use Rattle.roc_plan.specs.Groups.{Plan}
use Rattle.roc_step.specs.Reads.{AnswersReads, ReadStep}
use Rattle.roc_step.specs.State.{answered, ServerState, ServerStep, Viewing}
use Rattle.roc_step.specs.Step as server
use Rattle.roc_coord.specs.declared.handled.SubmitFault.{SubmitFault}
use Rattle.roc_coord.specs.State.{CoordState}
use Rattle.roc_coord.specs.Step.{after_message}
use Rattle.roc_coord.specs.Submit.{after_submit}
use Rattle.roc_coord.specs.Tick as coord
use Rattle.roc_audit.specs.declared.entry.Entry.{Entry}
use Rattle.roc_audit.specs.declared.entry.Entry.TheVariants as entry
use Rattle.roc_law_protocol.specs.declared.event.Event.{Event}
use Rattle.roc_law_protocol.specs.declared.event.Event.TheVariants.{Submit, Deliver, Tick}
use Rattle.roc_law_protocol.specs.declared.event.Seen.TheVariants as seen
use Rattle.roc_law_protocol.specs.Happens.{answer_entries}
use Rattle.roc_law_protocol.specs.World.{sent_by}
use Rattle.roc_law_protocol.proofs.Changed.{get-front}
use Rattle.roc_law_protocol.proofs.Undelivered.{number_of}
use Rattle.roc_law_world.specs.World.{World, mark_delivered, at_coord, at_coord_tick}
use Rattle.roc_law_world.specs.Happens.{Outcome, undecided, Submits, served, coordinated, IsReceived, Happens}
use Rattle.roc_law_world.specs.Run.{Stepped, IsRun, steps_on}
use Rattle.roc_law_nodes.specs.Interleaved.{WasSentTo}
use Rattle.roc_law_nodes.specs.Own.{OwnEvent, delivered, ticked, requested, heard_by, own_events}
use Rattle.roc_law_nodes.proofs.Owned.{gains_here, gains_elsewhere}
use Rattle.roc_law_nodes.proofs.Stepping.{IsStepAt}

-- each node's own events, with these of one node more
abbrev pub with_own : (Node → List OwnEvent) → Node → List OwnEvent → Node → List OwnEvent
with_own owned at owns node = owned node ++ (if is_node at node then owns else [])

module _ (plan : Plan) (coords : ℕ) where
  -- a run led to a world that has these, and these own events are each node's
  pub record WorldStands (servers : List ServerState) (viewing : List Viewing) (cores : List CoordState) (sent : List Envelope) (history : List Entry)
      (owned : Node → List OwnEvent) : Type 0 where
    pub steps : List Stepped
    pub world : World
    pub run : IsRun plan coords steps world
    pub servers_are : world.servers ≡ servers
    pub viewing_are : world.viewing ≡ viewing
    pub coords_are : world.coords ≡ cores
    pub sent_are : world.sent ≡ sent
    pub history_is : world.history ≡ history
    pub owned_are : (node : Node) → own_events node world.sent steps ≡ owned node

  pub stands_as : {servers servers2 : List ServerState} {viewing viewing2 : List Viewing} {cores cores2 : List CoordState} {sent sent2 : List Envelope}
      {history history2 : List Entry} {owned owned2 : Node → List OwnEvent}
      → WorldStands servers viewing cores sent history owned → servers ≡ servers2 → viewing ≡ viewing2 → cores ≡ cores2 → sent ≡ sent2 → history ≡ history2
      → ((node : Node) → owned node ≡ owned2 node)
      → WorldStands servers2 viewing2 cores2 sent2 history2 owned2
  stands_as r a b c d e f =
      record {
        steps = r.steps;
        world = r.world;
        run = r.run;
        servers_are = r.servers_are ∙ a;
        viewing_are = r.viewing_are ∙ b;
        coords_are = r.coords_are ∙ c;
        sent_are = r.sent_are ∙ d;
        history_is = r.history_is ∙ e;
        owned_are = λ node. r.owned_are node ∙ f node;
      }

  module _ {servers : List ServerState} {viewing : List Viewing} {cores : List CoordState} {sent : List Envelope} {history : List Entry} {owned : Node → List OwnEvent}
      (r : WorldStands servers viewing cores sent history owned) where
    by_event : (e : Event) (o : Outcome) (at : Node) (own : OwnEvent) (outs : List Outgoing) → Happens plan r.world e o → IsStepAt r.world o.world (Some e) at own outs
        → (servers2 : List ServerState) (viewing2 : List Viewing) (cores2 : List CoordState) (history2 : List Entry)
        → o.world.servers ≡ servers2 → o.world.viewing ≡ viewing2 → o.world.coords ≡ cores2 → o.world.history ≡ history2
        → WorldStands servers2 viewing2 cores2 (sent ++ map (sent_by at) outs) history2 (with_own owned at (own ∷ []))
    by_event e o at own outs h is servers2 viewing2 cores2 history2 a b c d =
        record {
          steps = r.steps ++ x ∷ [];
          world = o.world;
          run = steps_on (Some e) o r.run h;
          servers_are = a;
          viewing_are = b;
          coords_are = c;
          sent_are = is.sends ∙ ap (λ l. l ++ map (sent_by at) outs) r.sent_are;
          history_is = d;
          owned_are = λ node. owned_then node (is_node at node) refl;
        }
      where
        x : Stepped
        x = record { event = Some e; outcome = o }

        owned_then : (node : Node) (b : Bool) → is_node at node ≡ b → own_events node o.world.sent (r.steps ++ (record { event = Some e; outcome = o }) ∷ [])
            ≡ owned node ++ (if is_node at node then own ∷ [] else [])
        owned_then node true here =
            (gains_here node r.run (record { event = Some e; outcome = o }) o.world at own outs is here).events
            ∙ (ap (λ (l : List OwnEvent). l ++ own ∷ []) (r.owned_are node) ∙ ap (λ (b : Bool). owned node ++ (if b then own ∷ [] else [])) (sym here))
        owned_then node false other =
            (gains_elsewhere node r.run (record { event = Some e; outcome = o }) o.world at own outs is other).events
            ∙ (ap (λ (l : List OwnEvent). l ++ []) (r.owned_are node) ∙ ap (λ (b : Bool). owned node ++ (if b then own ∷ [] else [])) (sym other))

    -- a message that was sent is one of the world's, by its number
    record IsNumbered (to : Node) (msg : Msg) : Type 0 where
      pub from : Node
      pub at : ℕ
      pub there : slice_get r.world.sent (suc at - 1) ≡ Some (record { from = from; to = to; msg = msg })
      pub comes : (node : Node) (more : List Envelope) → heard_by node (slice_get (r.world.sent ++ more) (suc at - 1)) ≡ (if is_node to node then Some (delivered msg) else None)

    numbered : (to : Node) (msg : Msg) → WasSentTo sent to msg → IsNumbered to msg
    numbered to msg (from, has) =
        let m : Envelope = record { from = from; to = to; msg = msg } in
        let p = number_of sent m has in
        let number : suc p.0 - 1 ≡ p.0 = omega arith in
        let there : slice_get r.world.sent (suc p.0 - 1) ≡ Some m = ap (λ l. slice_get l (suc p.0 - 1)) r.sent_are ∙ (ap (slice_get sent) number ∙ p.1) in
        record { from = from; at = p.0; there = there; comes = λ node more. ap (heard_by node) (get-front r.world.sent more (suc p.0 - 1) m there) }

    -- ---- a server

    module _ (shard : Shard) (s : ServerState) (v : Viewing) (there : slice_get servers shard.0 ≡ Some s) (keeps : slice_get viewing shard.0 ≡ Some v) where
      server_there : slice_get r.world.servers shard.0 ≡ Some s
      server_there = ap (λ l. slice_get l shard.0) r.servers_are ∙ there

      viewing_there : slice_get r.world.viewing shard.0 ≡ Some v
      viewing_there = ap (λ l. slice_get l shard.0) r.viewing_are ∙ keeps

      pub server_delivers : (msg : Msg) (step : ServerStep) (q : ReadStep) → server.Handles plan s msg step → AnswersReads plan v msg step q → WasSentTo sent (Server shard) msg
          → WorldStands (slice_set servers shard.0 step.state) (slice_set viewing shard.0 q.viewing) cores (sent ++ map (sent_by (Server shard)) (step.sends ++ q.sends)) history
          (with_own owned (Server shard) (delivered msg ∷ []))
      server_delivers msg step q handles answers was =
          let n = numbered (Server shard) msg was in
          let o = served (mark_delivered r.world (suc n.at)) shard.0 step q in
          let received : IsReceived plan (mark_delivered r.world (suc n.at)) msg (Server shard) o =
          record { state = s; there = server_there; viewing = v; keeps = viewing_there; step = step; handles = handles; reads = q; answers = answers; is = refl } in
          by_event (Deliver (suc n.at)) o (Server shard) (delivered msg) (step.sends ++ q.sends) (record { from = n.from; to = Server shard; msg = msg }, omega arith, n.there, received)
          (record { is = n.comes; sends = refl })
          (slice_set servers shard.0 step.state) (slice_set viewing shard.0 q.viewing) cores history
          (ap (λ l. slice_set l shard.0 step.state) r.servers_are) (ap (λ l. slice_set l shard.0 q.viewing) r.viewing_are) r.coords_are r.history_is

      pub server_ticks : WorldStands (slice_set servers shard.0 s) (slice_set viewing shard.0 v) cores (sent ++ map (sent_by (Server shard)) (server.tick_sends s)) history
          (with_own owned (Server shard) (ticked ∷ []))
      server_ticks =
          let o = served r.world shard.0 (answered s (server.tick_sends s)) (record { viewing = v; sends = [] }) in
          by_event (Tick (Server shard)) o (Server shard) ticked (server.tick_sends s) (s, v, server_there, viewing_there, refl)
          (record { is = λ node more. refl; sends = ap (λ outs. r.world.sent ++ map (sent_by (Server shard)) outs) (append-nil (server.tick_sends s)) })
          (slice_set servers shard.0 s) (slice_set viewing shard.0 v) cores history
          (ap (λ l. slice_set l shard.0 s) r.servers_are) (ap (λ l. slice_set l shard.0 v) r.viewing_are) r.coords_are r.history_is

    -- ---- a coordinator

    module _ (number : ℕ) (c : CoordState) (there : slice_get cores number ≡ Some c) where
      coord_there : slice_get r.world.coords number ≡ Some c
      coord_there = ap (λ l. slice_get l number) r.coords_are ∙ there

      pub coord_delivers : (msg : Msg) → WasSentTo sent (Coord number) msg
          → WorldStands servers viewing (slice_set cores number (after_message plan c msg).state) (sent ++ map (sent_by (Coord number)) (after_message plan c msg).sends)
          (history ++ answer_entries (after_message plan c msg).answer) (with_own owned (Coord number) (delivered msg ∷ []))
      coord_delivers msg was =
          let n = numbered (Coord number) msg was in
          let step = after_message plan c msg in
          let o = coordinated (mark_delivered r.world (suc n.at)) number step in
          by_event (Deliver (suc n.at)) o (Coord number) (delivered msg) step.sends (record { from = n.from; to = Coord number; msg = msg }, omega arith, n.there, (c, coord_there, refl))
          (record { is = n.comes; sends = refl })
          servers viewing (slice_set cores number step.state) (history ++ answer_entries step.answer)
          r.servers_are r.viewing_are (ap (λ l. slice_set l number step.state) r.coords_are) (ap (λ l. l ++ answer_entries step.answer) r.history_is)

      pub coord_ticks : WorldStands servers viewing cores (sent ++ map (sent_by (Coord number)) (coord.tick_sends plan c)) history (with_own owned (Coord number) (ticked ∷ []))
      coord_ticks =
          by_event (Tick (Coord number)) (undecided seen.Done (at_coord_tick r.world number (coord.tick_sends plan c))) (Coord number) ticked (coord.tick_sends plan c) (c, coord_there, refl)
          (record { is = λ node more. refl; sends = refl })
          servers viewing cores history r.servers_are r.viewing_are r.coords_are r.history_is

      pub coord_requests : (proc : ℕ) (args : List ℤ) (id : TxnId) → (after_submit plan c proc args).answer ≡ Ok id
          → WorldStands servers viewing (slice_set cores number (after_submit plan c proc args).state) (sent ++ map (sent_by (Coord number)) (after_submit plan c proc args).sends)
          (history ++ entry.Submitted id proc args ∷ []) (with_own owned (Coord number) (requested proc args ∷ []))
      coord_requests proc args id accepted =
          let sub = after_submit plan c proc args in
          let told : List Entry = entry.Submitted id proc args ∷ [] in
          let o = undecided (seen.Submitted id) (at_coord r.world number sub.state sub.sends told) in
          let happens = subst (λ (a : Result TxnId SubmitFault). Submits r.world number proc args sub.state sub.sends a o) (sym accepted) refl in
          by_event (Submit number proc args) o (Coord number) (requested proc args) sub.sends (c, coord_there, happens)
          (record { is = λ node more. refl; sends = refl })
          servers viewing (slice_set cores number sub.state) (history ++ told)
          r.servers_are r.viewing_are (ap (λ l. slice_set l number sub.state) r.coords_are) (ap (λ l. l ++ told) r.history_is)
