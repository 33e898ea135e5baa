-- From a world of two files, each step of a node's core is one event more
use Rattle.std.proofs.Common.{◌≡◌, ℕ, ℤ, ◌-◌, suc, List, [], ◌∷◌, ◌++◌, Some, Result, Ok, map, refl, ap, subst, ◌∙◌, append-nil, sym, arith}
use Rattle.std.specs.Prelude.{slice_get, slice_set}
use Rattle.roc_base.specs.declared.id.TxnId.{TxnId}
use Rattle.roc_base.specs.declared.node.Node.{Node}
use Rattle.roc_base.specs.declared.node.Node.TheVariants.{Server, Coord}
use Rattle.roc_base.specs.declared.node.Shard.{Shard}
use Rattle.roc_msg.specs.declared.msg.Msg.{Msg}
use Rattle.roc_plan.specs.Groups.{Plan}
use Rattle.roc_audit.specs.declared.entry.Entry.{Entry}
use Rattle.roc_audit.specs.declared.entry.Entry.TheVariants as entry
use Rattle.roc_epoch.specs.declared.file.File.{File}
use Rattle.roc_epoch.specs.declared.next.Next.{Next}
use Rattle.roc_two_files.specs.Sealed.{Sealed, sealed_by}
use Rattle.roc_grown.specs.declared.handled.GrownFault.{GrownFault}
use Rattle.roc_grown.specs.Server.{GrownServerState, GrownStep, GrownHandles, taken_at, grown_server_tick}
use Rattle.roc_grown.specs.Coord.{GrownCoordState, after_drain, after_grown_submit, after_grown_message, grown_tick_sends}
use Rattle.roc_growth.specs.declared.event.Event.{Event}
use Rattle.roc_growth.specs.declared.event.Event.TheVariants.{Submit, Deliver, Tick, Drain}
use Rattle.roc_growth.specs.declared.event.Seen.TheVariants as seen
use Rattle.roc_growth.specs.World.{GrownWorld, mark_delivered, at_coord, at_coord_tick}
use Rattle.roc_growth.specs.Happens.{Outcome, undecided, IsCallOf, Submits, served, coordinated, answer_entries, IsReceived, Happens}
use Rattle.roc_growth.specs.Run.{Stepped, IsGrownRun, steps_on}
use Rattle.roc_law_grown_nodes.specs.GrownInterleaved.{WasSentAs}
use Rattle.roc_law_protocol.proofs.Undelivered.{number_of}

module _ (plan : Plan) (next : Next) where
  -- a run led to a world that has these
  pub record GrownStands (servers : List GrownServerState) (cores : List GrownCoordState) (sent : List Sealed) (history : List Entry) : Type 0 where
    pub steps : List Stepped
    pub world : GrownWorld
    pub run : IsGrownRun plan (Some next) next.coords steps world
    pub servers_are : world.servers ≡ servers
    pub coords_are : world.coords ≡ cores
    pub sent_are : world.sent ≡ sent
    pub history_is : world.history ≡ history

  pub stands_as : {servers servers2 : List GrownServerState} {cores cores2 : List GrownCoordState} {sent sent2 : List Sealed} {history history2 : List Entry}
      → GrownStands servers cores sent history → servers ≡ servers2 → cores ≡ cores2 → sent ≡ sent2 → history ≡ history2 → GrownStands servers2 cores2 sent2 history2
  stands_as r a b c d =
      record {
        steps = r.steps;
        world = r.world;
        run = r.run;
        servers_are = r.servers_are ∙ a;
        coords_are = r.coords_are ∙ b;
        sent_are = r.sent_are ∙ c;
        history_is = r.history_is ∙ d;
      }

  module _ {servers : List GrownServerState} {cores : List GrownCoordState} {sent : List Sealed} {history : List Entry} (r : GrownStands servers cores sent history) where
    by_event : (e : Event) (o : Outcome) → Happens plan (Some next) r.world e o
        → (servers2 : List GrownServerState) (cores2 : List GrownCoordState) (sent2 : List Sealed) (history2 : List Entry)
        → o.world.servers ≡ servers2 → o.world.coords ≡ cores2 → o.world.sent ≡ sent2 → o.world.history ≡ history2 → GrownStands servers2 cores2 sent2 history2
    by_event e o h servers2 cores2 sent2 history2 a b c d =
        record {
          steps = r.steps ++ (record { event = Some e; outcome = o }) ∷ [];
          world = o.world;
          run = steps_on (Some e) o r.run h;
          servers_are = a;
          coords_are = b;
          sent_are = c;
          history_is = d;
        }

    -- a message that was sent is one of the world's, by its number
    record IsNumbered (to : Node) (file : File) (msg : Msg) : Type 0 where
      pub from : Node
      pub at : ℕ
      pub there : slice_get r.world.sent (suc at - 1) ≡ Some (record { file = file; message = record { from = from; to = to; msg = msg } })

    numbered : (to : Node) (file : File) (msg : Msg) → WasSentAs sent to file msg → IsNumbered to file msg
    numbered to file msg (from, has) =
        let m : Sealed = record { file = file; message = record { from = from; to = to; msg = msg } } in
        let p = number_of sent m has in
        let number : suc p.0 - 1 ≡ p.0 = omega arith in
        record { from = from; at = p.0; there = ap (λ l. slice_get l (suc p.0 - 1)) r.sent_are ∙ (ap (slice_get sent) number ∙ p.1) }

    -- ---- a server

    module _ (shard : Shard) (s : GrownServerState) (there : slice_get servers shard.0 ≡ Some s) where
      server_there : slice_get r.world.servers shard.0 ≡ Some s
      server_there = ap (λ l. slice_get l shard.0) r.servers_are ∙ there

      pub server_delivers : (file : File) (msg : Msg) (g : GrownStep) → GrownHandles plan (Some next) s file msg g → WasSentAs sent (Server shard) file msg
          → GrownStands (slice_set servers shard.0 g.state) cores (sent ++ map (sealed_by g.state.switched (Server shard)) g.sends) history
      server_delivers file msg g handles was =
          let n = numbered (Server shard) file msg was in
          let o = served (mark_delivered r.world (suc n.at)) shard.0 g in
          let received : IsReceived plan (Some next) (mark_delivered r.world (suc n.at)) file msg (Server shard) o =
          record { state = s; there = server_there; step = g; handles = handles; is = refl } in
          by_event (Deliver (suc n.at)) o (record { file = file; message = record { from = n.from; to = Server shard; msg = msg } }, omega arith, n.there, received)
          (slice_set servers shard.0 g.state) cores (sent ++ map (sealed_by g.state.switched (Server shard)) g.sends) history
          (ap (λ l. slice_set l shard.0 g.state) r.servers_are) r.coords_are (ap (λ l. l ++ map (sealed_by g.state.switched (Server shard)) g.sends) r.sent_are) r.history_is

      pub server_ticks : GrownStands (slice_set servers shard.0 s) cores (sent ++ map (sealed_by s.switched (Server shard)) (grown_server_tick s)) history
      server_ticks =
          by_event (Tick (Server shard)) (served r.world shard.0 (taken_at s (grown_server_tick s))) (s, server_there, refl)
          (slice_set servers shard.0 s) cores (sent ++ map (sealed_by s.switched (Server shard)) (grown_server_tick s)) history
          (ap (λ l. slice_set l shard.0 s) r.servers_are) r.coords_are (ap (λ l. l ++ map (sealed_by s.switched (Server shard)) (grown_server_tick s)) r.sent_are) r.history_is

    -- ---- a coordinator

    module _ (number : ℕ) (c : GrownCoordState) (there : slice_get cores number ≡ Some c) where
      coord_there : slice_get r.world.coords number ≡ Some c
      coord_there = ap (λ l. slice_get l number) r.coords_are ∙ there

      pub coord_delivers : (file : File) (msg : Msg) → WasSentAs sent (Coord number) file msg
          → GrownStands servers (slice_set cores number (after_grown_message plan (Some next) c file msg).state)
          (sent ++ map (sealed_by (after_grown_message plan (Some next) c file msg).state.switched (Coord number)) (after_grown_message plan (Some next) c file msg).sends)
          (history ++ answer_entries (after_grown_message plan (Some next) c file msg).answer)
      coord_delivers file msg was =
          let n = numbered (Coord number) file msg was in
          let step = after_grown_message plan (Some next) c file msg in
          let o = coordinated (mark_delivered r.world (suc n.at)) number step in
          by_event (Deliver (suc n.at)) o (record { file = file; message = record { from = n.from; to = Coord number; msg = msg } }, omega arith, n.there, (c, coord_there, refl))
          servers (slice_set cores number step.state) (sent ++ map (sealed_by step.state.switched (Coord number)) step.sends) (history ++ answer_entries step.answer)
          r.servers_are (ap (λ l. slice_set l number step.state) r.coords_are) (ap (λ l. l ++ map (sealed_by step.state.switched (Coord number)) step.sends) r.sent_are)
          (ap (λ l. l ++ answer_entries step.answer) r.history_is)

      pub coord_ticks : GrownStands servers cores (sent ++ map (sealed_by c.switched (Coord number)) (grown_tick_sends plan (Some next) c)) history
      coord_ticks =
          by_event (Tick (Coord number)) (undecided seen.Done (at_coord_tick r.world number c (grown_tick_sends plan (Some next) c))) (c, coord_there, refl)
          servers cores (sent ++ map (sealed_by c.switched (Coord number)) (grown_tick_sends plan (Some next) c)) history
          r.servers_are r.coords_are (ap (λ l. l ++ map (sealed_by c.switched (Coord number)) (grown_tick_sends plan (Some next) c)) r.sent_are) r.history_is

      pub coord_drains : GrownStands servers (slice_set cores number (after_drain plan c).state)
          (sent ++ map (sealed_by (after_drain plan c).state.switched (Coord number)) (after_drain plan c).sends) history
      coord_drains =
          let step = after_drain plan c in
          by_event (Drain number) (undecided seen.Done (at_coord r.world number step.state step.sends [])) (tt, c, coord_there, refl)
          servers (slice_set cores number step.state) (sent ++ map (sealed_by step.state.switched (Coord number)) step.sends) history
          r.servers_are (ap (λ l. slice_set l number step.state) r.coords_are) (ap (λ l. l ++ map (sealed_by step.state.switched (Coord number)) step.sends) r.sent_are)
          (append-nil r.world.history ∙ r.history_is)

      pub coord_requests : (proc : ℕ) (args : List ℤ) (id : TxnId) → IsCallOf next.plan proc args → (after_grown_submit plan (Some next) c proc args).answer ≡ Ok id
          → GrownStands servers (slice_set cores number (after_grown_submit plan (Some next) c proc args).state)
          (sent ++ map (sealed_by (after_grown_submit plan (Some next) c proc args).state.switched (Coord number)) (after_grown_submit plan (Some next) c proc args).sends)
          (history ++ entry.Submitted id proc args ∷ [])
      coord_requests proc args id call accepted =
          let sub = after_grown_submit plan (Some next) c proc args in
          let told : List Entry = entry.Submitted id proc args ∷ [] in
          let o = undecided (seen.Submitted id) (at_coord r.world number sub.state sub.sends told) in
          let happens = subst (λ (a : Result TxnId GrownFault). Submits r.world number proc args sub.state sub.sends a o) (sym accepted) refl in
          by_event (Submit number proc args) o (call, c, coord_there, happens)
          servers (slice_set cores number sub.state) (sent ++ map (sealed_by sub.state.switched (Coord number)) sub.sends) (history ++ told)
          r.servers_are (ap (λ l. slice_set l number sub.state) r.coords_are) (ap (λ l. l ++ map (sealed_by sub.state.switched (Coord number)) sub.sends) r.sent_are)
          (ap (λ l. l ++ told) r.history_is)
