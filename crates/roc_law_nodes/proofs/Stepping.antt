-- An event of the world is one node's step, or none
use Rattle.std.proofs.Common.{◌≡◌, ℕ, ℤ, ◌-◌, Bool, true, false, List, [], ◌++◌, Option, Some, None, Err, map, refl, sym, ap, ◌∙◌, append-nil, append_assoc}
use Rattle.std.proofs.lemmas.List.{map-append}
use Rattle.std.specs.Option.{option_map}
use Rattle.std.specs.Prelude.{slice_get, slice_set, if◌then◌else◌}
use Rattle.roc_base.specs.declared.node.Shard.{Shard}
use Rattle.roc_base.specs.declared.node.Node.{Node}
use Rattle.roc_base.specs.declared.node.Node.TheVariants.{Server, Coord}
use Rattle.roc_base.specs.Node.{is_node}
use Rattle.roc_msg.specs.declared.msg.Envelope.{Envelope}
use Rattle.roc_msg.specs.declared.outbox.Outgoing.{Outgoing}
use Rattle.roc_plan.specs.Groups.{Plan, is_view_of}
use Rattle.roc_step.specs.Reads.{ReadStep}
use Rattle.roc_step.specs.Restarts.{cut_short, cut_reads}
use Rattle.roc_step.specs.State.{ServerState, ServerStep, Viewing}
use Rattle.roc_step.specs.Step as server
use Rattle.roc_coord.specs.declared.handled.SubmitFault.{SubmitFault}
use Rattle.roc_coord.specs.declared.handled.SubmitFault.TheVariants as fault
use Rattle.roc_coord.specs.State.{CoordState}
use Rattle.roc_coord.specs.Step.{after_message}
use Rattle.roc_coord.specs.Submit.{Submission, refusal_of, refused_or_accepted, next_id, new_transaction, accepted, accepted_view, after_submit}
use Rattle.roc_readonly.specs.Round.{first_round}
use Rattle.roc_coord.specs.Tick as coord
use Rattle.roc_law_protocol.specs.declared.event.Event.{Event}
use Rattle.roc_law_protocol.specs.declared.event.Event.TheVariants.{Submit, Deliver, Tick, Stop}
use Rattle.roc_law_protocol.specs.declared.event.Kept.{Kept}
use Rattle.roc_law_protocol.specs.declared.event.Kept.TheVariants.{Lost, Sent}
use Rattle.roc_law_protocol.specs.World.{sent_by}
use Rattle.roc_law_protocol.proofs.Changed.{get-front}
use Rattle.roc_law_world.specs.World.{World, mark_delivered}
use Rattle.roc_law_world.specs.Happens.{Outcome, IsSubmissionOf, IsReceived, no_reads, StopsIn, at_rest, unrecorded, recorded, restarted}
use Rattle.roc_law_world.specs.Run.{Transition}
use Rattle.roc_law_nodes.specs.Own.{OwnEvent, delivered, ticked, requested, stopped, stopped_at, heard_by, own_step}
use Rattle.roc_law_nodes.specs.Fold.{ServerSteps, CoordSteps}
use Rattle.roc_law_protocol.proofs.Stops.{set_there}

-- from w to v an event is an own event of this node, which sends these messages
pub record IsStepAt (w v : World) (e : Option Event) (at : Node) (own : OwnEvent) (outs : List Outgoing) : Type 0 where
  pub is : (node : Node) (more : List Envelope) → own_step node (w.sent ++ more) e ≡ (if is_node at node then Some own else None)
  pub sends : v.sent ≡ w.sent ++ map (sent_by at) outs

pub data IsStep (plan : Plan) (w v : World) (e : Option Event) : Type 0 where
  no_step : v ≡ w → e ≡ None → IsStep plan w v e
  server_step : (shard : Shard) (own : OwnEvent) (s after : ServerState) (views kept : Viewing) (outs : List Outgoing) → IsStepAt w v e (Server shard) own outs
      → slice_get w.servers shard.0 ≡ Some s → slice_get w.viewing shard.0 ≡ Some views → ServerSteps plan s views own after kept outs
      → v.servers ≡ slice_set w.servers shard.0 after → v.viewing ≡ slice_set w.viewing shard.0 kept → v.coords ≡ w.coords → IsStep plan w v e
  coord_step : (number : ℕ) (own : OwnEvent) (c after : CoordState) (outs : List Outgoing) → IsStepAt w v e (Coord number) own outs
      → slice_get w.coords number ≡ Some c → CoordSteps plan c own after outs → v.coords ≡ slice_set w.coords number after → v.servers ≡ w.servers → v.viewing ≡ w.viewing
      → IsStep plan w v e

-- a submission at a coordinator, refused or accepted
record Lands (w : World) (n : ℕ) (sub : Submission) (v : World) : Type 0 where
  pub coords : v.coords ≡ slice_set w.coords n sub.state
  pub servers : v.servers ≡ w.servers
  pub viewing : v.viewing ≡ w.viewing
  pub sent : v.sent ≡ w.sent ++ map (sent_by (Coord n)) sub.sends

module _ (plan : Plan) (w : World) where
  -- one that is refused
  stays : (n : ℕ) (c : CoordState) (o : Outcome) → slice_get w.coords n ≡ Some c → o.world ≡ w → (why : SubmitFault) → Lands w n (record { answer = Err why; state = c; sends = [] }) o.world
  stays n c o there same why =
      record {
        coords = ap (λ (u : World). u.coords) same ∙ sym (set_there w.coords n c there);
        servers = ap (λ (u : World). u.servers) same;
        viewing = ap (λ (u : World). u.viewing) same;
        sent = ap (λ (u : World). u.sent) same ∙ sym (append-nil w.sent);
      }

  lands : (n proc : ℕ) (args : List ℤ) (c : CoordState) (o : Outcome) → slice_get w.coords n ≡ Some c → (refusal : Option SubmitFault)
      → IsSubmissionOf w n proc args (refused_or_accepted plan c proc args refusal) o → Lands w n (refused_or_accepted plan c proc args refusal) o.world
  lands n proc args c o there None h = accepts (is_view_of plan proc) h
    where
      accepts : (b : Bool) → IsSubmissionOf w n proc args (if b then accepted_view plan c (first_round (next_id c) proc args) else accepted plan c (new_transaction c proc args)) o
          → Lands w n (if b then accepted_view plan c (first_round (next_id c) proc args) else accepted plan c (new_transaction c proc args)) o.world
      accepts true h = record {
        coords = ap (λ (o : Outcome). o.world.coords) h;
        servers = ap (λ (o : Outcome). o.world.servers) h;
        viewing = ap (λ (o : Outcome). o.world.viewing) h;
        sent = ap (λ (o : Outcome). o.world.sent) h;
      }
      accepts false h = record {
        coords = ap (λ (o : Outcome). o.world.coords) h;
        servers = ap (λ (o : Outcome). o.world.servers) h;
        viewing = ap (λ (o : Outcome). o.world.viewing) h;
        sent = ap (λ (o : Outcome). o.world.sent) h;
      }
  lands n proc args c o there (Some fault.Spent) h = stays n c o there (ap (λ (o : Outcome). o.world) h) fault.Spent
  lands n proc args c o there (Some fault.Busy) h = stays n c o there (ap (λ (o : Outcome). o.world) h) fault.Busy
  lands n proc args c o there (Some fault.NoProc) h = absurd h
  lands n proc args c o there (Some fault.Args) h = absurd h
  lands n proc args c o there (Some fault.NoMemory) h = absurd h

  -- a message that comes
  received : (k : ℕ) (m : Envelope) (o : Outcome) → slice_get w.sent (k - 1) ≡ Some m → (to : Node) → m.to ≡ to → IsReceived plan (mark_delivered w k) m.msg to o → IsStep plan w o.world (Some (Deliver k))
  received k m o there (Server shard) to h =
      server_step shard (delivered m.msg) h.state h.step.state h.viewing h.reads.viewing (h.step.sends ++ h.reads.sends)
      (record {
        is = λ node more. ap (heard_by node) (get-front w.sent more (k - 1) m there) ∙ ap (λ (t : Node). if is_node t node then Some (delivered m.msg) else None) to;
        sends = ap (λ (o : Outcome). o.world.sent) h.is;
      })
      h.there h.keeps (h.step, h.reads, h.handles, h.answers, refl, refl, refl)
      (ap (λ (o : Outcome). o.world.servers) h.is) (ap (λ (o : Outcome). o.world.viewing) h.is) (ap (λ (o : Outcome). o.world.coords) h.is)
  received k m o there (Coord n) to (c, at, is) =
      coord_step n (delivered m.msg) c (after_message plan c m.msg).state (after_message plan c m.msg).sends
      (record {
        is = λ node more. ap (heard_by node) (get-front w.sent more (k - 1) m there) ∙ ap (λ (t : Node). if is_node t node then Some (delivered m.msg) else None) to;
        sends = ap (λ (o : Outcome). o.world.sent) is;
      })
      at (refl, refl) (ap (λ (o : Outcome). o.world.coords) is) (ap (λ (o : Outcome). o.world.servers) is) (ap (λ (o : Outcome). o.world.viewing) is)

  -- a stop, in the world where it stops
  stopping : (shard : Shard) (s : ServerState) (v : Viewing) → slice_get w.servers shard.0 ≡ Some s → slice_get w.viewing shard.0 ≡ Some v
      → (own during : Option (ℕ × Kept)) → own ≡ during → (before : World) (r : ServerStep) (q : ReadStep) → StopsIn plan w shard.0 s v during before r q
      → (o : Outcome) → o ≡ restarted before shard.0 r q → IsStep plan w o.world (Some (Stop shard own))
  stopping shard s v there keeps own during same before r q at_rest o is =
      server_step shard (stopped None) s s v (no_reads v).viewing (server.tick_sends s)
      (record {
        is = λ node more. ap (λ d. if is_node (Server shard) node then Some (stopped (stopped_at (w.sent ++ more) d)) else None) same;
        sends = ap (λ (o : Outcome). o.world.sent) is ∙ ap (λ l. l ++ map (sent_by (Server shard)) (server.tick_sends s)) (append-nil w.sent);
      })
      there keeps (refl, refl, refl)
      (ap (λ (o : Outcome). o.world.servers) is) (ap (λ (o : Outcome). o.world.viewing) is) (ap (λ (o : Outcome). o.world.coords) is)
  stopping shard s v there keeps own during same before r q (unrecorded k m sent) o is =
      server_step shard (stopped (Some (m.msg, Lost))) s s v (no_reads v).viewing (server.tick_sends s)
      (record {
        is = λ node more. ap (λ d. if is_node (Server shard) node then Some (stopped (stopped_at (w.sent ++ more) d)) else None) same
            ∙ ap (λ x. if is_node (Server shard) node then Some (stopped (option_map (λ (m : Envelope). (m.msg, Lost)) x)) else None) (get-front w.sent more (k - 1) m sent.there);
        sends = ap (λ (o : Outcome). o.world.sent) is ∙ ap (λ l. l ++ map (sent_by (Server shard)) (server.tick_sends s)) (append-nil w.sent);
      })
      there keeps (refl, refl, refl)
      (ap (λ (o : Outcome). o.world.servers) is) (ap (λ (o : Outcome). o.world.viewing) is) (ap (λ (o : Outcome). o.world.coords) is)
  stopping shard s v there keeps own during same before r q (recorded k many m whole reads sent handles answers) o is =
      let front = (cut_short many whole).sends ++ (cut_reads many whole reads).sends in
      let ticks = server.tick_sends whole.state in
      server_step shard (stopped (Some (m.msg, Sent many))) s whole.state v (cut_reads many whole reads).viewing (front ++ ticks)
      (record {
        is = λ node more. ap (λ d. if is_node (Server shard) node then Some (stopped (stopped_at (w.sent ++ more) d)) else None) same
            ∙ ap (λ x. if is_node (Server shard) node then Some (stopped (option_map (λ (m : Envelope). (m.msg, Sent many)) x)) else None) (get-front w.sent more (k - 1) m sent.there);
        sends = ap (λ (o : Outcome). o.world.sent) is
            ∙ (append_assoc w.sent (map (sent_by (Server shard)) front) (map (sent_by (Server shard)) ticks) ∙ ap (λ l. w.sent ++ l) (sym (map-append (sent_by (Server shard)) front ticks)));
      })
      there keeps (whole, reads, handles, answers, refl, refl, refl)
      (ap (λ (o : Outcome). o.world.servers) is) (ap (λ (o : Outcome). o.world.viewing) is) (ap (λ (o : Outcome). o.world.coords) is)

  -- an event of any world is one node's step
  pub stepping : (e : Option Event) (o : Outcome) → Transition plan w e o → IsStep plan w o.world e
  stepping None o h = no_step (ap (λ (o : Outcome). o.world) h) refl
  stepping (Some (Submit n proc args)) o (c, there, h) =
      let l = lands n proc args c o there (refusal_of plan c proc args) h in
      coord_step n (requested proc args) c (after_submit plan c proc args).state (after_submit plan c proc args).sends (record { is = λ node more. refl; sends = l.sent }) there (refl, refl)
      l.coords l.servers l.viewing
  stepping (Some (Deliver k)) o (m, some, there, h) = received k m o there m.to refl h
  stepping (Some (Tick (Server shard))) o (s, views, there, keeps, is) =
      server_step shard ticked s s views views (server.tick_sends s)
      (record {
        is = λ node more. refl;
        sends = ap (λ (o : Outcome). o.world.sent) is ∙ ap (λ outs. w.sent ++ map (sent_by (Server shard)) outs) (append-nil (server.tick_sends s));
      })
      there keeps (refl, refl, refl)
      (ap (λ (o : Outcome). o.world.servers) is) (ap (λ (o : Outcome). o.world.viewing) is) (ap (λ (o : Outcome). o.world.coords) is)
  stepping (Some (Tick (Coord n))) o (c, there, is) =
      coord_step n ticked c c (coord.tick_sends plan c)
      (record { is = λ node more. refl; sends = ap (λ (o : Outcome). o.world.sent) is })
      there (refl, refl)
      (ap (λ (o : Outcome). o.world.coords) is ∙ sym (set_there w.coords n c there)) (ap (λ (o : Outcome). o.world.servers) is) (ap (λ (o : Outcome). o.world.viewing) is)
  stepping (Some (Stop shard during)) o x = stopping shard x.state x.viewing x.there x.keeps during during refl x.before x.step x.reads x.stops o x.is
