-- An event of the world is one node's step, or nobody's: what the world gains, and what the node logs
use Rattle.std.proofs.Common.{◌≡◌, ℕ, ℤ, ◌+◌, ◌-◌, List, [], ◌∷◌, ◌++◌, Option}
use Rattle.std.proofs.Common.{Some, None, Result, Ok, Err, length, drop, map, refl, sym, ap, subst, ◌∙◌, append-nil, append_assoc}
use Rattle.std.proofs.Math.Seq.{drop-append_seam, drop-length}
use Rattle.std.specs.List.{flat_map}
use Rattle.std.specs.Option.{option_map}
use Rattle.std.specs.Prelude.{slice_get, slice_set}
use Rattle.roc_base.specs.declared.id.TxnId.{TxnId}
use Rattle.roc_base.specs.declared.node.Shard.{Shard}
use Rattle.roc_base.specs.declared.node.Node.{Node}
use Rattle.roc_base.specs.declared.node.Node.TheVariants.{Server, Coord}
use Rattle.roc_msg.specs.declared.msg.Msg.{Msg}
use Rattle.roc_msg.specs.declared.msg.Envelope.{Envelope}
use Rattle.roc_msg.specs.declared.outbox.Outgoing.{Outgoing}
use Rattle.roc_plan.specs.Groups.{Plan}
use Rattle.roc_wire.specs.declared.header.Header.{Header}
use Rattle.roc_wire.specs.Laws.{Spells}
use Rattle.roc_wire.specs.Reading.{datagram, pair}
use Rattle.roc_step.specs.State.{answered, ServerState, ServerStep, Viewing}
use Rattle.roc_step.specs.Reads.{AnswersReads, ReadStep}
use Rattle.roc_step.specs.Runs.{accesses_of}
use Rattle.roc_step.specs.Step as server
use Rattle.roc_coord.specs.declared.handled.Handled.{Handled}
use Rattle.roc_coord.specs.declared.handled.Handled.TheVariants as handled
use Rattle.roc_coord.specs.declared.handled.SubmitFault.{SubmitFault}
use Rattle.roc_coord.specs.declared.handled.SubmitFault.TheVariants as fault
use Rattle.roc_coord.specs.State.{CoordState}
use Rattle.roc_coord.specs.Step.{after_message}
use Rattle.roc_coord.specs.Submit.{after_submit}
use Rattle.roc_coord.specs.Tick as coord
use Rattle.roc_audit.specs.declared.entry.Entry.{Entry}
use Rattle.roc_audit.specs.declared.entry.Entry.TheVariants as entry
use Rattle.roc_audit.specs.Order.{noted}
use Rattle.roc_law_protocol.specs.declared.event.Event.{Event}
use Rattle.roc_law_protocol.specs.declared.event.Event.TheVariants as event
use Rattle.roc_law_protocol.specs.declared.event.Kept.{Kept}
use Rattle.roc_law_protocol.specs.declared.event.Seen.{Seen}
use Rattle.roc_law_protocol.specs.declared.event.Seen.TheVariants as seen
use Rattle.roc_law_protocol.specs.Happens.{ran_at, answer_entries}
use Rattle.roc_law_protocol.specs.World.{sent_by}
use Rattle.roc_law_world.specs.World.{World, mark_delivered}
use Rattle.roc_law_world.specs.Happens.{Outcome, Submits, IsReceived, StopsIn, at_rest, unrecorded, recorded, restarted}
use Rattle.roc_law_world.specs.Run.{Transition}
use Rattle.roc_log.specs.declared.line.LogLine.{LogLine}
use Rattle.roc_log.specs.declared.line.LogLine.TheVariants.{Submit, In, Tick}
use Rattle.roc_log.specs.Sent.{outs_logged}
use Rattle.roc_fold.specs.Sent.{answer_logged}
use Rattle.roc_fold.specs.Told.{told_from}
use Rattle.roc_fold.specs.Fold.{Core, serving, coordinating, brought, GivenByEvent, Gives}
use Rattle.roc_fold.proofs.Counted.{submission_tells}
use Rattle.roc_fold.proofs.ToldLines.{outs_tell, outs_alone}
use Rattle.roc_law_audit.specs.LogsOfRuns.{node_of_event, outs_gained, lines_of_entry, answers_gained, LogsMessage, LogsDelivery, LogsSubmission, LogsOwn}
use Rattle.roc_law_audit.proofs.Stopped.{tagged_brings}
use Rattle.roc_law_protocol.proofs.Stops.{set_there}

-- ---- what a step gives

-- the lines are those of one event, which gives this at this core
pub record IsWhole (plan : Plan) (header : Header) (core : Core) (g : GivenByEvent) (more : List LogLine) : Type 0 where
  pub line : LogLine
  pub gives : Gives plan header core line g
  pub lines : more ≡ line ∷ g.due

abbrev pub given_by : Header → ServerStep → ReadStep → GivenByEvent
given_by header r q = record { core = serving r.state q.viewing; due = outs_logged header (r.sends ++ q.sends); decided = r.decided; ran = accesses_of r.ran }

-- what the world is behind a server's step
pub record ServerTurn (w : World) (o : Outcome) (shard : Shard) (r : ServerStep) (q : ReadStep) : Type 0 where
  pub servers : o.world.servers ≡ slice_set w.servers shard.0 r.state
  pub viewing : o.world.viewing ≡ slice_set w.viewing shard.0 q.viewing
  pub coords : o.world.coords ≡ w.coords
  pub history : o.world.history ≡ w.history
  pub order : o.world.order ≡ noted w.order r.decided
  pub more : List Envelope
  pub sent : o.world.sent ≡ w.sent ++ more
  pub decided : o.decided ≡ r.decided
  pub ran : o.ran ≡ map (ran_at shard.0) r.ran

-- and behind a coordinator's, which tells this
pub record CoordTurn (w : World) (o : Outcome) (number : ℕ) (after : CoordState) (told : List Entry) : Type 0 where
  pub coords : o.world.coords ≡ slice_set w.coords number after
  pub servers : o.world.servers ≡ w.servers
  pub viewing : o.world.viewing ≡ w.viewing
  pub history : o.world.history ≡ w.history ++ told
  pub order : o.world.order ≡ w.order
  pub more : List Envelope
  pub sent : o.world.sent ≡ w.sent ++ more
  pub decided : o.decided ≡ []
  pub ran : o.ran ≡ []

-- a coordinator's lines are those of one event, and tell this
pub record CoordLogs (plan : Plan) (header : Header) (c after : CoordState) (told : List Entry) (more : List LogLine) : Type 0 where
  pub due : List LogLine
  pub whole : IsWhole plan header (coordinating c) (record { core = coordinating after; due = due; decided = []; ran = [] }) more
  pub tells : told_from c.number c.next more ≡ told

pub data Effect (plan : Plan) (w : World) (e : Option Event) (o : Outcome) : Type 0 where
  nobody : o.world ≡ w → o.decided ≡ [] → o.ran ≡ [] → ((header : Header) (more : List LogLine) → LogsOwn header w e o more → more ≡ []) → Effect plan w e o
  a_server : (shard : Shard) (s : ServerState) (v : Viewing) (r : ServerStep) (q : ReadStep) → node_of_event w.sent e ≡ Some (Server shard)
      → slice_get w.servers shard.0 ≡ Some s → slice_get w.viewing shard.0 ≡ Some v → ServerTurn w o shard r q
      → ((header : Header) (more : List LogLine) → LogsOwn header w e o more → IsWhole plan header (serving s v) (given_by header r q) more) → Effect plan w e o
  a_coord : (number : ℕ) (c after : CoordState) (told : List Entry) → node_of_event w.sent e ≡ Some (Coord number)
      → slice_get w.coords number ≡ Some c → CoordTurn w o number after told
      → ((header : Header) (more : List LogLine) → LogsOwn header w e o more → CoordLogs plan header c after told more) → Effect plan w e o

-- ---- what was gained

to_send_back : (from : Node) (outs : List Outgoing) → map (λ m. record { to = m.to; msg = m.msg }) (map (sent_by from) outs) ≡ outs
to_send_back from [] = refl
to_send_back from (out ∷ outs) = ap (λ (l : List Outgoing). out ∷ l) (to_send_back from outs)

pub gained_outs : (header : Header) (from : Node) (w v : World) (outs : List Outgoing) → v.sent ≡ w.sent ++ map (sent_by from) outs → outs_gained header w v ≡ outs_logged header outs
gained_outs header from w v outs e =
    ap (λ (l : List Envelope). outs_logged header (map (λ m. record { to = m.to; msg = m.msg }) (drop (length w.sent) l))) e
    ∙ (ap (λ (l : List Envelope). outs_logged header (map (λ m. record { to = m.to; msg = m.msg }) l)) (drop-append_seam w.sent (map (sent_by from) outs))
    ∙ ap (outs_logged header) (to_send_back from outs))

no_answers : (w v : World) → v.history ≡ w.history → answers_gained w v ≡ []
no_answers w v e = ap (λ (l : List Entry). flat_map lines_of_entry (drop (length w.history) l)) e ∙ ap (flat_map lines_of_entry) (drop-length w.history)

gained_answer : (w v : World) (answer : Handled) → v.history ≡ w.history ++ answer_entries answer → answers_gained w v ≡ answer_logged answer
gained_answer w v answer e =
    ap (λ (l : List Entry). flat_map lines_of_entry (drop (length w.history) l)) e
    ∙ (ap (flat_map lines_of_entry) (drop-append_seam w.history (answer_entries answer)) ∙ go answer)
  where
    go : (answer : Handled) → flat_map lines_of_entry (answer_entries answer) ≡ answer_logged answer
    go (handled.Answered id reply) = refl
    go handled.Done = refl
    go (handled.Ignored reason) = refl

-- ---- what lines tell

answer_tells : (c n : ℕ) (answer : Handled) → told_from c n (answer_logged answer) ≡ answer_entries answer
answer_tells c n (handled.Answered id reply) = refl
answer_tells c n handled.Done = refl
answer_tells c n (handled.Ignored reason) = refl

-- ---- each event

module _ (reads : (bytes : List ℕ) (header : Header) (msg : Msg) → Spells bytes header msg → datagram bytes ≡ Ok (pair header msg)) (plan : Plan) (w : World) where
  brings : (header : Header) (after : World) (msg : Msg) (more : List LogLine) (l : LogsMessage header w after msg more) → brought header.tag l.bytes ≡ Some msg
  brings header after msg more l = tagged_brings reads header.tag l.bytes l.by msg l.tagged l.spells

  -- a message at a server
  message_whole : (header : Header) (shard : Shard) (msg : Msg) (s : ServerState) (v : Viewing) (r : ServerStep) (q : ReadStep) (after : World) → server.Handles plan s msg r
      → AnswersReads plan v msg r q
      → after.sent ≡ w.sent ++ map (sent_by (Server shard)) (r.sends ++ q.sends) → after.history ≡ w.history → (more : List LogLine) → LogsMessage header w after msg more
      → IsWhole plan header (serving s v) (given_by header r q) more
  message_whole header shard msg s v r q after handles answers sent history more l =
      record {
        line = In l.bytes;
        gives = (msg, brings header after msg more l, record { step = r; reads = q; handles = handles; answers = answers; is = refl });
        lines = l.lines ∙ ap (λ (ls : List LogLine). In l.bytes ∷ ls)
            ((λ i. gained_outs header (Server shard) w after (r.sends ++ q.sends) sent i ++ no_answers w after history i) ∙ append-nil (outs_logged header (r.sends ++ q.sends)));
      }

  -- and at a coordinator
  message_logs : (header : Header) (number : ℕ) (msg : Msg) (c : CoordState) (after : World) → after.sent ≡ w.sent ++ map (sent_by (Coord number)) (after_message plan c msg).sends
      → after.history ≡ w.history ++ answer_entries (after_message plan c msg).answer → (more : List LogLine) → LogsMessage header w after msg more
      → CoordLogs plan header c (after_message plan c msg).state (answer_entries (after_message plan c msg).answer) more
  message_logs header number msg c after sent history more l =
      let r = after_message plan c msg in
      let due = outs_logged header r.sends ++ answer_logged r.answer in
      let lines : more ≡ In l.bytes ∷ due = l.lines
      ∙ ap (λ (ls : List LogLine). In l.bytes ∷ ls) (λ i. gained_outs header (Coord number) w after r.sends sent i ++ gained_answer w after r.answer history i) in
      record {
        due = due;
        whole = record { line = In l.bytes; gives = (msg, brings header after msg more l, refl); lines = lines };
        tells = ap (told_from c.number c.next) lines ∙ (outs_tell header c.number c.next r.sends (answer_logged r.answer) ∙ answer_tells c.number c.next r.answer);
      }

  delivers : (k : ℕ) (m : Envelope) (o : Outcome) → slice_get w.sent (k - 1) ≡ Some m → (header : Header) (more : List LogLine) → LogsOwn header w (Some (event.Deliver k)) o more
      → LogsMessage header w o.world m.msg more
  delivers k m o there header more l = subst (λ (x : Option Envelope). LogsDelivery header w o.world x more) there l

  -- a message that comes
  received : (k : ℕ) (m : Envelope) (o : Outcome) → slice_get w.sent (k - 1) ≡ Some m → (to : Node) → m.to ≡ to → IsReceived plan (mark_delivered w k) m.msg to o
      → Effect plan w (Some (event.Deliver k)) o
  received k m o there (Server shard) to h =
      a_server shard h.state h.viewing h.step h.reads (ap (option_map (λ (m : Envelope). m.to)) there ∙ ap (λ (n : Node). Some n) to) h.there h.keeps
      (record {
        servers = ap (λ (o : Outcome). o.world.servers) h.is;
        viewing = ap (λ (o : Outcome). o.world.viewing) h.is;
        coords = ap (λ (o : Outcome). o.world.coords) h.is;
        history = ap (λ (o : Outcome). o.world.history) h.is;
        order = ap (λ (o : Outcome). o.world.order) h.is;
        more = _;
        sent = ap (λ (o : Outcome). o.world.sent) h.is;
        decided = ap (λ (o : Outcome). o.decided) h.is;
        ran = ap (λ (o : Outcome). o.ran) h.is;
      })
      (λ header more l.
      message_whole header shard m.msg h.state h.viewing h.step h.reads o.world h.handles h.answers (ap (λ (o : Outcome). o.world.sent) h.is) (ap (λ (o : Outcome). o.world.history) h.is) more
      (delivers k m o there header more l))
  received k m o there (Coord n) to (c, at, is) =
      a_coord n c (after_message plan c m.msg).state (answer_entries (after_message plan c m.msg).answer) (ap (option_map (λ (m : Envelope). m.to)) there ∙ ap (λ (n : Node). Some n) to) at
      (record {
        coords = ap (λ (o : Outcome). o.world.coords) is;
        servers = ap (λ (o : Outcome). o.world.servers) is;
        viewing = ap (λ (o : Outcome). o.world.viewing) is;
        history = ap (λ (o : Outcome). o.world.history) is;
        order = ap (λ (o : Outcome). o.world.order) is;
        more = _;
        sent = ap (λ (o : Outcome). o.world.sent) is;
        decided = ap (λ (o : Outcome). o.decided) is;
        ran = ap (λ (o : Outcome). o.ran) is;
      })
      (λ header more l.
      message_logs header n m.msg c o.world (ap (λ (o : Outcome). o.world.sent) is) (ap (λ (o : Outcome). o.world.history) is) more (delivers k m o there header more l))

  -- a submission
  submitted : (n proc : ℕ) (args : List ℤ) (c : CoordState) (o : Outcome) → slice_get w.coords n ≡ Some c → (answer : Result TxnId SubmitFault) → (after_submit plan c proc args).answer ≡ answer
      → Submits w n proc args (after_submit plan c proc args).state (after_submit plan c proc args).sends answer o → Effect plan w (Some (event.Submit n proc args)) o
  submitted n proc args c o there (Ok id) e h =
      let after = after_submit plan c proc args in
      let next = submission_tells plan c proc args id e in
      let same : id ≡ record { coord = c.number; seq = c.next } = (λ i. record { coord = next.coord i; seq = next.seq i }) in
      let seen_is : o.seen ≡ seen.Submitted id = ap (λ (o : Outcome). o.seen) h in
      a_coord n c after.state (entry.Submitted id proc args ∷ []) refl there
      (record {
        coords = ap (λ (o : Outcome). o.world.coords) h;
        servers = ap (λ (o : Outcome). o.world.servers) h;
        viewing = ap (λ (o : Outcome). o.world.viewing) h;
        history = ap (λ (o : Outcome). o.world.history) h;
        order = ap (λ (o : Outcome). o.world.order) h;
        more = _;
        sent = ap (λ (o : Outcome). o.world.sent) h;
        decided = ap (λ (o : Outcome). o.decided) h;
        ran = ap (λ (o : Outcome). o.ran) h;
      })
      (λ header more l. (let logged : more ≡ Submit proc args ∷ outs_gained header w o.world = subst (λ (x : Seen). LogsSubmission header w o.world proc args x more) seen_is l in
      let lines : more ≡ Submit proc args ∷ outs_logged header after.sends = logged
      ∙ ap (λ (ls : List LogLine). Submit proc args ∷ ls) (gained_outs header (Coord n) w o.world after.sends (ap (λ (o : Outcome). o.world.sent) h)) in
      record {
        due = outs_logged header after.sends;
        whole = record { line = Submit proc args; gives = (id, e, refl); lines = lines };
        tells = ap (told_from c.number c.next) lines ∙ (λ i. entry.Submitted (sym same i) proc args ∷ outs_alone header c.number (c.next + 1) after.sends i);
      }))
  submitted n proc args c o there (Err fault.Spent) e h =
      nobody (ap (λ (o : Outcome). o.world) h) (ap (λ (o : Outcome). o.decided) h) (ap (λ (o : Outcome). o.ran) h)
      (λ header more l. subst (λ (x : Seen). LogsSubmission header w o.world proc args x more) (ap (λ (o : Outcome). o.seen) h) l)
  submitted n proc args c o there (Err fault.Busy) e h =
      nobody (ap (λ (o : Outcome). o.world) h) (ap (λ (o : Outcome). o.decided) h) (ap (λ (o : Outcome). o.ran) h)
      (λ header more l. subst (λ (x : Seen). LogsSubmission header w o.world proc args x more) (ap (λ (o : Outcome). o.seen) h) l)
  submitted n proc args c o there (Err fault.NoProc) e h = absurd h
  submitted n proc args c o there (Err fault.Args) e h = absurd h
  submitted n proc args c o there (Err fault.NoMemory) e h = absurd h

  -- a stop, which no log has
  stopped : (shard : Shard) (s : ServerState) (v : Viewing) → slice_get w.servers shard.0 ≡ Some s → slice_get w.viewing shard.0 ≡ Some v
      → (during : Option (ℕ × Kept)) (before : World) (r : ServerStep) (q : ReadStep) → StopsIn plan w shard.0 s v during before r q
      → (o : Outcome) → o ≡ restarted before shard.0 r q → (own : Option (ℕ × Kept)) → Effect plan w (Some (event.Stop shard own)) o
  stopped shard s v there keeps during before r q stops o is own =
      a_server shard s v r q refl there keeps
      (record {
        servers = ap (λ (o : Outcome). o.world.servers) is ∙ ap (λ (l : List ServerState). slice_set l shard.0 r.state) (servers_still stops);
        viewing = ap (λ (o : Outcome). o.world.viewing) is ∙ ap (λ (l : List Viewing). slice_set l shard.0 q.viewing) (viewing_still stops);
        coords = ap (λ (o : Outcome). o.world.coords) is ∙ coords_still stops;
        history = ap (λ (o : Outcome). o.world.history) is ∙ history_still stops;
        order = ap (λ (o : Outcome). o.world.order) is ∙ ap (λ (l : List TxnId). noted l r.decided) (order_still stops);
        more = _;
        sent = ap (λ (o : Outcome). o.world.sent) is
            ∙ (ap (λ (l : List Envelope). (l ++ map (sent_by (Server shard)) (r.sends ++ q.sends)) ++ map (sent_by (Server shard)) (server.tick_sends r.state)) (sent_still stops)
            ∙ append_assoc w.sent (map (sent_by (Server shard)) (r.sends ++ q.sends)) (map (sent_by (Server shard)) (server.tick_sends r.state)));
        decided = ap (λ (o : Outcome). o.decided) is;
        ran = ap (λ (o : Outcome). o.ran) is;
      })
      (λ header more l. elim l [ ])
    where
      servers_still : {during : Option (ℕ × Kept)} {before : World} {r : ServerStep} {q : ReadStep} → StopsIn plan w shard.0 s v during before r q → before.servers ≡ w.servers
      servers_still at_rest = refl
      servers_still (unrecorded k m sent) = refl
      servers_still (recorded k many m r q sent handles answers) = refl

      viewing_still : {during : Option (ℕ × Kept)} {before : World} {r : ServerStep} {q : ReadStep} → StopsIn plan w shard.0 s v during before r q → before.viewing ≡ w.viewing
      viewing_still at_rest = refl
      viewing_still (unrecorded k m sent) = refl
      viewing_still (recorded k many m r q sent handles answers) = refl

      coords_still : {during : Option (ℕ × Kept)} {before : World} {r : ServerStep} {q : ReadStep} → StopsIn plan w shard.0 s v during before r q → before.coords ≡ w.coords
      coords_still at_rest = refl
      coords_still (unrecorded k m sent) = refl
      coords_still (recorded k many m r q sent handles answers) = refl

      history_still : {during : Option (ℕ × Kept)} {before : World} {r : ServerStep} {q : ReadStep} → StopsIn plan w shard.0 s v during before r q → before.history ≡ w.history
      history_still at_rest = refl
      history_still (unrecorded k m sent) = refl
      history_still (recorded k many m r q sent handles answers) = refl

      order_still : {during : Option (ℕ × Kept)} {before : World} {r : ServerStep} {q : ReadStep} → StopsIn plan w shard.0 s v during before r q → before.order ≡ w.order
      order_still at_rest = refl
      order_still (unrecorded k m sent) = refl
      order_still (recorded k many m r q sent handles answers) = refl

      sent_still : {during : Option (ℕ × Kept)} {before : World} {r : ServerStep} {q : ReadStep} → StopsIn plan w shard.0 s v during before r q → before.sent ≡ w.sent
      sent_still at_rest = refl
      sent_still (unrecorded k m sent) = refl
      sent_still (recorded k many m r q sent handles answers) = refl

  -- any event
  pub effect : (e : Option Event) (o : Outcome) → Transition plan w e o → Effect plan w e o
  effect None o h = nobody (ap (λ (o : Outcome). o.world) h) (ap (λ (o : Outcome). o.decided) h) (ap (λ (o : Outcome). o.ran) h) (λ header more l. elim l [ ])
  effect (Some (event.Submit n proc args)) o (c, there, h) = submitted n proc args c o there (after_submit plan c proc args).answer refl h
  effect (Some (event.Deliver k)) o (m, some, there, h) = received k m o there m.to refl h
  effect (Some (event.Tick (Server shard))) o (s, v, there, keeps, is) =
      let r = answered s (server.tick_sends s) in
      let q : ReadStep = record { viewing = v; sends = [] } in
      a_server shard s v r q refl there keeps
      (record {
        servers = ap (λ (o : Outcome). o.world.servers) is;
        viewing = ap (λ (o : Outcome). o.world.viewing) is;
        coords = ap (λ (o : Outcome). o.world.coords) is;
        history = ap (λ (o : Outcome). o.world.history) is;
        order = ap (λ (o : Outcome). o.world.order) is;
        more = _;
        sent = ap (λ (o : Outcome). o.world.sent) is;
        decided = ap (λ (o : Outcome). o.decided) is;
        ran = ap (λ (o : Outcome). o.ran) is;
      })
      (λ header more l. record {
        line = Tick;
        gives = (λ i. record { core = serving s v; due = outs_logged header (append-nil (server.tick_sends s) i); decided = []; ran = [] });
        lines = l ∙ ap (λ (ls : List LogLine). Tick ∷ ls) (gained_outs header (Server shard) w o.world (server.tick_sends s ++ []) (ap (λ (o : Outcome). o.world.sent) is));
      })
  effect (Some (event.Tick (Coord n))) o (c, there, is) =
      a_coord n c c [] refl there
      (record {
        coords = ap (λ (o : Outcome). o.world.coords) is ∙ sym (set_there w.coords n c there);
        servers = ap (λ (o : Outcome). o.world.servers) is;
        viewing = ap (λ (o : Outcome). o.world.viewing) is;
        history = ap (λ (o : Outcome). o.world.history) is ∙ sym (append-nil w.history);
        order = ap (λ (o : Outcome). o.world.order) is;
        more = _;
        sent = ap (λ (o : Outcome). o.world.sent) is;
        decided = ap (λ (o : Outcome). o.decided) is;
        ran = ap (λ (o : Outcome). o.ran) is;
      })
      (λ header more l. (let lines : more ≡ Tick ∷ outs_logged header (coord.tick_sends plan c) = l
      ∙ ap (λ (ls : List LogLine). Tick ∷ ls) (gained_outs header (Coord n) w o.world (coord.tick_sends plan c) (ap (λ (o : Outcome). o.world.sent) is)) in
      record {
        due = outs_logged header (coord.tick_sends plan c);
        whole = record { line = Tick; gives = refl; lines = lines };
        tells = ap (told_from c.number c.next) lines ∙ outs_alone header c.number c.next (coord.tick_sends plan c);
      }))
  effect (Some (event.Stop shard during)) o x = stopped shard x.state x.viewing x.there x.keeps during x.before x.step x.reads x.stops o x.is during
