-- Where the plan has no transaction, nothing happens but that watermarks are told
use Rattle.std.proofs.Common.{◌≡◌, ℕ, ◌+◌, ◌++◌, flat_map, ◌-◌, ◌<◌, ◌≤◌, true, List, [], Option, Some, None, map, refl, sym, ap, subst, ◌∙◌, arith, inl, inr, append-nil}
use Rattle.std.proofs.lemmas.Bool.{false≢true, cases_eq}
use Rattle.std.specs.Prelude.{slice_get, slice_set, filter, not}
use Rattle.roc_sequence.specs.Lists.{Has}
use Rattle.roc_sequence.specs.Places.{is_listed}
use Rattle.roc_sequence.proofs.Members.{has_append, has_at, from_has_map}
use Rattle.roc_base.specs.declared.id.TxnId.{TxnId}
use Rattle.roc_base.specs.declared.node.Node.{Node}
use Rattle.roc_base.specs.declared.node.Node.TheVariants.{Server, Coord}
use Rattle.roc_base.specs.TxnId.{is_txn}
use Rattle.roc_depgraph.specs.Deps.{is_known}
use Rattle.roc_step.specs.Links.{without_links}
use Rattle.roc_msg.specs.declared.msg.Msg.TheVariants.{Ended}
use Rattle.roc_msg.specs.declared.msg.Envelope.{Envelope}
use Rattle.roc_msg.specs.declared.outbox.Outgoing.{Outgoing}
use Rattle.roc_plan.specs.Groups.{Plan}
use Rattle.roc_step.specs.Below.{is_ended}
use Rattle.roc_step.specs.Forgets.{is_over, over}
use Rattle.roc_step.specs.State.{answered, hearing, ServerState, ServerStep}
use Rattle.roc_step.specs.Asking.{fetch_from}
use Rattle.roc_step.specs.Step as server
use Rattle.roc_step.specs.Lists.{after_ended}
use Rattle.roc_audit.specs.Order.{noted}
use Rattle.roc_coord.specs.Tick.{sent_again}
use Rattle.roc_coord.specs.Marks.{watermark, ended_sends}
use Rattle.roc_coord.specs.State.{CoordState}
use Rattle.roc_law_protocol.specs.Aside.{transaction_tick_sends}
use Rattle.roc_law_protocol.specs.declared.event.Event.{Event}
use Rattle.roc_law_protocol.specs.declared.event.Event.TheVariants.{Submit, Deliver, Tick, Stop}
use Rattle.roc_law_protocol.specs.declared.event.Seen.TheVariants as seen
use Rattle.roc_law_protocol.specs.Beginnings.{Beginning, IsBeginning, begun_server, begun_coord, begun_world, next_in}
use Rattle.roc_law_protocol.specs.World.{World, sent_by, mark_delivered, at_server, at_coord}
use Rattle.roc_law_protocol.specs.Happens.{Outcome, IsReceived, server_seen, IsSentTo}
use Rattle.roc_law_protocol.specs.Run.{Stepped}
use Rattle.roc_law_protocol.specs.Beside.{Moves, IsRunBeside, beside_begins, beside_goes_on}
use Rattle.roc_law_protocol.proofs.Changed.{get-set_here, get-set_other, get-set_cases}
use Rattle.roc_law_protocol.proofs.Firsts.{found_at}
use Rattle.roc_law_protocol.proofs.KeptAside.{kept_aside, aside_onward}
use Rattle.roc_law_protocol.proofs.Marks.{IsMark, IsMarkOf, mark_sent, mark_next, ended_cases}
use Rattle.roc_law_protocol.proofs.AcceptedSubmissions.{Submitting, is_refused, is_accepted, submitting}
use Rattle.roc_law_protocol.proofs.Transactions.{NoTransaction}
use Rattle.roc_step.specs.Restarts.{cut_short}
use Rattle.roc_law_protocol.proofs.Stops.{by_stop}
use Rattle.roc_law_protocol.proofs.Stopping.{take_none}

-- its sequence was used before the run began, or in it
abbrev pub IsUsed : Beginning → List CoordState → TxnId → Type 0
IsUsed start coords t = t.seq < next_in (start.nexts t.coord) (slice_get coords t.coord)

-- a watermark for a server, of sequences that were used
pub record IsToldMark (start : Beginning) (coords : List CoordState) (m : Envelope) : Type 0 where
  pub shard : ℕ
  pub to : m.to ≡ Server (record { 0 = shard })
  pub coord : ℕ
  pub mark : ℕ
  pub is : m.msg ≡ Ended coord mark
  pub used : (q : ℕ) → q < mark → IsUsed start coords (record { coord = coord; seq = q })

-- a server on which nothing started
pub record IsUnused (start : Beginning) (coords : List CoordState) (n : ℕ) (s : ServerState) : Type 0 where
  pub started : s.started ≡ []
  pub asked : s.lists.waiting.asked ≡ []
  pub known : s.lists.known ≡ []
  pub links : s.lists.links ≡ []
  pub taken : s.lists.taken ≡ []
  pub store : s.store ≡ start.stores n
  pub ended : (t : TxnId) → is_ended s.below t ≡ true → IsUsed start coords t

pub record IsIdle (plan : Plan) (start : Beginning) (w : World) : Type 0 where
  pub sent : (m : Envelope) → Has m w.sent → IsToldMark start w.coords m
  pub history : w.history ≡ []
  pub order : w.order ≡ []
  pub servers : (n : ℕ) (s : ServerState) → slice_get w.servers n ≡ Some s → IsUnused start w.coords n s
  pub numbers : (n : ℕ) (c : CoordState) → slice_get w.coords n ≡ Some c → c.number ≡ n
  pub coords : (n : ℕ) (c : CoordState) → slice_get w.coords n ≡ Some c → c.pending ≡ []
  pub nexts : (n : ℕ) (c : CoordState) → slice_get w.coords n ≡ Some c → start.nexts n ≤ c.next

-- whatever was sent is a watermark
pub idle_mark : (plan : Plan) (start : Beginning) (w : World) → IsIdle plan start w → (m : Envelope) → Has m w.sent → IsMark m.msg
idle_mark plan start w i m h = subst IsMark (sym (i.sent m h).is) tt

-- ---- a step of a coordinator

module _ (plan : Plan) (start : Beginning) (w : World) (i : IsIdle plan start w) (n : ℕ) (s after : CoordState) (there : slice_get w.coords n ≡ Some s)
    (number : after.number ≡ s.number) (pending : after.pending ≡ s.pending) (onward : s.next ≤ after.next) where
  abbrev coords : List CoordState
  coords = slice_set w.coords n after

  still_used : (t : TxnId) → IsUsed start w.coords t → IsUsed start coords t
  still_used t u = elim (cases_eq n t.coord) [
    | inl same ↦
        (let here : slice_get coords t.coord ≡ Some after = subst (λ m. slice_get coords m ≡ Some after) same (get-set_here w.coords n s after there) in
        let was : slice_get w.coords t.coord ≡ Some s = subst (λ m. slice_get w.coords m ≡ Some s) same there in
        let l : t.seq < s.next = subst (λ (c : Option CoordState). t.seq < next_in (start.nexts t.coord) c) was u in
        let m : t.seq < after.next = omega arith in
        subst (λ (c : Option CoordState). t.seq < next_in (start.nexts t.coord) c) (sym here) m)
    | inr other ↦ subst (λ (c : Option CoordState). t.seq < next_in (start.nexts t.coord) c) (sym (get-set_other w.coords n t.coord after other)) u
  ]

  own_number : after.number ≡ n
  own_number = number ∙ i.numbers n s there

  told_here : (out : Outgoing) → IsMarkOf plan after out → IsToldMark start coords (sent_by (Coord n) out)
  told_here out k =
      record {
        shard = k.shard;
        to = ap (λ (out : Outgoing). out.to) k.is;
        coord = after.number;
        mark = watermark after;
        is = ap (λ (out : Outgoing). out.msg) k.is;
        used = λ q l.
            (let m = mark_next after in
            let below : q < after.next = omega arith in
            let here : slice_get coords after.number ≡ Some after = subst (λ m. slice_get coords m ≡ Some after) (sym own_number) (get-set_here w.coords n s after there) in
            subst (λ (c : Option CoordState). q < next_in (start.nexts after.number) c) (sym here) below);
      }

  idle_coord : (outs : List Outgoing) → ((out : Outgoing) → Has out outs → IsMarkOf plan after out) → IsIdle plan start (at_coord w n after outs [])
  idle_coord outs marks =
      record {
        sent = λ m h. elim (has_append m w.sent (map (sent_by (Coord n)) outs) h) [
          | inl j ↦ (let k = i.sent m j in record { shard = k.shard; to = k.to; coord = k.coord; mark = k.mark; is = k.is; used = λ q l. still_used (record { coord = k.coord; seq = q }) (k.used q l) })
          | inr j ↦ (let q = from_has_map (sent_by (Coord n)) m outs j in subst (IsToldMark start coords) (sym q.2) (told_here q.0 (marks q.0 q.1)))
        ];
        history = append-nil w.history ∙ i.history;
        order = i.order;
        servers = λ m v h. (let u = i.servers m v h in record { started = u.started; asked = u.asked; known = u.known; links = u.links; taken = u.taken; store = u.store; ended = λ t e. still_used t (u.ended t e) });
        numbers = λ m c h. elim (get-set_cases w.coords n m s after c there h) [ inl k ↦ ap (λ (c : CoordState). c.number) k.1 ∙ (own_number ∙ k.0) | inr k ↦ i.numbers m c k.1 ];
        coords = λ m c h. elim (get-set_cases w.coords n m s after c there h) [ inl k ↦ ap (λ (c : CoordState). c.pending) k.1 ∙ (pending ∙ i.coords n s there) | inr k ↦ i.coords m c k.1 ];
        nexts = λ m c h. elim (get-set_cases w.coords n m s after c there h) [
          | inl k ↦ subst (λ m. start.nexts m ≤ c.next) k.0 (subst (λ (c : CoordState). start.nexts n ≤ c.next) (sym k.1) (let l = i.nexts n s there in omega arith))
          | inr k ↦ i.nexts m c k.1
        ];
      }

-- ---- a step of a server

module _ (plan : Plan) (start : Beginning) (w : World) (i : IsIdle plan start w) (n : ℕ) (s : ServerState) (there : slice_get w.servers n ≡ Some s) where
  idle_server : (r : ServerStep) → IsUnused start w.coords n r.state → r.sends ≡ [] → r.decided ≡ [] → IsIdle plan start (at_server w n r)
  idle_server r u silent none =
      record {
        sent = λ m h. i.sent m (subst (Has m) (ap (λ outs. w.sent ++ map (sent_by (Server (record { 0 = n }))) outs) silent ∙ append-nil w.sent) h);
        history = i.history;
        order = ap (noted w.order) none ∙ i.order;
        servers = λ m v h. elim (get-set_cases w.servers n m s r.state v there h) [ inl k ↦ subst (λ m. IsUnused start w.coords m v) k.0 (subst (IsUnused start w.coords n) (sym k.1) u) | inr k ↦ i.servers m v k.1 ];
        numbers = i.numbers;
        coords = i.coords;
        nexts = i.nexts;
      }

  -- a watermark is heard: there is nothing to forget
  idle_hears : (coord mark : ℕ) → ((q : ℕ) → q < mark → IsUsed start w.coords (record { coord = coord; seq = q })) → IsUnused start w.coords n (after_ended s coord mark).state
  idle_hears coord mark used =
      let u = i.servers n s there in
      let gone = λ (t : TxnId). is_listed is_txn (over (hearing s coord mark).below s.lists.taken) t in
      record {
        started = ap (filter (λ e. not (gone e.id))) u.started;
        asked = ap (filter (λ a. not (gone a.id))) u.asked;
        known = ap (filter (λ k. not (gone k.of))) u.known;
        links = ap (λ l. map (without_links gone) (filter (λ k. not (gone k.of)) l)) u.links;
        taken = ap (filter (λ c. not (is_over (hearing s coord mark).below c))) u.taken;
        store = u.store;
        ended = λ t e. elim (ended_cases s.below coord mark t e) [ inl k ↦ u.ended t k | inr k ↦ subst (IsUsed start w.coords) (λ i. record { coord = sym k.0 i; seq = t.seq }) (used t.seq k.1) ];
      }

-- ---- any event

module _ (plan : Plan) (none : NoTransaction plan) (start : Beginning) where
  step_idle : (w : World) → IsIdle plan start w → (e : Option Event) (o : Outcome) → Moves plan w e o → IsIdle plan start o.world
  step_idle w i None o (inl h) = subst (λ (o : Outcome). IsIdle plan start o.world) (sym h) i
  step_idle w i None o (inr x) =
      let k = kept_aside plan x.before x.after x.sends x.does in
      subst (λ (o : Outcome). IsIdle plan start o.world) (sym x.is)
      (idle_coord plan start w i x.number x.before x.after x.there k.number k.pending (aside_onward plan x.before x.after x.sends k) x.sends k.marks)
  step_idle w i (Some (Submit n proc args)) o (s, there, h) = go (submitting plan w n proc args s o h)
    where
      go : Submitting plan w n proc args s o → IsIdle plan start o.world
      go (is_refused e) = subst (IsIdle plan start) (sym e) i
      go (is_accepted known counted e) = absurd (false≢true (sym (none proc) ∙ known))
  step_idle w i (Some (Deliver k)) o (m, some, there, h) = go m.to refl (i.sent m (has_at w.sent (k - 1) m there)) h
    where
      come : IsIdle plan start (mark_delivered w k)
      come = record { sent = i.sent; history = i.history; order = i.order; servers = i.servers; numbers = i.numbers; coords = i.coords; nexts = i.nexts }

      handles : (shard : ℕ) (s : ServerState) (r : ServerStep) → slice_get w.servers shard ≡ Some s → server.Handles plan s m.msg r → IsToldMark start w.coords m → IsIdle plan start (at_server (mark_delivered w k) shard r)
      handles shard s r at step t =
          let h = subst (λ msg. server.Handles plan s msg r) t.is step in
          subst (λ r. IsIdle plan start (at_server (mark_delivered w k) shard r)) (sym h.is)
          (idle_server plan start (mark_delivered w k) come shard s at (after_ended s t.coord t.mark) (idle_hears plan start w i shard s at t.coord t.mark t.used) refl refl)

      go : (to : Node) → m.to ≡ to → IsToldMark start w.coords m → IsReceived plan (mark_delivered w k) m.msg to o → IsIdle plan start o.world
      go (Server shard) to t (s, r, at, step, e) = subst (λ (o : Outcome). IsIdle plan start o.world) (sym e) (handles shard.0 s r at step t)
      go (Coord n) to t (s, at, e) = let is = t.to in absurd (cc)
  step_idle w i (Some (Tick (Server shard))) o (s, there, e) =
      let quiet : server.tick_sends s ≡ [] = ap (λ l. map (fetch_from s.shard) (filter (λ a. not (is_known s.lists.known a.id)) l)) (i.servers shard.0 s there).asked in
      subst (λ (o : Outcome). IsIdle plan start o.world) (sym e) (idle_server plan start w i shard.0 s there (answered s (server.tick_sends s)) (i.servers shard.0 s there) quiet refl)
  step_idle w i (Some (Tick (Coord n))) o (s, there, e) =
      let quiet : transaction_tick_sends plan s ≡ ended_sends plan s = ap (λ l. flat_map (sent_again plan) l ++ ended_sends plan s) (i.coords n s there) in
      subst (λ (o : Outcome). IsIdle plan start o.world) (sym e)
      (idle_coord plan start w i n s s there refl refl (omega arith) (transaction_tick_sends plan s) (λ out h. mark_sent plan s out (subst (Has out) quiet h)))
  step_idle w i (Some (Stop shard during)) o x = by_stop plan w shard.0 (IsIdle plan start) i (λ k m sent. come k) cut again during o x
    where
      come : (k : ℕ) → IsIdle plan start (mark_delivered w k)
      come k = record { sent = i.sent; history = i.history; order = i.order; servers = i.servers; numbers = i.numbers; coords = i.coords; nexts = i.nexts }

      cut : (k many : ℕ) (m : Envelope) (s : ServerState) (r : ServerStep) → IsSentTo w.sent k shard.0 m → slice_get w.servers shard.0 ≡ Some s → server.Handles plan s m.msg r → IsIdle plan start (at_server (mark_delivered w k) shard.0 (cut_short many r))
      cut k many m s r sent there step =
          let t = i.sent m (has_at w.sent (k - 1) m sent.there) in
          let h = subst (λ msg. server.Handles plan s msg r) t.is step in
          subst (λ r. IsIdle plan start (at_server (mark_delivered w k) shard.0 (cut_short many r))) (sym h.is)
          (idle_server plan start (mark_delivered w k) (come k) shard.0 s there (cut_short many (after_ended s t.coord t.mark)) (idle_hears plan start w i shard.0 s there t.coord t.mark t.used) (take_none many) refl)

      again : (v : World) (s : ServerState) → IsIdle plan start v → slice_get v.servers shard.0 ≡ Some s → IsIdle plan start (at_server v shard.0 (answered s (server.tick_sends s)))
      again v s i there =
          let quiet : server.tick_sends s ≡ [] = ap (λ l. map (fetch_from s.shard) (filter (λ a. not (is_known s.lists.known a.id)) l)) (i.servers shard.0 s there).asked in
          idle_server plan start v i shard.0 s there (answered s (server.tick_sends s)) (i.servers shard.0 s there) quiet refl

  pub run_idle : IsBeginning plan start → (coords : ℕ) (steps : List Stepped) (w : World) → IsRunBeside plan start coords steps w → IsIdle plan start w
  run_idle begins coords steps w beside_begins =
      record {
        sent = λ m h. absurd h;
        history = refl;
        order = refl;
        servers = λ n s h.
            (let same : 0 + n ≡ n = omega arith in
            subst (IsUnused start (begun_world plan start coords).coords n) (sym (found_at (begun_server start) 0 plan.program.shards n s h ∙ ap (begun_server start) same))
            (record { started = refl; asked = refl; known = refl; links = refl; taken = refl; store = refl; ended = λ t e. first_used t (begins.ended n t e) }));
        numbers = λ n c h. (let same : 0 + n ≡ n = omega arith in ap (λ (c : CoordState). c.number) (found_at (begun_coord start) 0 coords n c h) ∙ same);
        coords = λ n c h. ap (λ (c : CoordState). c.pending) (found_at (begun_coord start) 0 coords n c h);
        nexts = λ n c h.
            (let same : 0 + n ≡ n = omega arith in
            let e : start.nexts n ≡ c.next = sym (ap (λ (c : CoordState). c.next) (found_at (begun_coord start) 0 coords n c h) ∙ ap (λ n. start.nexts n) same) in
            omega (arith, e));
      }
    where
      first_used : (t : TxnId) → t.seq < start.nexts t.coord → IsUsed start (begun_world plan start coords).coords t
      first_used t l = go (slice_get (begun_world plan start coords).coords t.coord) refl
        where
          go : (c : Option CoordState) → slice_get (begun_world plan start coords).coords t.coord ≡ c → t.seq < next_in (start.nexts t.coord) c
          go (Some c) h =
              let same : 0 + t.coord ≡ t.coord = omega arith in
              let e : c.next ≡ start.nexts t.coord = ap (λ (c : CoordState). c.next) (found_at (begun_coord start) 0 coords t.coord c h) ∙ ap (λ n. start.nexts n) same in
              omega (arith, e, l)
          go None h = l
  run_idle begins coords steps w (beside_goes_on {w = v} e o r h) = step_idle v (run_idle begins coords _ v r) e o h

  -- a message that comes is taken
  pub idle_takes : (w : World) → IsIdle plan start w → (v : World) (m : Envelope) → Has m w.sent → (o : Outcome) → IsReceived plan v m.msg m.to o → o.seen ≡ seen.Done
  idle_takes w i v m h o = go m.to refl (i.sent m h)
    where
      go : (to : Node) → m.to ≡ to → IsToldMark start w.coords m → IsReceived plan v m.msg to o → o.seen ≡ seen.Done
      go (Server shard) to t (s, r, at, step, e) = ap (λ (o : Outcome). o.seen) e ∙ ap (λ (r : ServerStep). server_seen r.answer) (subst (λ msg. server.Handles plan s msg r) t.is step).is
      go (Coord n) to t (s, at, e) = let is = t.to in absurd (cc)
