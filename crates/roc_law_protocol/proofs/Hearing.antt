-- In every world what was delivered was taken, and what servers wait for was asked for
use Rattle.std.proofs.Common.{◌≡◌, ℕ, suc, ◌+◌, ◌-◌, ◌<◌, List, [], ◌∷◌, ◌++◌, Option, Some, None, length, map, refl, sym, ap, subst, ◌∙◌, ◌⊎◌, inl, inr, arith, ◌≢◌, append-nil, append_assoc}
use Rattle.std.proofs.lemmas.Option.{slice_get_within}
use Rattle.std.specs.Prelude.{slice_get, slice_set}
use Rattle.roc_sequence.specs.Lists.{Has}
use Rattle.roc_sequence.proofs.Members.{has_at, from_has_map}
use Rattle.roc_base.specs.declared.node.Node.{Node}
use Rattle.roc_base.specs.declared.node.Node.TheVariants.{Server, Coord}
use Rattle.roc_base.specs.declared.node.Shard.{Shard}
use Rattle.roc_msg.specs.declared.msg.Msg.{Msg}
use Rattle.roc_msg.specs.declared.msg.Msg.TheVariants.{Start, Commit, Ended, Settled}
use Rattle.roc_msg.specs.declared.msg.Envelope.{Envelope}
use Rattle.roc_msg.specs.declared.outbox.Outgoing.{Outgoing}
use Rattle.roc_plan.specs.Groups.{Plan}
use Rattle.roc_law_log.specs.Scheme.{Scheme, IsSoundScheme}
use Rattle.roc_step.specs.declared.handled.Handled.{Handled}
use Rattle.roc_step.specs.declared.handled.Handled.TheVariants.{Done, Ignored, Gone}
use Rattle.roc_step.specs.State.{answered, ServerState, ServerStep}
use Rattle.roc_step.specs.Step as server
use Rattle.roc_coord.specs.Step.{after_message}
use Rattle.roc_coord.specs.Submit.{new_transaction, accepted}
use Rattle.roc_step.proofs.SameIds.{ids_of}
use Rattle.roc_law_protocol.specs.Aside.{transaction_tick_sends}
use Rattle.roc_law_protocol.specs.declared.event.Event.{Event}
use Rattle.roc_law_protocol.specs.declared.event.Event.TheVariants.{Submit, Deliver, Tick, Stop}
use Rattle.roc_law_protocol.specs.declared.event.Seen.TheVariants as seen
use Rattle.roc_law_protocol.specs.PlanAssumptions.{HasSchemesFrom}
use Rattle.roc_law_protocol.specs.Beginnings.{Beginning, IsBeginning, begun_server}
use Rattle.roc_law_protocol.specs.World.{World, sent_by, mark_delivered}
use Rattle.roc_law_protocol.specs.Happens.{Outcome, server_seen, IsReceived, TransactionStopsIn, at_rest, unrecorded, recorded, transaction_restarted, IsTransactionStop, Happens}
use Rattle.roc_law_protocol.specs.Run.{Stepped}
use Rattle.roc_law_protocol.specs.Beside.{Moves, IsRunBeside, beside_begins, beside_goes_on}
use Rattle.roc_law_protocol.specs.declared.event.Kept.{Kept}
use Rattle.roc_step.specs.Restarts.{cut_short}
use Rattle.roc_law_protocol.specs.Quiet.{Counts}
use Rattle.roc_law_protocol.specs.Inner.Given.{LogLaws, StoreLaws}
use Rattle.roc_law_protocol.proofs.Changed.{get-front, get-set_cases}
use Rattle.roc_law_protocol.proofs.Carried.{StartsHere, KeepsGood, message_good, tick_good}
use Rattle.roc_law_protocol.proofs.Fetches.{HasAsked, fetched_none, IsAskedFor}
use Rattle.roc_law_protocol.proofs.AskedFor.{message_round, tick_round, submission_round, run_asked}
use Rattle.roc_law_protocol.proofs.Gathered.{IsRound}
use Rattle.roc_law_protocol.proofs.Firsts.{found_at}
use Rattle.roc_law_protocol.proofs.AcceptedSubmissions.{Submitting, is_refused, is_accepted, submitting}
use Rattle.roc_law_protocol.proofs.Ends.{server_takes}
use Rattle.roc_law_protocol.proofs.Hears.{AreKept, Hears, SeeksAll, AreWaiting}
use Rattle.roc_law_protocol.proofs.Idle.{run_idle}
use Rattle.roc_law_protocol.proofs.MarksKept.{ended_by}
use Rattle.roc_law_protocol.proofs.Refusals.{IsTakenAs}
use Rattle.roc_law_protocol.proofs.Serial as serial
use Rattle.roc_law_protocol.proofs.Transactions.{transaction_or_none}
use Rattle.roc_law_protocol.proofs.Takes.{EndsIt, nothing_changes, message_result}
use Rattle.roc_law_protocol.proofs.Counting.{counts_step, none_counts}
use Rattle.roc_law_protocol.proofs.Stopping.{take_has, fewer_good}
use Rattle.roc_law_protocol.proofs.StoppedHearing.{stopped_heard}
use Rattle.roc_law_protocol.proofs.Delivered.{IsStartedIn, IsTaken, EndsWaiting, Awaits, IsMarked, Heard, later_sends, awaits_more, heard_next, heard_comes, heard_weaker, later_served, marked_now, taken_now, ends_now, awaits_after}
use Rattle.roc_law_protocol.proofs.KeptAside.{kept_aside}
use Rattle.std.proofs.lemmas.List.{map-append}

-- a delivery of the message at place k of the network counts
abbrev pub HasCome : List (Option Event) → List Envelope → ℕ → Type 0
HasCome events sent k = Counts events sent (suc k)

-- each delivered message was taken, and each server has sent what it waits for; servers keep so many watermarks
abbrev pub HasHeard : ℕ → List (Option Event) → World → Type 0
HasHeard marks events w = Heard marks w.servers w.sent (HasCome events w.sent)

-- the start that comes is in the network
starts_here : (sent : List Envelope) (m : Envelope) → Has m sent → (n : ℕ) → m.to ≡ Server (record { 0 = n }) → (msg : Msg) → m.msg ≡ msg → StartsHere (IsStartedIn sent n) msg
starts_here sent m h n to (Start id proc group args inputs) e = (proc, args, inputs, m, h, to, e)
starts_here sent m h n to msg e = tt

-- ---- which messages came

-- behind an event that brings no message those count that counted, and are to no server that it stops
came_before : (events : List (Option Event)) (e : Option Event) → ((k : ℕ) → e ≢ Some (Deliver k)) → (sent more : List Envelope) (j : ℕ) → HasCome (events ++ e ∷ []) (sent ++ more) j → HasCome events sent j
came_before events e none sent more j c = elim (counts_step events e sent more (suc j) c) [ inl now ↦ absurd (none (suc j) now) | inr was ↦ was.0 ]

-- what came once message k came had come before, or is it
came_or_comes : (events : List (Option Event)) (k : ℕ) (sent more : List Envelope) (j : ℕ) → HasCome (events ++ Some (Deliver k) ∷ []) (sent ++ more) j → (j ≡ k - 1) ⊎ HasCome events sent j
came_or_comes events k sent more j c = elim (counts_step events (Some (Deliver k)) sent more (suc j) c) [ inl now ↦ inl (place k (number now)) | inr was ↦ inr was.0 ]
  where
    number : Some (Deliver k) ≡ Some (Deliver (suc j)) → k ≡ suc j
    number e = cc

    place : (k : ℕ) → k ≡ suc j → j ≡ k - 1
    place k e = omega (arith, e)

-- ---- a step of a server

module _ (plan : Plan) (marks : ℕ) (events : List (Option Event)) (w : World) (o : HasHeard marks events w) (n : ℕ) (s : ServerState) (there : slice_get w.servers n ≡ Some s) (number : s.shard.0 ≡ n) (r : ServerStep) (h : Hears s r) (g : KeepsGood plan (λ t es. Unit {0}) (IsStartedIn w.sent n) s r) where
  abbrev more : List Envelope
  more = map (sent_by (Server (record { 0 = n }))) r.sends

  -- nothing is taken back
  pub served_heard : Heard marks (slice_set w.servers n r.state) (w.sent ++ more) (HasCome events w.sent)
  served_heard =
      heard_next marks w.servers (slice_set w.servers n r.state) w.sent more (HasCome events w.sent) o (later_served plan w.servers w.sent n s there number r h g)
      (marked_now plan w.servers w.sent n s there number r h g marks (o.keeps n s there))
      (λ m v e. elim (get-set_cases w.servers n m s r.state v there e) [
        | inl k ↦ subst (λ m. Awaits (w.sent ++ more) m v) k.0 (subst (Awaits (w.sent ++ more) n) (sym k.1) (awaits_after plan w.servers w.sent n s there number r h g (o.awaits n s there)))
        | inr k ↦ awaits_more w.sent more m v (o.awaits m v k.1)
      ])

-- ---- a step of a coordinator

-- what a coordinator sends is no settled
round_marked : (marks : ℕ) (msg : Msg) → IsRound msg → IsMarked marks msg
round_marked marks (Start id proc group args inputs) k = tt
round_marked marks (Commit id edges facts) k = tt
round_marked marks (Ended coord mark) k = tt
round_marked marks msg k = absurd k

-- it changes no server
coordinated_heard : (marks : ℕ) (events : List (Option Event)) (w : World) → HasHeard marks events w → (n : ℕ) (outs : List Outgoing) → ((out : Outgoing) → Has out outs → IsRound out.msg)
    → Heard marks w.servers (w.sent ++ map (sent_by (Coord n)) outs) (HasCome events w.sent)
coordinated_heard marks events w o n outs rounds =
    let more = map (sent_by (Coord n)) outs in
    heard_next marks w.servers w.servers w.sent more (HasCome events w.sent) o (later_sends w.sent more w.servers)
    (λ m k. let q = from_has_map (sent_by (Coord n)) m outs k in subst (λ (m : Envelope). IsMarked marks m.msg) (sym q.2) (round_marked marks q.0.msg (rounds q.0 q.1)))
    (λ m v e. awaits_more w.sent more m v (o.awaits m v e))

-- a message that comes to a coordinator leaves nothing that is asked for here
coord_takes : (servers : List ServerState) (sent : List Envelope) (k : ℕ) (msg : Msg) (n : ℕ) → IsTaken servers sent k msg (Coord n)
coord_takes servers sent k (Start id proc group args inputs) n = tt
coord_takes servers sent k msg n = tt

-- and answers no fetch
coord_ends : (servers : List ServerState) (m : Envelope) (n : ℕ) → m.to ≡ Coord n → EndsWaiting servers m
coord_ends servers m n to t i v there tells = absurd (to_both (sym to ∙ tells.0))
  where
    to_both : Coord n ≡ Server (record { 0 = i }) → ⊥
    to_both e = cc

-- what is seen as done was taken, and what is seen as gone came too late
was_done : (a : Handled) → (server_seen a ≡ seen.Done) ⊎ (server_seen a ≡ seen.Gone) → IsTakenAs a
was_done Done e = inl refl
was_done Gone e = inr refl
was_done (Ignored why) (inl e) = absurd (cc)
was_done (Ignored why) (inr e) = absurd (cc)

module _ (plan : Plan) (marks : ℕ) (events : List (Option Event)) (w : World) (ha : HasAsked w) (takes : (k : ℕ) (m : Envelope) (shard : Shard) (v : Outcome) → slice_get w.sent (k - 1) ≡ Some m → m.to ≡ Server shard → Happens plan w (Deliver k) v → (v.seen ≡ seen.Done) ⊎ (v.seen ≡ seen.Gone))
    (kept : (m : Envelope) → Has m w.sent → (n : ℕ) (s : ServerState) → slice_get w.servers n ≡ Some s → AreKept s) (o : HasHeard marks events w) where
  -- a settled in the network names a watermark that ends its transaction once it is heard
  ends_it : (n : ℕ) (s : ServerState) → slice_get w.servers n ≡ Some s → (msg : Msg) → IsMarked marks msg → EndsIt s msg
  ends_it n s at (Settled id mark) m = ended_by s.below id mark m.0 (subst (λ l. id.coord < l) (sym (o.keeps n s at)) m.1)
  ends_it n s at msg m = tt

  deliver_heard : (k : ℕ) (b : Envelope) → 0 < k → slice_get w.sent (k - 1) ≡ Some b → (to : Node) → b.to ≡ to → (v : Outcome) → IsReceived plan (mark_delivered w k) b.msg to v → HasHeard marks (events ++ Some (Deliver k) ∷ []) v.world
  deliver_heard k b some there (Server shard) to v (s, r, at, step, e) =
      let has = has_at w.sent (k - 1) b there in
      let starts = (o.awaits shard.0 s at).starts in
      let result = message_result plan s (kept b has shard.0 s at) starts.same b.msg r (ends_it shard.0 s at b.msg (o.marked b has)) step in
      let done = takes k b shard v there to (b, some, there, subst (λ to. IsReceived plan (mark_delivered w k) b.msg to v) (sym to) (s, r, at, step, e)) in
      let left = result.1 (was_done r.answer (subst (λ (v : Outcome). (v.seen ≡ seen.Done) ⊎ (v.seen ≡ seen.Gone)) e done)) in
      let g = message_good plan (λ t es. Unit {0}) (IsStartedIn w.sent shard.0) s starts b.msg r step (λ k h. tt) (starts_here w.sent b has shard.0 to b.msg refl) in
      let number = ha.numbers shard.0 s at in
      let after = slice_set w.servers shard.0 r.state in
      let sent = w.sent ++ map (sent_by (Server shard)) r.sends in
      let next = served_heard plan marks events w o shard.0 s at number r result.0 g in
      let taken = subst (IsTaken after sent (k - 1) b.msg) (sym to) (taken_now plan w.servers w.sent shard.0 s at number r result.0 g (k - 1) b.msg shard (slice_get_within w.sent (k - 1) b there) refl left) in
      subst (λ (v : Outcome). HasHeard marks (events ++ Some (Deliver k) ∷ []) v.world) (sym e)
      (heard_comes marks after sent (HasCome events w.sent) (HasCome (events ++ Some (Deliver k) ∷ []) sent) (k - 1) b next
      (came_or_comes events k w.sent (map (sent_by (Server shard)) r.sends))
      (get-front w.sent (map (sent_by (Server shard)) r.sends) (k - 1) b there) taken
      (ends_now plan w.servers w.sent shard.0 s at number r result.0 g b to left))
  deliver_heard k b some there (Coord n) to v (s, at, e) =
      let a = after_message plan s b.msg in
      let sent = w.sent ++ map (sent_by (Coord n)) a.sends in
      subst (λ (v : Outcome). HasHeard marks (events ++ Some (Deliver k) ∷ []) v.world) (sym e)
      (heard_comes marks w.servers sent (HasCome events w.sent) (HasCome (events ++ Some (Deliver k) ∷ []) sent) (k - 1) b (coordinated_heard marks events w o n a.sends (message_round plan s b.msg (fetched_none (IsAskedFor w.servers) b.msg b.to (ha.sent b (has_at w.sent (k - 1) b there)))))
      (came_or_comes events k w.sent (map (sent_by (Coord n)) a.sends))
      (get-front w.sent (map (sent_by (Coord n)) a.sends) (k - 1) b there)
      (subst (IsTaken w.servers sent (k - 1) b.msg) (sym to) (coord_takes w.servers sent (k - 1) b.msg n))
      (coord_ends w.servers b n to))

  -- an event that brings no message
  rests : (e : Option Event) → ((k : ℕ) → e ≢ Some (Deliver k)) → (servers : List ServerState) (more : List Envelope) → Heard marks servers (w.sent ++ more) (HasCome events w.sent) → Heard marks servers (w.sent ++ more) (HasCome (events ++ e ∷ []) (w.sent ++ more))
  rests e none servers more h = heard_weaker marks servers (w.sent ++ more) (HasCome events w.sent) (HasCome (events ++ e ∷ []) (w.sent ++ more)) h (came_before events e none w.sent more)

  -- and one that leaves the network
  stays : (e : Option Event) → ((k : ℕ) → e ≢ Some (Deliver k)) → HasHeard marks (events ++ e ∷ []) w
  stays e none = heard_weaker marks w.servers w.sent (HasCome events w.sent) (HasCome (events ++ e ∷ []) w.sent) o (λ j c. came_before events e none w.sent [] j (subst (λ sent. HasCome (events ++ e ∷ []) sent j) (sym (append-nil w.sent)) c))

  nothing_comes : (k : ℕ) → None ≢ Some (Deliver k)
  nothing_comes k e = cc

  stop_heard : (shard : Shard) (during : Option (ℕ × Kept)) (v : Outcome) → IsTransactionStop plan w shard.0 during v → HasHeard marks (events ++ Some (Stop shard during) ∷ []) v.world
  stop_heard shard during v x = subst (λ (v : Outcome). HasHeard marks (events ++ e ∷ []) v.world) (sym x.is) (go during x.before x.step x.stops)
    where
      e : Option Event
      e = Some (Stop shard during)

      never : (k : ℕ) → Some (Stop shard during) ≢ Some (Deliver k)
      never k e = cc

      place : (k : ℕ) → k ≡ suc k - 1
      place k = omega arith

      -- what counts behind it counted before, and is to no server that stopped
      less : (more again : List Envelope) (k : ℕ) → HasCome (events ++ Some (Stop shard during) ∷ []) ((w.sent ++ more) ++ again) k → HasCome events w.sent k × ((m : Envelope) → slice_get w.sent k ≡ Some m → m.to ≢ Server shard)
      less more again k c = elim (counts_step events (Some (Stop shard during)) w.sent (more ++ again) (suc k) (subst (λ sent. HasCome (events ++ Some (Stop shard during) ∷ []) sent k) (append_assoc w.sent more again) c)) [
        | inl now ↦ absurd (never (suc k) now)
        | inr was ↦ (was.0, λ m at to. was.1 m (subst (λ k. slice_get w.sent k ≡ Some m) (place k) at) to)
      ]

      -- behind this step, and the tick
      behind : (r : ServerStep) → (AreWaiting x.state → AreWaiting r.state) → (SeeksAll x.state → SeeksAll r.state) → KeepsGood plan (λ t es. Unit {0}) (IsStartedIn w.sent shard.0) x.state r
          → Heard marks (slice_set w.servers shard.0 r.state) ((w.sent ++ map (sent_by (Server shard)) r.sends) ++ map (sent_by (Server shard)) (server.tick_sends r.state)) (HasCome (events ++ Some (Stop shard during) ∷ []) ((w.sent ++ map (sent_by (Server shard)) r.sends) ++ map (sent_by (Server shard)) (server.tick_sends r.state)))
      behind r waits seeks g =
          stopped_heard plan marks w.servers w.sent (HasCome events w.sent) o shard.0 x.state x.there (ha.numbers shard.0 x.state x.there) r waits seeks g
          (HasCome (events ++ Some (Stop shard during) ∷ []) ((w.sent ++ map (sent_by (Server shard)) r.sends) ++ map (sent_by (Server shard)) (server.tick_sends r.state)))
          (less (map (sent_by (Server shard)) r.sends) (map (sent_by (Server shard)) (server.tick_sends r.state)))

      rest : KeepsGood plan (λ t es. Unit {0}) (IsStartedIn w.sent shard.0) x.state (answered x.state [])
      rest = fewer_good plan (λ t es. Unit {0}) (IsStartedIn w.sent shard.0) x.state (answered x.state (server.tick_sends x.state)) [] (λ out h. absurd h) (tick_good plan (λ t es. Unit {0}) (IsStartedIn w.sent shard.0) x.state (o.awaits shard.0 x.state x.there).starts)

      go : (d : Option (ℕ × Kept)) (before : World) (step : ServerStep) → TransactionStopsIn plan w shard.0 x.state d before step → HasHeard marks (events ++ Some (Stop shard during) ∷ []) (transaction_restarted before shard.0 step).world
      go d before step at_rest = behind (answered x.state []) (λ a. a) (λ a. a) rest
      go d before step (unrecorded k m sent) = behind (answered x.state []) (λ a. a) (λ a. a) rest
      go d before step (recorded k many m r sent handles) =
          let has = has_at w.sent (k - 1) m sent.there in
          let starts = (o.awaits shard.0 x.state x.there).starts in
          let result = message_result plan x.state (kept m has shard.0 x.state x.there) starts.same m.msg r (ends_it shard.0 x.state x.there m.msg (o.marked m has)) handles in
          let g = message_good plan (λ t es. Unit {0}) (IsStartedIn w.sent shard.0) x.state starts m.msg r handles (λ k h. tt) (starts_here w.sent m has shard.0 sent.to m.msg refl) in
          behind (cut_short many r) result.0.waits result.0.seeks (fewer_good plan (λ t es. Unit {0}) (IsStartedIn w.sent shard.0) x.state r _ (take_has many r.sends) g)

  step_heard : (e : Option Event) (v : Outcome) → Moves plan w e v → HasHeard marks (events ++ e ∷ []) v.world
  step_heard None v (inl h) = subst (λ (v : Outcome). HasHeard marks (events ++ None ∷ []) v.world) (sym h) (stays None nothing_comes)
  step_heard None v (inr x) =
      let k = kept_aside plan x.before x.after x.sends x.does in
      subst (λ (v : Outcome). HasHeard marks (events ++ None ∷ []) v.world) (sym x.is)
      (rests None nothing_comes w.servers (map (sent_by (Coord x.number)) x.sends)
      (coordinated_heard marks events w o x.number x.sends (λ out h. subst (λ (out : Outgoing). IsRound out.msg) (sym (k.marks out h).is) tt)))
  step_heard (Some (Submit n proc args)) v (s, there, h) = go (submitting plan w n proc args s v h)
    where
      never : (k : ℕ) → Some (Submit n proc args) ≢ Some (Deliver k)
      never k e = cc

      go : Submitting plan w n proc args s v → HasHeard marks (events ++ Some (Submit n proc args) ∷ []) v.world
      go (is_refused e) = subst (HasHeard marks (events ++ Some (Submit n proc args) ∷ [])) (sym e) (stays (Some (Submit n proc args)) never)
      go (is_accepted known counted e) =
          let a = accepted plan s (new_transaction s proc args) in
          subst (HasHeard marks (events ++ Some (Submit n proc args) ∷ [])) (sym e) (rests (Some (Submit n proc args)) never w.servers (map (sent_by (Coord n)) a.sends) (coordinated_heard marks events w o n a.sends (submission_round plan s proc args)))
  step_heard (Some (Deliver k)) v (b, some, there, h) = deliver_heard k b some there b.to refl v h
  step_heard (Some (Tick (Server shard))) v (s, there, e) =
      let r = answered s (server.tick_sends s) in
      let g = tick_good plan (λ t es. Unit {0}) (IsStartedIn w.sent shard.0) s (o.awaits shard.0 s there).starts in
      subst (λ (v : Outcome). HasHeard marks (events ++ Some (Tick (Server shard)) ∷ []) v.world) (sym e)
      (rests (Some (Tick (Server shard))) (never (Server shard)) (slice_set w.servers shard.0 r.state) (map (sent_by (Server shard)) r.sends)
      (served_heard plan marks events w o shard.0 s there (ha.numbers shard.0 s there) r (nothing_changes plan s (server.tick_sends s)) g))
    where
      never : (node : Node) (k : ℕ) → Some (Tick node) ≢ Some (Deliver k)
      never node k e = cc
  step_heard (Some (Tick (Coord n))) v (s, there, e) =
      let outs = transaction_tick_sends plan s in
      subst (λ (v : Outcome). HasHeard marks (events ++ Some (Tick (Coord n)) ∷ []) v.world) (sym e) (rests (Some (Tick (Coord n))) (never (Coord n)) w.servers (map (sent_by (Coord n)) outs) (coordinated_heard marks events w o n outs (tick_round plan s)))
    where
      never : (node : Node) (k : ℕ) → Some (Tick node) ≢ Some (Deliver k)
      never node k e = cc
  step_heard (Some (Stop shard during)) v x = stop_heard shard during v x

-- what is kept as taken is decided
kept_there : (plan : Plan) (start : Beginning) → IsBeginning plan start → HasSchemesFrom plan start.store → ((S : Scheme) → IsSoundScheme S → LogLaws S start.store) → StoreLaws → (coords : ℕ) (steps : List Stepped) (w : World) → IsRunBeside plan start coords steps w
    → (m : Envelope) → Has m w.sent → (n : ℕ) (s : ServerState) → slice_get w.servers n ≡ Some s → AreKept s
kept_there plan start begins schemes laws stores coords steps w run m has n s there = elim (transaction_or_none plan) [
  | inl some ↦ ((serial.logged plan start begins schemes laws stores coords steps w run some).1.means.servers n s there).taken.decided
  | inr none ↦ λ c t h. absurd (subst (Has c) ((run_idle plan none start begins coords steps w run).servers n s there).taken h)
]

-- so it is in every world of every run, where each server keeps as many watermarks as the others
pub run_heard : (plan : Plan) (start : Beginning) → IsBeginning plan start → HasSchemesFrom plan start.store → ((S : Scheme) → IsSoundScheme S → LogLaws S start.store) → StoreLaws → (marks : ℕ) → ((n : ℕ) → length (start.below n) ≡ marks)
    → (coords : ℕ) (steps : List Stepped) (w : World) → IsRunBeside plan start coords steps w → HasHeard marks (map (λ s. s.event) steps) w
run_heard plan start begins schemes laws stores marks many coords steps w beside_begins =
    record {
      keeps = λ n s h. ap (λ (s : ServerState). length s.below) (found_at (begun_server start) 0 plan.program.shards n s h) ∙ many (0 + n);
      marked = λ m h. absurd h;
      placed = λ k c. absurd (none_counts [] (suc k) c);
      taken = λ k m c. absurd (none_counts [] (suc k) c);
      fresh = λ n s h a j. (let e = found_at (begun_server start) 0 plan.program.shards n s h in elim (subst (λ (s : ServerState). Has a s.lists.waiting.asked) e j) [ ]);
      awaits = λ n s h. (let e = found_at (begun_server start) 0 plan.program.shards n s h in
          record {
            starts = record {
              groups = λ b j. elim (subst (λ (s : ServerState). Has b s.started) e j) [ ];
              known = λ k j. tt;
              facts = λ b j k i. tt;
              same = subst (λ (s : ServerState). ids_of s.lists.links ≡ ids_of s.lists.known) (sym e) refl;
            };
            askers = λ a j. elim (subst (λ (s : ServerState). Has a s.lists.waiting.askers) e j) [ ];
            seeks = λ k j. elim (subst (λ (s : ServerState). Has k s.lists.links) e j) [ ];
          });
    }
run_heard plan start begins schemes laws stores marks many coords steps w (beside_goes_on {steps = front} {w = v} e o r h) =
    subst (λ events. HasHeard marks events o.world) (sym (map-append (λ (s : Stepped). s.event) front (record { event = e; outcome = o } ∷ [])))
    (step_heard plan marks (map (λ s. s.event) front) v (run_asked plan start coords _ v r) (server_takes plan start begins schemes laws stores coords _ v r) (kept_there plan start begins schemes laws stores coords _ v r) (run_heard plan start begins schemes laws stores marks many coords _ v r) e o h)
