-- Each run of the world is, of transactions alone, a run of theirs
use Rattle.std.proofs.Common.{◌≡◌, ℕ, ℤ, Bool, List, [], ◌∷◌, ◌++◌, Option, Some, None, map, refl, sym, subst, append-nil, arith, ◌∙◌, ◌⊎◌, zero, suc, ◌-◌, ◌<◌, true, take, length, ap, inl, inr, append_assoc}
use Rattle.std.specs.Prelude.{slice_get, Result, Ok, Err}
use Rattle.std.specs.List.{range_with_len, filter}
use Rattle.roc_sequence.specs.Places.{IsListed}
use Rattle.roc_base.specs.TxnId.{is_txn}
use Rattle.roc_sequence.proofs.Members.{has_at, from_has_map, has_more, same_there}
use Rattle.roc_base.specs.declared.id.TxnId.{TxnId}
use Rattle.roc_base.specs.declared.node.Node.{Node}
use Rattle.roc_base.specs.declared.node.Node.TheVariants.{Server, Coord}
use Rattle.roc_msg.specs.declared.msg.Envelope.{Envelope}
use Rattle.roc_msg.specs.declared.outbox.Outgoing.{Outgoing}
use Rattle.roc_plan.specs.Groups.{Plan}
use Rattle.roc_coord.specs.State.{CoordState}
use Rattle.roc_coord.specs.Submit.{after_submit}
use Rattle.roc_coord.specs.declared.handled.SubmitFault.{SubmitFault}
use Rattle.roc_coord.specs.declared.handled.SubmitFault.TheVariants as fault
use Rattle.roc_audit.specs.declared.entry.Entry.{Entry}
use Rattle.roc_law_protocol.specs.declared.event.Event.{Event}
use Rattle.roc_law_protocol.specs.declared.event.Event.TheVariants.{Submit, Deliver, Tick, Stop}
use Rattle.roc_law_protocol.specs.Beginnings as transactions
use Rattle.roc_law_protocol.specs.World as worlds
use Rattle.roc_law_protocol.specs.Beside as their_besides
use Rattle.roc_law_protocol.specs.Run as their_runs
use Rattle.roc_law_world.specs.World.{World, Beginning, begun_world, mark_delivered, at_server}
use Rattle.roc_law_world.specs.Happens.{Outcome, Submits, IsReceived, StopsIn, at_rest, unrecorded, recorded}
use Rattle.roc_law_world.specs.Run.{Stepped, Transition, IsRunFrom, at_beginning, steps_on}
use Rattle.roc_law_world.specs.Bare.{bare_step, bare_steps}
use Rattle.roc_law_world.specs.Beside.{TellsViews, AreStepsBeside, none_stepped, one_more_stepped, is_of_transaction, number_among}
use Rattle.roc_law_world.proofs.Coordinators.{IsCoordSound}
use Rattle.roc_law_world.proofs.Besides.{Holds, Follows}
use Rattle.roc_law_world.proofs.TakenAlike.{TakeAlike, alike_more}
use Rattle.roc_law_world.proofs.Steps.{follows, tells_before}
use Rattle.roc_law_world.proofs.Stops.{stop_keeps, by_parts}
use Rattle.std.proofs.lemmas.List.{length-append, map-append, take-append-le}
use Rattle.std.proofs.lemmas.Option.{slice_get_within}
use Rattle.roc_base.specs.declared.node.Shard.{Shard}
use Rattle.roc_step.specs.State.{ServerStep}
use Rattle.roc_step.specs.Reads.{ReadStep}
use Rattle.roc_law_protocol.specs.declared.event.Kept.{Kept}
use Rattle.roc_law_protocol.proofs.Counting.{counts_step, none_counts}
use Rattle.roc_law_protocol.proofs.Changed.{get-front}
use Rattle.roc_law_world.proofs.Sent.{found_beside}
use Rattle.roc_law_protocol.specs.Quiet as quiets

-- ---- a history grows at its end

pub record Grows (old new : List Entry) : Type 0 where
  pub more : List Entry
  pub is : new ≡ old ++ more

same : (h : List Entry) → Grows h h
same h = record { more = []; is = sym (append-nil h) }

submits_grow : (w : World) (n proc : ℕ) (args : List ℤ) (after : CoordState) (outs : List Outgoing) (r : Result TxnId SubmitFault) (o : Outcome)
    → Submits w n proc args after outs r o → Grows w.history o.world.history
submits_grow w n proc args after outs (Ok id) o h = subst (λ (o : Outcome). Grows w.history o.world.history) (sym h) (record { more = _; is = refl })
submits_grow w n proc args after outs (Err fault.Spent) o h = subst (λ (o : Outcome). Grows w.history o.world.history) (sym h) (same w.history)
submits_grow w n proc args after outs (Err fault.Busy) o h = subst (λ (o : Outcome). Grows w.history o.world.history) (sym h) (same w.history)
submits_grow w n proc args after outs (Err fault.NoProc) o h = absurd h
submits_grow w n proc args after outs (Err fault.Args) o h = absurd h
submits_grow w n proc args after outs (Err fault.NoMemory) o h = absurd h

pub grows : (plan : Plan) (w : World) (e : Option Event) (o : Outcome) → Transition plan w e o → Grows w.history o.world.history
grows plan w None o h = subst (λ (o : Outcome). Grows w.history o.world.history) (sym h) (same w.history)
grows plan w (Some (Submit n proc args)) o (s, there, h) = submits_grow w n proc args (after_submit plan s proc args).state (after_submit plan s proc args).sends (after_submit plan s proc args).answer o h
grows plan w (Some (Deliver k)) o (m, some, there, h) = go m.to h
  where
    go : (to : Node) → IsReceived plan (mark_delivered w k) m.msg to o → Grows w.history o.world.history
    go (Server shard) g = subst (λ (o : Outcome). Grows w.history o.world.history) (sym g.is) (same w.history)
    go (Coord n) (s, at, e) = subst (λ (o : Outcome). Grows w.history o.world.history) (sym e) (record { more = _; is = refl })
grows plan w (Some (Tick (Server shard))) o (s, v, there, keeps, e) = subst (λ (o : Outcome). Grows w.history o.world.history) (sym e) (same w.history)
grows plan w (Some (Tick (Coord n))) o (s, there, e) = subst (λ (o : Outcome). Grows w.history o.world.history) (sym e) (same w.history)
grows plan w (Some (Stop shard during)) o x = record { more = []; is = (stop_keeps plan w shard.0 during o x).0 ∙ sym (append-nil w.history) }

-- ---- and so does the network

record Sends (w v : World) : Type 0 where
  pub more : List Envelope
  pub is : v.sent ≡ w.sent ++ more

sends_none : (w : World) → Sends w w
sends_none w = record { more = []; is = sym (append-nil w.sent) }

sends_on : (u v w : World) → Sends u v → Sends v w → Sends u w
sends_on u v w a b = record { more = a.more ++ b.more; is = b.is ∙ (ap (λ l. l ++ b.more) a.is ∙ append_assoc u.sent a.more b.more) }

sends_submission : (w : World) (n proc : ℕ) (args : List ℤ) (after : CoordState) (outs : List Outgoing) (r : Result TxnId SubmitFault) (o : Outcome) → Submits w n proc args after outs r o → Sends w o.world
sends_submission w n proc args after outs (Ok id) o h = subst (λ (o : Outcome). Sends w o.world) (sym h) (record { more = _; is = refl })
sends_submission w n proc args after outs (Err fault.Spent) o h = subst (λ (o : Outcome). Sends w o.world) (sym h) (sends_none w)
sends_submission w n proc args after outs (Err fault.Busy) o h = subst (λ (o : Outcome). Sends w o.world) (sym h) (sends_none w)
sends_submission w n proc args after outs (Err fault.NoProc) o h = absurd h
sends_submission w n proc args after outs (Err fault.Args) o h = absurd h
sends_submission w n proc args after outs (Err fault.NoMemory) o h = absurd h

sends_more : (plan : Plan) (w : World) (e : Option Event) (o : Outcome) → Transition plan w e o → Sends w o.world
sends_more plan w None o h = subst (λ (o : Outcome). Sends w o.world) (sym h) (sends_none w)
sends_more plan w (Some (Submit n proc args)) o (s, there, h) = sends_submission w n proc args (after_submit plan s proc args).state (after_submit plan s proc args).sends (after_submit plan s proc args).answer o h
sends_more plan w (Some (Deliver k)) o (m, some, there, h) = go m.to h
  where
    go : (to : Node) → IsReceived plan (mark_delivered w k) m.msg to o → Sends w o.world
    go (Server shard) g = subst (λ (o : Outcome). Sends w o.world) (sym g.is) (record { more = _; is = refl })
    go (Coord n) (s, at, e) = subst (λ (o : Outcome). Sends w o.world) (sym e) (record { more = _; is = refl })
sends_more plan w (Some (Tick (Server shard))) o (s, v, there, keeps, e) = subst (λ (o : Outcome). Sends w o.world) (sym e) (record { more = _; is = refl })
sends_more plan w (Some (Tick (Coord n))) o (s, there, e) = subst (λ (o : Outcome). Sends w o.world) (sym e) (record { more = _; is = refl })
sends_more plan w (Some (Stop shard during)) o x = by_parts plan w shard.0 (Sends w) (λ v s z p there keeps. sends_on w v _ p (record { more = _; is = refl })) during o x (go during x.before x.step x.reads x.stops)
  where
    go : (during : Option (ℕ × Kept)) (before : World) (step : ServerStep) (reads : ReadStep) → StopsIn plan w shard.0 x.state x.viewing during before step reads → Sends w (at_server before shard.0 step reads)
    go during before step reads at_rest = record { more = _; is = refl }
    go during before step reads (unrecorded k m sent) = record { more = _; is = refl }
    go during before step reads (recorded k many m r q sent handles answers) = record { more = _; is = refl }

-- ---- deliveries that count beside others

abbrev events_of : List Stepped → List (Option Event)
events_of steps = map (λ (s : Stepped). s.event) steps

abbrev theirs_of : List their_runs.Stepped → List (Option Event)
theirs_of steps = map (λ (s : their_runs.Stepped). s.event) steps

-- a delivery of a message of transactions counts beside one that does
pub record AreCountsBeside (events others : List (Option Event)) (w : World) (t : worlds.World) : Type 0 where
  pub placed : (k : ℕ) → quiets.Counts events w.sent (suc k) → k < length w.sent
  pub counts : (k : ℕ) (m : Envelope) → slice_get w.sent k ≡ Some m → is_of_transaction m ≡ true → quiets.Counts events w.sent (suc k) → quiets.Counts others t.sent (suc (number_among w.sent k))

pub stop_of : (f : Option Event) (to : Node) → quiets.StopsReceiver f to → (shard : Shard) × (during : Option (ℕ × Kept)) × (f ≡ Some (Stop shard during)) × (to ≡ Server shard)
stop_of (Some (Stop shard during)) to s = (shard, during, refl, s)
stop_of (Some (Submit n proc args)) to s = absurd s
stop_of (Some (Deliver k)) to s = absurd s
stop_of (Some (Tick node)) to s = absurd s
stop_of None to s = absurd s

pub less_of : (k : ℕ) → suc k - 1 ≡ k
less_of k = omega arith

module _ (plan : Plan) (is_view : TxnId → Bool) (events others : List (Option Event)) (w : World) (t : worlds.World) (h : Holds plan is_view w t) (c : AreCountsBeside events others w t) (e : Option Event) (o : Outcome) (moved : Transition plan w e o)
    (f : Follows plan is_view w t e o) where
  grown : Sends w o.world
  grown = sends_more plan w e o moved

  abbrev Now : ℕ → Type 0
  Now k = quiets.Counts (events ++ e ∷ []) o.world.sent (suc k)

  cases_of : (k : ℕ) → quiets.Counts (events ++ e ∷ []) o.world.sent (suc k) → (e ≡ Some (Deliver (suc k))) ⊎ (quiets.Counts events w.sent (suc k) × ((m : Envelope) → slice_get w.sent (suc k - 1) ≡ Some m → ¬ quiets.StopsReceiver e m.to))
  cases_of k d = counts_step events e w.sent grown.more (suc k) (subst (λ sent. quiets.Counts (events ++ e ∷ []) sent (suc k)) grown.is d)

  -- the message of a delivery was sent
  was_there : (k : ℕ) → e ≡ Some (Deliver (suc k)) → (m : Envelope) × (slice_get w.sent k ≡ Some m)
  was_there k now = let d = subst (λ e. Transition plan w e o) now moved in (d.0, subst (λ k. slice_get w.sent k ≡ Some d.0) (less_of k) d.2)

  within : (k : ℕ) → quiets.Counts (events ++ e ∷ []) o.world.sent (suc k) → k < length w.sent
  within k d = elim (cases_of k d) [ inl now ↦ (let m = was_there k now in slice_get_within w.sent k m.0 m.1) | inr was ↦ c.placed k was.0 ]

  found : (k : ℕ) (m : Envelope) → k < length w.sent → slice_get o.world.sent k ≡ Some m → slice_get w.sent k ≡ Some m
  found k m l at = front_at w.sent grown.more k m l (subst (λ sent. slice_get sent k ≡ Some m) grown.is at)
    where
      front_at : (xs ys : List Envelope) (k : ℕ) (m : Envelope) → k < length xs → slice_get (xs ++ ys) k ≡ Some m → slice_get xs k ≡ Some m
      front_at [] ys k m l at = absurd (omega arith)
      front_at (x ∷ xs) ys zero m l at = at
      front_at (x ∷ xs) ys (suc k) m l at = front_at xs ys k m (omega arith) at

  same_number : (k : ℕ) → k < length w.sent → number_among w.sent k ≡ number_among o.world.sent k
  same_number k l = ap (λ ms. length (filter is_of_transaction ms)) (sym (ap (take k) grown.is ∙ take-append-le k w.sent grown.more (omega arith)))

  -- it counts beside
  counts_on : (k : ℕ) (m : Envelope) → slice_get w.sent k ≡ Some m → is_of_transaction m ≡ true → quiets.Counts (events ++ e ∷ []) o.world.sent (suc k) → quiets.Counts (others ++ f.event ∷ []) f.outcome.world.sent (suc (number_among w.sent k))
  counts_on k m at of d = elim (cases_of k d) [
    | inl now ↦ record { front = others; behind = []; at = ap (λ e. others ++ e ∷ []) (f.events.comes k m at of now); since = λ g b has. absurd has }
    | inr was ↦ (let q = c.counts k m at of was.0 in record {
      front = q.front;
      behind = q.behind ++ f.event ∷ [];
      at = ap (λ l. l ++ f.event ∷ []) q.at ∙ append_assoc q.front (Some (Deliver (suc (number_among w.sent k))) ∷ q.behind) (f.event ∷ []);
      since = λ g b has there stop.
          (let same : b ≡ m = the_message b there in
          elim (has_more g f.event q.behind has) [
            | inl old ↦ q.since g m old (subst (λ i. slice_get t.sent i ≡ Some m) (sym (less_of (number_among w.sent k))) (found_beside is_view w t h.beside k m at of)) (subst (λ (b : Envelope). quiets.StopsReceiver g b.to) same stop)
            | inr last ↦
                (let s = stop_of f.event b.to (subst (λ g. quiets.StopsReceiver g b.to) last stop) in
                let own = f.events.stops s.0 s.1 s.2 in
                was.1 m (subst (λ k. slice_get w.sent k ≡ Some m) (sym (less_of k)) at) (subst (λ e. quiets.StopsReceiver e m.to) (sym own.1) (ap (λ (b : Envelope). b.to) (sym same) ∙ s.3)))
          ]);
    })
  ]
    where
      the_message : (b : Envelope) → slice_get f.outcome.world.sent (suc (number_among w.sent k) - 1) ≡ Some b → b ≡ m
      the_message b there =
          let later = found_beside is_view o.world f.outcome.world f.holds.beside k m (subst (λ sent. slice_get sent k ≡ Some m) (sym grown.is) (get-front w.sent grown.more k m at)) of in
          let here = subst (λ i. slice_get f.outcome.world.sent i ≡ Some m) (sym (same_number k (slice_get_within w.sent k m at))) later in
          same_there f.outcome.world.sent (number_among w.sent k) b m (subst (λ i. slice_get f.outcome.world.sent i ≡ Some b) (less_of (number_among w.sent k)) there) here

  pub counts_go_on : AreCountsBeside (events ++ e ∷ []) (others ++ f.event ∷ []) o.world f.outcome.world
  counts_go_on =
      record {
        placed = λ k d. (let l = within k d in let long = ap length grown.is ∙ length-append w.sent grown.more in omega (arith, l, long));
        counts = λ k m at of d. (let l = within k d in subst (λ i. quiets.Counts (others ++ f.event ∷ []) f.outcome.world.sent (suc i)) (same_number k l) (counts_on k m (found k m l at) of d));
      }

-- ---- runs

pub no_message : (k : ℕ) (m : Envelope) → slice_get [] k ≡ Some m → ⊥
no_message k m h = cc

module _ (plan : Plan) (b : Beginning) (coords : ℕ) (is_view : TxnId → Bool) where
  -- what holds beside a run
  pub record IsRunBeside (steps : List Stepped) (w : World) : Type 0 where
    pub others : List their_runs.Stepped
    pub world : worlds.World
    pub run : their_besides.IsRunBeside plan b.of_transactions coords others world
    pub holds : Holds plan is_view w world
    pub stepped : AreStepsBeside steps others
    pub counted : AreCountsBeside (map (λ (s : Stepped). s.event) steps) (map (λ (s : their_runs.Stepped). s.event) others) w world
    pub taken : TakeAlike (bare_steps steps) others

  abbrev begun : IsRunBeside [] (begun_world plan b coords)
  begun =
      record {
        others = [];
        world = transactions.begun_world plan b.of_transactions coords;
        run = their_besides.beside_begins;
        holds = record {
          beside = record { servers = refl; coords = refl; sent = refl; undelivered = λ k m at is. absurd (no_message k m at); history = refl; order = refl };
          coords = λ n s at. let q = from_has_map (transactions.begun_coord b.of_transactions) s (range_with_len 0 coords) (has_at (map (transactions.begun_coord b.of_transactions) (range_with_len 0 coords)) n s at) in
              subst (IsCoordSound is_view) (sym q.2) (record { pending = refl; views = λ v h. absurd h; once = tt; past = λ t h. absurd (nothing t h) });
        };
        stepped = none_stepped;
        counted = record { placed = λ k d. absurd (none_counts [] (suc k) d); counts = λ k m at of d. absurd (none_counts [] (suc k) d) };
        taken = tt;
      }
    where
      nothing : (t : TxnId) → IsListed is_txn [] t → ⊥
      nothing t h = omega arith

  unfoldable pub beside : (steps : List Stepped) (w : World) → IsRunFrom plan b coords steps w → TellsViews plan is_view w.history → IsRunBeside steps w
  beside steps w at_beginning tells = begun
  beside steps w (steps_on {steps = front} {w = v} e o r h) tells =
      let g = grows plan v e o h in
      let before = beside front v r (tells_before plan is_view v.history g.more (subst (TellsViews plan is_view) g.is tells)) in
      let f = follows plan is_view v before.world before.holds e o tells h in
      record {
        others = before.others ++ record { event = f.event; outcome = f.outcome } ∷ [];
        world = f.outcome.world;
        run = their_besides.beside_goes_on f.event f.outcome before.run f.moves;
        holds = f.holds;
        stepped = one_more_stepped (record { event = e; outcome = o }) (record { event = f.event; outcome = f.outcome }) before.stepped f.components f.decided f.ran;
        counted = subst (λ events. AreCountsBeside events (theirs_of (before.others ++ record { event = f.event; outcome = f.outcome } ∷ [])) o.world f.outcome.world) (sym (map-append (λ (s : Stepped). s.event) front (record { event = e; outcome = o } ∷ [])))
            (subst (λ others. AreCountsBeside (events_of front ++ e ∷ []) others o.world f.outcome.world) (sym (map-append (λ (s : their_runs.Stepped). s.event) before.others (record { event = f.event; outcome = f.outcome } ∷ [])))
            (counts_go_on plan is_view (events_of front) (theirs_of before.others) v before.world before.holds before.counted e o h f));
        taken =
            subst (λ l. TakeAlike l (before.others ++ record { event = f.event; outcome = f.outcome } ∷ [])) (sym (map-append bare_step front (record { event = e; outcome = o } ∷ [])))
            (alike_more (bare_steps front) before.others (bare_step (record { event = e; outcome = o })) (record { event = f.event; outcome = f.outcome }) before.taken f.taken);
      }
