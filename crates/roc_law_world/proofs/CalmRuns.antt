-- In every world of a run open views are as they have to be
use Rattle.std.proofs.Common.{◌≡◌, ◌∙◌, ℕ, ℤ, ◌+◌, ◌-◌, ◌<◌, Bool, true, false, List, [], Option, Some, None, length, refl, sym, ap, subst, arith, ◌≢◌, ◌==◌, not, ◌∷◌, ◌++◌, map, append-nil, Result, Ok, Err, suc}
use Rattle.std.specs.Prelude.{slice_get, if◌then◌else◌}
use Rattle.roc_sequence.specs.Lists.{Has}
use Rattle.roc_sequence.proofs.Members.{same_there, has_left, has_right}
use Rattle.roc_base.specs.declared.id.TxnId.{TxnId}
use Rattle.roc_base.specs.declared.node.Node.{Node}
use Rattle.roc_base.specs.declared.node.Node.TheVariants.{Server, Coord}
use Rattle.roc_msg.specs.declared.msg.Envelope.{Envelope}
use Rattle.roc_plan.specs.Groups.{Plan, procedure_of, groups_of, is_view_of}
use Rattle.roc_plan.specs.Accepted.{IsAccepted}
use Rattle.roc_step.specs.Below.{is_ended}
use Rattle.roc_step.specs.State.{ServerState, Viewing, answered, ServerStep}
use Rattle.roc_readonly.specs.declared.view.View.{View}
use Rattle.roc_readonly.specs.Round.{first_round}
use Rattle.roc_coord.specs.Marks.{watermark}
use Rattle.roc_coord.specs.State.{CoordState}
use Rattle.roc_coord.specs.Submit.{Submission, next_id, new_transaction, accepted, accepted_view, accepted_call, after_submit}
use Rattle.roc_audit.specs.History.{WasSubmitted}
use Rattle.roc_law_protocol.specs.Beginnings as protocol
use Rattle.roc_law_protocol.specs.Beginnings.{IsBeginning}
use Rattle.roc_law_protocol.specs.declared.event.Event.{Event}
use Rattle.roc_law_protocol.specs.declared.event.Event.TheVariants.{Submit, Deliver, Tick, Stop}
use Rattle.roc_law_protocol.proofs.Firsts.{found_at}
use Rattle.roc_law_protocol.proofs.SubmissionEnds.{IsSubmission, unknown, miscounted, spent, busy, taken, any_submission_is}
use Rattle.roc_law_world.specs.World.{World, Beginning, begun_world, mark_delivered, sends, at_server, at_coord}
use Rattle.roc_law_world.specs.Happens.{Outcome, IsSubmissionOf, IsReceived, undecided, Submits, served, coordinated, IsServed, no_reads, StopsIn, at_rest, unrecorded, recorded, restarted, IsStopped}
use Rattle.roc_law_world.specs.Run.{Stepped, Transition, IsRunFrom, at_beginning, steps_on}
use Rattle.roc_law_world.specs.Beside.{TellsViews}
use Rattle.roc_law_world.proofs.Coordinators.{IsCoordSound}
use Rattle.roc_law_world.proofs.Numbered.{IsNumbered, numbered}
use Rattle.roc_law_world.proofs.Runs.{grows, beside}
use Rattle.roc_law_world.proofs.Steps.{tells_before}
use Rattle.roc_law_world.proofs.Calm.{AreCalm}
use Rattle.roc_law_world.proofs.CalmServers.{served_calm, ticked_calm}
use Rattle.roc_law_world.proofs.CalmSubmissions.{transaction_calm, view_calm, tick_calm}
use Rattle.roc_law_world.proofs.CalmMessages.{message_calm}
use Rattle.std.proofs.lemmas.List.{map-append}
use Rattle.std.proofs.lemmas.Option.{slice_get_within}
use Rattle.std.specs.List.{filter, range_with_len}
use Rattle.roc_base.specs.declared.node.Shard.{Shard}
use Rattle.roc_msg.specs.declared.outbox.Outgoing.{Outgoing}
use Rattle.roc_step.specs.Reads.{ReadStep}
use Rattle.roc_step.specs.Restarts.{without_reads, cut_short, cut_reads}
use Rattle.roc_coord.specs.Step.{after_message}
use Rattle.roc_coord.specs.Tick.{tick_sends}
use Rattle.roc_coord.specs.declared.handled.SubmitFault.{SubmitFault}
use Rattle.roc_audit.specs.declared.entry.Entry.TheVariants.{Submitted}
use Rattle.roc_law_protocol.specs.declared.event.Kept.{Kept}
use Rattle.roc_law_protocol.specs.World.{sent_by}
use Rattle.roc_law_world.proofs.Stops.{tick_is_sends, cut_has, starts_there}
use Rattle.roc_law_world.proofs.Comings.{Came, came_sends}
use Rattle.roc_law_world.proofs.CalmStops.{AreCounted, begun_counted, more_counted, same_counted, comes_counted, numbers_to, has_number, stop_counted, IsCalmOf, lost_calm}
use Rattle.roc_step.specs.Step as server
use Rattle.roc_coord.specs.declared.handled.SubmitFault.TheVariants as fault
use Rattle.roc_law_protocol.specs.declared.event.Seen.TheVariants as seen

module _ (plan : Plan) (accepted_plan : IsAccepted plan) (some_group : (proc : ℕ) → is_view_of plan proc ≡ true → 0 < length (groups_of plan proc)) where
  -- ---- a step

  module _ (is_view : TxnId → Bool) (w : World) (a : AreCalm plan w) (numbers : IsNumbered w) (sounds : (n : ℕ) (s : CoordState) → slice_get w.coords n ≡ Some s → IsCoordSound is_view s) where
    -- the next id is new
    fresh : (n : ℕ) (s : CoordState) → slice_get w.coords n ≡ Some s → ¬ WasSubmitted w.history (next_id s)
    fresh n s there (p, l, h) =
        let g = numbers.given (next_id s) p l h in
        let same : g.0 ≡ s = same_there w.coords n g.0 s (subst (λ k. slice_get w.coords k ≡ Some g.0) (numbers.numbers n s there) g.1) there in
        let low : s.next < s.next = subst (λ (c : CoordState). s.next < c.next) same g.2 in
        omega arith

    submits : (n : ℕ) (s : CoordState) → slice_get w.coords n ≡ Some s → (proc : ℕ) (args : List ℤ) (o : Outcome) → IsSubmissionOf w n proc args (after_submit plan s proc args) o
        → AreCalm plan o.world
    submits n s there proc args o h = go (after_submit plan s proc args) (any_submission_is plan s proc args) h
      where
        kinds : length args ≡ (procedure_of plan proc).arguments → (b : Bool) → is_view_of plan proc ≡ b
            → IsSubmissionOf w n proc args (if b then accepted_view plan s (first_round (next_id s) proc args) else accepted plan s (new_transaction s proc args)) o → AreCalm plan o.world
        kinds counted true viewed k =
            subst (λ (o : Outcome). AreCalm plan o.world) (sym k) (view_calm plan w a n s there (numbers.numbers n s there) (fresh n s there) proc args viewed counted (some_group proc viewed))
        kinds counted false viewed k = subst (λ (o : Outcome). AreCalm plan o.world) (sym k) (transaction_calm plan w a n s there (numbers.numbers n s there) proc args viewed)

        go : (r : Submission) → IsSubmission plan s proc args (proc < length plan.program.procedures) (accepted_call plan s proc args) r → IsSubmissionOf w n proc args r o → AreCalm plan o.world
        go r (unknown none) k = absurd k
        go r (miscounted e) k = absurd k
        go r (spent there counted l) k = subst (λ (o : Outcome). AreCalm plan o.world) (sym k) a
        go r (busy there counted l m) k = subst (λ (o : Outcome). AreCalm plan o.world) (sym k) a
        go r (taken there counted l m) k = kinds counted (is_view_of plan proc) refl k

    delivers : (k : ℕ) (m : Envelope) → 0 < k → slice_get w.sent (k - 1) ≡ Some m → (o : Outcome) → IsReceived plan (mark_delivered w k) m.msg m.to o → AreCalm plan o.world
    delivers k m some stands o h = go m.to refl h
      where
        go : (to : Node) → m.to ≡ to → IsReceived plan (mark_delivered w k) m.msg to o → AreCalm plan o.world
        go (Server shard) to x = subst (λ (o : Outcome). AreCalm plan o.world) (sym x.is) (served_calm plan accepted_plan w a k some m stands shard.0 to o x)
        go (Coord n) to (s, there, is) =
            subst (λ (o : Outcome). AreCalm plan o.world) (sym is) (message_calm plan some_group is_view w a k some m stands n to s there (numbers.numbers n s there) (sounds n s there))

  -- ---- a step of a run: numbers of which no delivery counts stand for those of messages that were never delivered

  module _ (is_view : TxnId → Bool) (events : List (Option Event)) (w : World) (c : IsCalmOf plan events w) (numbers : IsNumbered w) (sounds : (n : ℕ) (s : CoordState) → slice_get w.coords n ≡ Some s → IsCoordSound is_view s) where
    abbrev now : World
    now = record w { undelivered = c.uncounted }

    numbers_now : IsNumbered (record w { undelivered = c.uncounted })
    numbers_now = record { numbers = numbers.numbers; given = numbers.given; one = numbers.one }

    nothing_comes : (k : ℕ) → None ≢ Some (Deliver k)
    nothing_comes k e = cc

    submits_on : (n : ℕ) (s : CoordState) → slice_get w.coords n ≡ Some s → (proc : ℕ) (args : List ℤ) (o : Outcome) → IsSubmissionOf w n proc args (after_submit plan s proc args) o → IsCalmOf plan (events ++ Some (Submit n proc args) ∷ []) o.world
    submits_on n s there proc args o h = go r.answer refl h
      where
        r : Submission
        r = after_submit plan s proc args

        never : (k : ℕ) → Some (Submit n proc args) ≢ Some (Deliver k)
        never k e = cc

        same : o.world ≡ w → IsCalmOf plan (events ++ Some (Submit n proc args) ∷ []) o.world
        same e = subst (IsCalmOf plan (events ++ Some (Submit n proc args) ∷ [])) (sym e) (record { uncounted = c.uncounted; calm = c.calm; counts = same_counted events w.sent c.uncounted c.counts (Some (Submit n proc args)) never })

        go : (answer : Result TxnId SubmitFault) → (after_submit plan s proc args).answer ≡ answer → Submits w n proc args (after_submit plan s proc args).state (after_submit plan s proc args).sends answer o
            → IsCalmOf plan (events ++ Some (Submit n proc args) ∷ []) o.world
        go (Ok id) e h =
            let q = after_submit plan s proc args in
            let told = Submitted id proc args ∷ [] in
            let v = undecided (seen.Submitted id) (at_coord now n q.state q.sends told) in
            subst (λ (o : Outcome). IsCalmOf plan (events ++ Some (Submit n proc args) ∷ []) o.world) (sym h) (record {
              uncounted = c.uncounted ++ range_with_len (length w.sent + 1) (length q.sends);
              calm = submits is_view now c.calm numbers_now sounds n s there proc args v (subst (λ a. Submits now n proc args q.state q.sends a v) (sym e) refl);
              counts = more_counted events w.sent c.uncounted c.counts (Some (Submit n proc args)) never (Coord n) q.sends;
            })
        go (Err fault.Spent) e h = same (ap (λ (o : Outcome). o.world) h)
        go (Err fault.Busy) e h = same (ap (λ (o : Outcome). o.world) h)
        go (Err fault.NoProc) e h = absurd h
        go (Err fault.Args) e h = absurd h
        go (Err fault.NoMemory) e h = absurd h

    delivers_on : (k : ℕ) (m : Envelope) → 0 < k → slice_get w.sent (k - 1) ≡ Some m → (o : Outcome) → IsReceived plan (mark_delivered w k) m.msg m.to o → IsCalmOf plan (events ++ Some (Deliver k) ∷ []) o.world
    delivers_on k m some stands o h = go m.to refl h
      where
        within : k - 1 < length w.sent
        within = slice_get_within w.sent (k - 1) m stands

        go : (to : Node) → m.to ≡ to → IsReceived plan (mark_delivered w k) m.msg to o → IsCalmOf plan (events ++ Some (Deliver k) ∷ []) o.world
        go (Server shard) to x =
            let v = served (mark_delivered now k) shard.0 x.step x.reads in
            let y : IsServed plan (mark_delivered now k) m.msg shard.0 v =
            record { state = x.state; there = x.there; viewing = x.viewing; keeps = x.keeps; step = x.step; handles = x.handles; reads = x.reads; answers = x.answers; is = refl } in
            subst (λ (o : Outcome). IsCalmOf plan (events ++ Some (Deliver k) ∷ []) o.world) (sym x.is) (record {
              uncounted = filter (λ n. not (n == k)) c.uncounted ++ range_with_len (length w.sent + 1) (length (x.step.sends ++ x.reads.sends));
              calm = delivers is_view now c.calm numbers_now sounds k m some stands v (subst (λ to. IsReceived plan (mark_delivered now k) m.msg to v) (sym to) y);
              counts = comes_counted events w.sent c.uncounted c.counts k some within (Server shard) (x.step.sends ++ x.reads.sends);
            })
        go (Coord n) to (s, there, is) =
            let r = after_message plan s m.msg in
            let v = coordinated (mark_delivered now k) n r in
            subst (λ (o : Outcome). IsCalmOf plan (events ++ Some (Deliver k) ∷ []) o.world) (sym is) (record {
              uncounted = filter (λ n. not (n == k)) c.uncounted ++ range_with_len (length w.sent + 1) (length r.sends);
              calm = delivers is_view now c.calm numbers_now sounds k m some stands v (subst (λ to. IsReceived plan (mark_delivered now k) m.msg to v) (sym to) (s, there, refl));
              counts = comes_counted events w.sent c.uncounted c.counts k some within (Coord n) r.sends;
            })

    -- ---- a stop

    -- the world behind the step, where what came to the server counts no more
    cut_calm : (shard : Shard) (s : ServerState) (z : Viewing) → slice_get w.servers shard.0 ≡ Some s → slice_get w.viewing shard.0 ≡ Some z → (during : Option (ℕ × Kept)) (before : World) (step : ServerStep) (reads : ReadStep)
        → StopsIn plan w shard.0 s z during before step reads
        → (before.sent ≡ w.sent)
        × AreCalm plan (record (at_server before shard.0 step reads) { undelivered = (c.uncounted ++ numbers_to shard.0 w.sent 0) ++ range_with_len (length w.sent + 1) (length (step.sends ++ reads.sends)) })
    cut_calm shard s z there keeps during before step reads x = go during before step reads x
      where
        -- what came then came before, and not to the server
        fewer : (outs : List Outgoing) (m : Envelope) → Came (sends (record w { undelivered = c.uncounted ++ numbers_to shard.0 w.sent 0 }) (Server (record { 0 = shard.0 })) outs) m
            → Came (record w { undelivered = c.uncounted }) m × (m.to ≢ Server (record { 0 = shard.0 }))
        fewer outs m came =
            let k = came_sends (record w { undelivered = c.uncounted ++ numbers_to shard.0 w.sent 0 }) (Server (record { 0 = shard.0 })) outs m came in (
              (k.0, k.1, λ u. k.2 (has_left (suc k.0) c.uncounted (numbers_to shard.0 w.sent 0) u)),
              λ to. k.2 (has_right (suc k.0) c.uncounted (numbers_to shard.0 w.sent 0) (subst (λ i. Has (suc i) (numbers_to shard.0 w.sent 0)) (zero_more k.0) (has_number shard.0 w.sent 0 k.0 m k.1 to))),
            )
          where
            zero_more : (n : ℕ) → 0 + n ≡ n
            zero_more n = omega arith

        -- nothing is taken
        still : AreCalm plan (at_server (record w { undelivered = c.uncounted }) shard.0 (answered s []) (record { viewing = z; sends = [] }))
        still = subst (AreCalm plan) (sym (tick_is_sends now shard.0 s z [] there keeps)) (subst (AreCalm plan) (λ i. record w { sent = sym (append-nil w.sent) i; undelivered = sym (append-nil c.uncounted) i }) c.calm)

        rest : AreCalm plan (record (at_server w shard.0 (answered s []) (no_reads z)) { undelivered = (c.uncounted ++ numbers_to shard.0 w.sent 0) ++ range_with_len (length w.sent + 1) (length ((answered s []).sends ++ (no_reads z).sends)) })
        rest =
            lost_calm plan now c.calm shard.0 z keeps (answered s []) (record { viewing = z; sends = [] }) (at_server now shard.0 (answered s []) (record { viewing = z; sends = [] })).undelivered still ((answered s []).sends ++ (no_reads z).sends) (λ out h. h) (without_reads z) (λ d h. h)
            ((c.uncounted ++ numbers_to shard.0 w.sent 0) ++ range_with_len (length w.sent + 1) (length ((answered s []).sends ++ (no_reads z).sends))) (fewer ((answered s []).sends ++ (no_reads z).sends))

        go : (during : Option (ℕ × Kept)) (before : World) (step : ServerStep) (reads : ReadStep) → StopsIn plan w shard.0 s z during before step reads
            → (before.sent ≡ w.sent)
            × AreCalm plan (record (at_server before shard.0 step reads) { undelivered = (c.uncounted ++ numbers_to shard.0 w.sent 0) ++ range_with_len (length w.sent + 1) (length (step.sends ++ reads.sends)) })
        go during before step reads at_rest = (refl, rest)
        go during before step reads (unrecorded k m sent) = (refl, rest)
        go during before step reads (recorded k many m r q sent handles answers) =
            let v = served (mark_delivered now k) shard.0 r q in
            let y : IsServed plan (mark_delivered now k) m.msg shard.0 v = record { state = s; there = there; viewing = z; keeps = keeps; step = r; handles = handles; reads = q; answers = answers; is = refl } in
            let outs = (cut_short many r).sends ++ (cut_reads many r q).sends in (
              refl,
              lost_calm plan now c.calm shard.0 z keeps r q (at_server (mark_delivered now k) shard.0 r q).undelivered (served_calm plan accepted_plan now c.calm k sent.some m sent.there shard.0 sent.to v y) outs (cut_has w shard.0 many r q) (without_reads q.viewing) (λ d h. h)
                  ((c.uncounted ++ numbers_to shard.0 w.sent 0) ++ range_with_len (length w.sent + 1) (length outs)) (fewer outs),
            )

    stops_on : (shard : Shard) (during : Option (ℕ × Kept)) (o : Outcome) → IsStopped plan w shard.0 during o → IsCalmOf plan (events ++ Some (Stop shard during) ∷ []) o.world
    stops_on shard during o x = subst (λ (o : Outcome). IsCalmOf plan (events ++ Some (Stop shard during) ∷ []) o.world) (sym x.is) (behind (cut_calm shard x.state x.viewing x.there x.keeps during x.before x.step x.reads x.stops))
      where
        outs : List Outgoing
        outs = x.step.sends ++ x.reads.sends

        behind : (x.before.sent ≡ w.sent)
            × AreCalm plan (record (at_server x.before shard.0 x.step x.reads) { undelivered = (c.uncounted ++ numbers_to shard.0 w.sent 0) ++ range_with_len (length w.sent + 1) (length (x.step.sends ++ x.reads.sends)) })
            → IsCalmOf plan (events ++ Some (Stop shard during) ∷ []) (restarted x.before shard.0 x.step x.reads).world
        behind (same, calm) =
            let gone = (c.uncounted ++ numbers_to shard.0 w.sent 0) ++ range_with_len (length w.sent + 1) (length (x.step.sends ++ x.reads.sends)) in
            let v = record (at_server x.before shard.0 x.step x.reads) { undelivered = gone } in
            let s = x.step.state in
            let here = starts_there plan w shard.0 during o x in
            let ticked = ticked_calm plan accepted_plan v calm shard.0 s x.reads.viewing here.0 here.1 in
            record {
              uncounted = gone ++ range_with_len (length v.sent + 1) (length (server.tick_sends s));
              calm = subst (AreCalm plan) (tick_is_sends v shard.0 s x.reads.viewing (server.tick_sends s) here.0 here.1) ticked;
              counts = subst (λ sent. AreCounted (events ++ Some (Stop shard during) ∷ []) ((sent ++ map (sent_by (Server (record { 0 = shard.0 }))) (x.step.sends ++ x.reads.sends)) ++ map (sent_by (Server (record { 0 = shard.0 }))) (server.tick_sends s))
                  (gone ++ range_with_len (length (sent ++ map (sent_by (Server (record { 0 = shard.0 }))) (x.step.sends ++ x.reads.sends)) + 1) (length (server.tick_sends s)))) (sym same)
                  (stop_counted events w.sent c.uncounted c.counts shard during (Server (record { 0 = shard.0 })) (x.step.sends ++ x.reads.sends) (server.tick_sends s));
            }

    pub calm_step : (e : Option Event) (o : Outcome) → Transition plan w e o → IsCalmOf plan (events ++ e ∷ []) o.world
    calm_step None o h = subst (λ (o : Outcome). IsCalmOf plan (events ++ None ∷ []) o.world) (sym h) (record { uncounted = c.uncounted; calm = c.calm; counts = same_counted events w.sent c.uncounted c.counts None nothing_comes })
    calm_step (Some (Submit n proc args)) o (s, there, h) = submits_on n s there proc args o h
    calm_step (Some (Deliver k)) o (m, some, stands, h) = delivers_on k m some stands o h
    calm_step (Some (Tick (Server shard))) o (s, z, there, keeps, is) = subst (λ (o : Outcome). IsCalmOf plan (events ++ Some (Tick (Server shard)) ∷ []) o.world) (sym is) (record {
      uncounted = c.uncounted ++ range_with_len (length w.sent + 1) (length (server.tick_sends s ++ []));
      calm = ticked_calm plan accepted_plan now c.calm shard.0 s z there keeps;
      counts = more_counted events w.sent c.uncounted c.counts (Some (Tick (Server shard))) never (Server shard) (server.tick_sends s ++ []);
    })
      where
        never : (k : ℕ) → Some (Tick (Server shard)) ≢ Some (Deliver k)
        never k e = cc
    calm_step (Some (Tick (Coord n))) o (s, there, is) = subst (λ (o : Outcome). IsCalmOf plan (events ++ Some (Tick (Coord n)) ∷ []) o.world) (sym is) (record {
      uncounted = c.uncounted ++ range_with_len (length w.sent + 1) (length (tick_sends plan s));
      calm = tick_calm plan now c.calm n s there (numbers.numbers n s there);
      counts = more_counted events w.sent c.uncounted c.counts (Some (Tick (Coord n))) never (Coord n) (tick_sends plan s);
    })
      where
        never : (k : ℕ) → Some (Tick (Coord n)) ≢ Some (Deliver k)
        never k e = cc
    calm_step (Some (Stop shard during)) o x = stops_on shard during o x

  -- ---- runs

  begun_calm : (b : Beginning) → IsBeginning plan b.of_transactions → (coords : ℕ) → AreCalm plan (begun_world plan b coords)
  begun_calm b begins coords =
      record {
        shards = λ n s at. ap (λ (s : ServerState). s.shard.0) (server n s at) ∙ zero_more n;
        coords = λ n c at. record { own = λ v h. absurd (no_view n c at v h); one = λ v x h k e. absurd (no_view n c at v h); listed = λ v h. absurd (no_view n c at v h) };
        views = λ n c at v h. absurd (no_view n c at v h);
        messages = λ m h. absurd h;
        kept = λ n z at x h. absurd (subst (λ (z : Viewing). Has x z.reads) (found_at (λ n. record { versions = b.versions n; reads = [] }) 0 plan.program.shards n z at) h);
        told = λ m h. absurd h;
        heard = λ n s at t h c there.
            (let low = begins.ended (0 + n) t (subst (λ (s : ServerState). is_ended s.below t ≡ true) (server n s at) h) in
            subst (λ (c : CoordState). t.seq < watermark c) (sym (found_at (protocol.begun_coord b.of_transactions) 0 coords t.coord c there))
            (subst (λ k. t.seq < b.of_transactions.nexts k) (sym (zero_more t.coord)) low));
        asked = λ t proc args h. absurd h;
      }
    where
      zero_more : (n : ℕ) → 0 + n ≡ n
      zero_more n = omega arith

      server : (n : ℕ) (s : ServerState) → slice_get (begun_world plan b coords).servers n ≡ Some s → s ≡ protocol.begun_server b.of_transactions (0 + n)
      server n s at = found_at (protocol.begun_server b.of_transactions) 0 plan.program.shards n s at

      no_view : (n : ℕ) (c : CoordState) → slice_get (begun_world plan b coords).coords n ≡ Some c → (v : View) → ¬ Has v c.views
      no_view n c at v h = subst (λ (c : CoordState). Has v c.views) (found_at (protocol.begun_coord b.of_transactions) 0 coords n c at) h

  pub run_calm : (b : Beginning) → IsBeginning plan b.of_transactions → (coords : ℕ) (is_view : TxnId → Bool) (steps : List Stepped) (w : World)
      → IsRunFrom plan b coords steps w → TellsViews plan is_view w.history → IsCalmOf plan (map (λ (s : Stepped). s.event) steps) w
  run_calm b begins coords is_view steps w at_beginning tells = record { uncounted = []; calm = begun_calm b begins coords; counts = begun_counted }
  run_calm b begins coords is_view steps w (steps_on {steps = front} {w = v} e o r h) tells =
      let g = grows plan v e o h in
      let told = tells_before plan is_view v.history g.more (subst (TellsViews plan is_view) g.is tells) in
      subst (λ events. IsCalmOf plan events o.world) (sym (map-append (λ (s : Stepped). s.event) front (record { event = e; outcome = o } ∷ [])))
      (calm_step is_view (map (λ (s : Stepped). s.event) front) v (run_calm b begins coords is_view _ v r told) (numbered plan b coords _ v r)
      (beside plan b coords is_view _ v r told).holds.coords e o h)
