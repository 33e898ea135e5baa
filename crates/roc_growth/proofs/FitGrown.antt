-- A world of two files that fits keeps fitting, whatever happens, and so each world of a run fits
use Rattle.std.proofs.Common.{◌≡◌, ◌∙◌, ℕ, ℤ, zero, suc, ◌+◌, ◌-◌, ◌<◌, ◌≤◌, ◌==◌, not, Bool, true, false, List, [], ◌∷◌, ◌++◌, Option, Some, None, Err, length, map, refl, sym, ap, subst, inl, inr, arith}
use Rattle.std.proofs.lemmas.List.{length-map, length-append, length-set}
use Rattle.std.proofs.lemmas.List.FromFn.{length-range_with_len}
use Rattle.std.proofs.lemmas.Option.{slice_get_within}
use Rattle.std.specs.Prelude.{slice_get, slice_set, replicate, IfSome, if◌then◌else◌}
use Rattle.std.specs.List.{AllByRecursion, range_with_len}
use Rattle.roc_sequence.proofs.Holds.{all_has, all_append, all_set, all_weaker}
use Rattle.roc_sequence.proofs.Members.{has_at}
use Rattle.roc_base.specs.declared.node.Node.{Node}
use Rattle.roc_base.specs.declared.node.Node.TheVariants.{Server, Coord}
use Rattle.roc_base.specs.declared.id.TxnId.{TxnId}
use Rattle.roc_base.specs.declared.node.Shard.{Shard}
use Rattle.roc_msg.specs.declared.msg.Msg.{Msg}
use Rattle.roc_msg.specs.declared.outbox.Outgoing.{Outgoing}
use Rattle.roc_plan.specs.Groups.{Plan, procedure_of, is_view_of}
use Rattle.roc_readonly.specs.Round.{first_round}
use Rattle.roc_step.specs.Step.{tick_sends}
use Rattle.roc_coord.specs.Submit.{Submission, next_id, new_transaction, accepted, accepted_view, after_submit}
use Rattle.roc_coord.proofs.Keeping.{all_filter}
use Rattle.roc_audit.specs.declared.entry.Entry.{Entry}
use Rattle.roc_audit.specs.declared.entry.Entry.TheVariants.{Submitted}
use Rattle.roc_law_protocol.specs.declared.event.Kept.{Kept}
use Rattle.roc_law_protocol.proofs.Changed.{get-set_cases, get-set_here}
use Rattle.roc_law_protocol.proofs.ServersHere as cores
use Rattle.roc_law_protocol.proofs.Stopping.{all_take}
use Rattle.roc_law_protocol.proofs.SubmissionEnds.{IsAnySubmission, any_submission_is, unknown, miscounted, spent, busy, taken}
use Rattle.roc_law_world.specs.Fits.{NamesNodes, IsSentHere, IsCoordHere}
use Rattle.roc_law_world.proofs.OutsHere.{IsOutHere, AreOutsHere, outs_more}
use Rattle.roc_epoch.specs.declared.file.File.{File}
use Rattle.roc_epoch.specs.declared.next.Next.{Next}
use Rattle.roc_epoch.specs.Files.{own_plan, IsNextOf}
use Rattle.roc_two_files.specs.Sealed.{Sealed, sealed_by, numbers_behind}
use Rattle.roc_grown.specs.declared.handled.GrownFault.TheVariants.{Draining}
use Rattle.roc_grown.specs.Server.{GrownServerState, GrownStep, taken_at, restarted, first_grown_server, none_drained}
use Rattle.roc_grown.specs.Coord.{GrownCoordState, after_drain, after_grown_submit, after_grown_message, submitted_to_core, grown_tick_sends, first_grown_coord}
use Rattle.roc_grown.specs.Fits.{GrownServerFits, GrownCoordFits}
use Rattle.roc_growth.specs.declared.event.Event.{Event}
use Rattle.roc_growth.specs.declared.event.Event.TheVariants.{Submit, Deliver, Tick, Stop, Drain}
use Rattle.roc_growth.specs.World.{GrownWorld, first_grown_world, sends, mark_delivered, at_server, at_coord}
use Rattle.roc_growth.specs.Fits.{IsGrownServerHere, FitsGrown}
use Rattle.roc_growth.specs.Happens.{Outcome, IsSubmissionOf, answer_entries, IsReceived, cut_short, StopsIn, at_rest, unrecorded, recorded, IsStopped, Happens}
use Rattle.roc_growth.specs.Run.{Stepped, Transition, AreCoordsOf, IsGrownRun, at_first, steps_on}
use Rattle.roc_growth.proofs.FitNodes.{KeepsServer, same_keeps, handled_keeps, KeepsCoord, message_keeps, drain_keeps, view_keeps, submission_keeps, tick_here}

-- the network with what a node sends
module _ (servers coords : ℕ) where
  sealed_here : (switched : Bool) (from : Node) (outs : List Outgoing) → AreOutsHere servers coords outs → AllByRecursion (λ (m : Sealed). IsSentHere servers coords m.message) (map (sealed_by switched from) outs)
  sealed_here switched from [] h = tt
  sealed_here switched from (out ∷ outs) h = (record { to = h.0.0; names = h.0.1 }, sealed_here switched from outs h.1)

numbers_more : (sent : List Sealed) (undelivered : List ℕ) (switched : Bool) (from : Node) (outs : List Outgoing) → AllByRecursion (λ k. (0 < k) × (k ≤ length sent)) undelivered
    → AllByRecursion (λ k. (0 < k) × (k ≤ length (sent ++ map (sealed_by switched from) outs))) (undelivered ++ numbers_behind sent (length outs))
numbers_more sent undelivered switched from outs h =
    all_append (λ k. (0 < k) × (k ≤ length (sent ++ map (sealed_by switched from) outs))) undelivered (numbers_behind sent (length outs))
    (all_weaker (λ k. (0 < k) × (k ≤ length sent)) (λ k. (0 < k) × (k ≤ length (sent ++ map (sealed_by switched from) outs))) (λ k p. (p.0, (let l = p.1 in let e = long in omega (arith, e, l)))) undelivered h)
    (new (length sent + 1) (length outs) (omega arith) (let e = long in omega (arith, e)))
  where
    long : length (sent ++ map (sealed_by switched from) outs) ≡ length sent + length outs
    long = length-append sent (map (sealed_by switched from) outs) ∙ ap (λ n. length sent + n) (length-map outs (sealed_by switched from))

    new : (a n : ℕ) → 0 < a → a + n ≡ length (sent ++ map (sealed_by switched from) outs) + 1 → AllByRecursion (λ k. (0 < k) × (k ≤ length (sent ++ map (sealed_by switched from) outs))) (range_with_len a n)
    new a zero l e = tt
    new a (suc n) l e = ((l, omega arith), new (a + 1) n (omega arith) (omega arith))

module _ (plan : Plan) (next : Option Next) (of : IsNextOf plan next) (w : GrownWorld) (fits : FitsGrown plan next w) where
  some_shard : 0 < plan.program.shards
  some_shard = subst (λ n. 0 < n) fits.shards fits.some_server

  comes_fits_in : (k : ℕ) → FitsGrown plan next (mark_delivered w k)
  comes_fits_in k =
      record {
        some_server = fits.some_server;
        shards = fits.shards;
        counted = fits.counted;
        numbers = fits.numbers;
        servers = fits.servers;
        coords = fits.coords;
        undelivered = all_filter (λ n. (0 < n) × (n ≤ length w.sent)) (λ n. not (n == k)) w.undelivered fits.undelivered;
        sent_here = fits.sent_here;
        servers_here = fits.servers_here;
        coords_here = fits.coords_here;
      }

  -- a node sends
  sends_fit : (switched : Bool) (from : Node) (outs : List Outgoing) → AreOutsHere (length w.servers) (length w.coords) outs → FitsGrown plan next (sends w switched from outs)
  sends_fit switched from outs here =
      record {
        some_server = fits.some_server;
        shards = fits.shards;
        counted = fits.counted;
        numbers = fits.numbers;
        servers = fits.servers;
        coords = fits.coords;
        undelivered = numbers_more w.sent w.undelivered switched from outs fits.undelivered;
        sent_here = all_append (λ (m : Sealed). IsSentHere (length w.servers) (length w.coords) m.message) w.sent (map (sealed_by switched from) outs) fits.sent_here
            (sealed_here (length w.servers) (length w.coords) switched from outs here);
        servers_here = fits.servers_here;
        coords_here = fits.coords_here;
      }

  module _ (n : ℕ) (s : GrownServerState) (there : slice_get w.servers n ≡ Some s) where
    own_shard : s.core.shard.0 < length w.servers
    own_shard = let e = fits.numbers n s there in let l = slice_get_within w.servers n s there in omega (arith, e, l)

    server_here : IsGrownServerHere (length w.servers) (length w.coords) s
    server_here = all_has (IsGrownServerHere (length w.servers) (length w.coords)) s w.servers fits.servers_here (has_at w.servers n s there)

    server_fits : GrownServerFits plan next s
    server_fits = all_has (GrownServerFits plan next) s w.servers fits.servers (has_at w.servers n s there)

    served_fits : (r : GrownStep) → KeepsServer plan next (length w.servers) (length w.coords) fits.counted s.core.shard r → FitsGrown plan next (at_server w n r)
    served_fits r k =
        let same : length w.servers ≡ length (slice_set w.servers n r.state) = sym (length-set w.servers n r.state) in
        let sent = sends_fit r.state.switched (Server (record { 0 = n })) r.sends k.sends in
        record {
          some_server = subst (λ c. 0 < c) same fits.some_server;
          shards = sym same ∙ fits.shards;
          counted = fits.counted;
          numbers = λ m x h. elim (get-set_cases w.servers n m s r.state x there h) [
            | inl e ↦ ap (λ (x : GrownServerState). x.core.shard.0) e.1 ∙ (ap (λ (a : Shard). a.0) k.own ∙ (fits.numbers n s there ∙ e.0))
            | inr e ↦ fits.numbers m x e.1
          ];
          servers = all_set (GrownServerFits plan next) w.servers n r.state fits.servers k.fits;
          coords = fits.coords;
          undelivered = sent.undelivered;
          sent_here = subst (λ c. AllByRecursion (λ (m : Sealed). IsSentHere c (length w.coords) m.message) (sends w r.state.switched (Server (record { 0 = n })) r.sends).sent) same sent.sent_here;
          servers_here =
              subst (λ c. AllByRecursion (IsGrownServerHere c (length w.coords)) (slice_set w.servers n r.state)) same
              (all_set (IsGrownServerHere (length w.servers) (length w.coords)) w.servers n r.state fits.servers_here k.here);
          coords_here = subst (λ c. AllByRecursion (λ (c2 : GrownCoordState). IsCoordHere c (length w.coords) c2.core) w.coords) same fits.coords_here;
        }

    tick_outs : AreOutsHere (length w.servers) (length w.coords) (tick_sends s.core)
    tick_outs =
        outs_more (length w.servers) (length w.coords) (tick_sends s.core)
        (cores.tick_keeps (own_plan plan next s.switched) (length w.servers) (length w.coords) s.core own_shard server_here.core server_fits.0).sends

  -- ---- of a coordinator

  module _ (n : ℕ) (s : GrownCoordState) (there : slice_get w.coords n ≡ Some s) where
    coord_here : IsCoordHere (length w.servers) (length w.coords) s.core
    coord_here = all_has (λ (c : GrownCoordState). IsCoordHere (length w.servers) (length w.coords) c.core) s w.coords fits.coords_here (has_at w.coords n s there)

    coord_fits : GrownCoordFits plan next s
    coord_fits = all_has (GrownCoordFits plan next) s w.coords fits.coords (has_at w.coords n s there)

    abbrev Stays : GrownCoordState → List Outgoing → Type 0
    Stays after outs = KeepsCoord plan next of (length w.servers) (length w.coords) some_shard fits.shards after outs

    coordinated_fits : (after : GrownCoordState) (outs : List Outgoing) (told : List Entry) → Stays after outs → FitsGrown plan next (at_coord w n after outs told)
    coordinated_fits after outs told k =
        let same : length w.coords ≡ length (slice_set w.coords n after) = sym (length-set w.coords n after) in
        let sent = sends_fit after.switched (Coord n) outs k.sends in
        record {
          some_server = fits.some_server;
          shards = fits.shards;
          counted = subst (AreCoordsOf next) same fits.counted;
          numbers = fits.numbers;
          servers = fits.servers;
          coords = all_set (GrownCoordFits plan next) w.coords n after fits.coords k.fits;
          undelivered = sent.undelivered;
          sent_here = subst (λ c. AllByRecursion (λ (m : Sealed). IsSentHere (length w.servers) c m.message) (sends w after.switched (Coord n) outs).sent) same sent.sent_here;
          servers_here = subst (λ c. AllByRecursion (IsGrownServerHere (length w.servers) c) w.servers) same fits.servers_here;
          coords_here =
              subst (λ c. AllByRecursion (λ (c2 : GrownCoordState). IsCoordHere (length w.servers) c c2.core) (slice_set w.coords n after)) same
              (all_set (λ (c2 : GrownCoordState). IsCoordHere (length w.servers) (length w.coords) c2.core) w.coords n after fits.coords_here k.here);
        }

    submitted_fits : (proc : ℕ) (args : List ℤ) (o : Outcome) → IsSubmissionOf w n proc args (after_grown_submit plan next s proc args) o → FitsGrown plan next o.world
    submitted_fits proc args o h = drained s.draining h
      where
        own : Plan
        own = own_plan plan next s.switched

        kinds : (b : Bool) → is_view_of own proc ≡ b → proc < length own.program.procedures → length args ≡ (procedure_of own proc).arguments
            → IsSubmissionOf w n proc args (submitted_to_core s (if b then accepted_view own s.core (first_round (next_id s.core) proc args) else accepted own s.core (new_transaction s.core proc args))) o
            → FitsGrown plan next o.world
        kinds true e known counted k =
            let r = accepted_view own s.core (first_round (next_id s.core) proc args) in
            subst (λ (o : Outcome). FitsGrown plan next o.world) (sym k)
            (coordinated_fits (record s { core = r.state }) r.sends (Submitted (next_id s.core) proc args ∷ [])
            (view_keeps plan next of (length w.servers) (length w.coords) some_shard fits.shards s coord_here coord_fits proc args e counted))
        kinds false e known counted k =
            let r = accepted own s.core (new_transaction s.core proc args) in
            subst (λ (o : Outcome). FitsGrown plan next o.world) (sym k)
            (coordinated_fits (record s { core = r.state }) r.sends (Submitted (next_id s.core) proc args ∷ [])
            (submission_keeps plan next of (length w.servers) (length w.coords) some_shard fits.shards s coord_here coord_fits proc args known e counted))

        go : (r : Submission) → IsAnySubmission own s.core proc args r → IsSubmissionOf w n proc args (submitted_to_core s r) o → FitsGrown plan next o.world
        go r (unknown none) k = subst (λ (o : Outcome). FitsGrown plan next o.world) (sym k) fits
        go r (miscounted e) k = absurd k
        go r (spent known counted l) k = subst (λ (o : Outcome). FitsGrown plan next o.world) (sym k) fits
        go r (busy known counted l m) k = subst (λ (o : Outcome). FitsGrown plan next o.world) (sym k) fits
        go r (taken known counted l m) k = kinds (is_view_of own proc) refl known counted k

        drained : (b : Bool) → IsSubmissionOf w n proc args (if b then record { answer = Err Draining; state = s; sends = [] } else submitted_to_core s (after_submit own s.core proc args)) o → FitsGrown plan next o.world
        drained true k = subst (λ (o : Outcome). FitsGrown plan next o.world) (sym k) fits
        drained false k = go (after_submit own s.core proc args) (any_submission_is own s.core proc args) k

-- ---- any event

received_fits : (plan : Plan) (next : Option Next) (of : IsNextOf plan next) (w : GrownWorld) → FitsGrown plan next w → (file : File) (msg : Msg) → NamesNodes (length w.servers) (length w.coords) msg
    → (to : Node) (o : Outcome) → IsReceived plan next w file msg to o → FitsGrown plan next o.world
received_fits plan next of w fits file msg names (Server shard) o h =
    let s = h.state in
    subst (λ (o : Outcome). FitsGrown plan next o.world) (sym h.is)
    (served_fits plan next of w fits shard.0 s h.there h.step
    (handled_keeps plan next (length w.servers) (length w.coords) fits.counted s (own_shard plan next of w fits shard.0 s h.there) (server_here plan next of w fits shard.0 s h.there)
    (server_fits plan next of w fits shard.0 s h.there) file msg h.step h.handles names))
received_fits plan next of w fits file msg names (Coord n) o (s, there, e) =
    let r = after_grown_message plan next s file msg in
    subst (λ (o : Outcome). FitsGrown plan next o.world) (sym e)
    (coordinated_fits plan next of w fits n s there r.state r.sends (answer_entries r.answer)
    (message_keeps plan next of (length w.servers) (length w.coords) (some_shard plan next of w fits) fits.shards s (coord_here plan next of w fits n s there) (coord_fits plan next of w fits n s there) file msg names))

module _ (plan : Plan) (next : Option Next) (of : IsNextOf plan next) (w : GrownWorld) (fits : FitsGrown plan next w) where
  sent_names : (k : ℕ) (m : Sealed) → slice_get w.sent k ≡ Some m → NamesNodes (length w.servers) (length w.coords) m.message.msg
  sent_names k m at = (all_has (λ (m : Sealed). IsSentHere (length w.servers) (length w.coords) m.message) m w.sent fits.sent_here (has_at w.sent k m at)).names

  stopped_fits : (n : ℕ) (during : Option (ℕ × Kept)) (o : Outcome) → IsStopped plan next w n during o → FitsGrown plan next o.world
  stopped_fits n during o x =
      let before = go during x.before x.step x.stops in
      let there = at_there during x.before x.step x.stops in
      subst (λ (o : Outcome). FitsGrown plan next o.world) (sym x.is)
      (sends_fit plan next of (at_server x.before n x.step) before x.step.state.switched (Server (record { 0 = n })) (tick_sends x.step.state.core)
      (tick_outs plan next of (at_server x.before n x.step) before n x.step.state there))
    where
      at_there : (during : Option (ℕ × Kept)) (before : GrownWorld) (step : GrownStep) → StopsIn plan next w n x.state during before step → slice_get (at_server before n step).servers n ≡ Some step.state
      at_there during before step at_rest = get-set_here w.servers n x.state (restarted x.state) x.there
      at_there during before step (unrecorded k m sent) = get-set_here w.servers n x.state (restarted x.state) x.there
      at_there during before step (recorded k many m r sent handles) = get-set_here w.servers n x.state (restarted r.state) x.there

      dropped : (u : GrownWorld) → FitsGrown plan next u → slice_get u.servers n ≡ Some x.state → FitsGrown plan next (at_server u n (taken_at (restarted x.state) []))
      dropped u fits there =
          let f = server_fits plan next of u fits n x.state there in
          let here = server_here plan next of u fits n x.state there in
          served_fits plan next of u fits n x.state there (taken_at (restarted x.state) [])
          (record { fits = (f.0, tt); here = record { core = here.core; viewing = record { reads = tt }; drained = here.drained }; own = refl; sends = tt })

      go : (during : Option (ℕ × Kept)) (before : GrownWorld) (step : GrownStep) → StopsIn plan next w n x.state during before step → FitsGrown plan next (at_server before n step)
      go during before step at_rest = dropped w fits x.there
      go during before step (unrecorded k m sent) = dropped (mark_delivered w k) (comes_fits_in plan next of w fits k) x.there
      go during before step (recorded k many m r sent handles) =
          let s = x.state in
          let kept =
          handled_keeps plan next (length w.servers) (length w.coords) fits.counted s (own_shard plan next of w fits n s x.there) (server_here plan next of w fits n s x.there)
          (server_fits plan next of w fits n s x.there) m.file m.message.msg r handles (sent_names (k - 1) m sent.there) in
          served_fits plan next of (mark_delivered w k) (comes_fits_in plan next of w fits k) n s x.there (cut_short many r)
          (record {
            fits = (kept.fits.0, tt);
            here = record { core = kept.here.core; viewing = record { reads = tt }; drained = kept.here.drained };
            own = kept.own;
            sends = all_take (IsOutHere (length w.servers) (length w.coords)) many r.sends kept.sends;
          })

  pub kept : (e : Event) (o : Outcome) → Happens plan next w e o → FitsGrown plan next o.world
  kept (Submit n proc args) o (call, s, there, h) = submitted_fits plan next of w fits n s there proc args o h
  kept (Deliver k) o (m, some, there, h) =
      received_fits plan next of (mark_delivered w k) (comes_fits_in plan next of w fits k) m.file m.message.msg (sent_names (k - 1) m there) m.message.to o h
  kept (Tick (Server shard)) o (s, there, e) =
      subst (λ (o : Outcome). FitsGrown plan next o.world) (sym e)
      (served_fits plan next of w fits shard.0 s there (taken_at s (tick_sends s.core))
      (same_keeps plan next (length w.servers) (length w.coords) fits.counted s (own_shard plan next of w fits shard.0 s there) (server_here plan next of w fits shard.0 s there)
      (server_fits plan next of w fits shard.0 s there) (taken_at s (tick_sends s.core)) refl (tick_outs plan next of w fits shard.0 s there)))
  kept (Tick (Coord n)) o (s, there, e) =
      subst (λ (o : Outcome). FitsGrown plan next o.world) (sym e)
      (sends_fit plan next of w fits s.switched (Coord n) (grown_tick_sends plan next s)
      (tick_here plan next of (length w.servers) (length w.coords) (some_shard plan next of w fits) fits.shards s (coord_here plan next of w fits n s there) (coord_fits plan next of w fits n s there)))
  kept (Stop shard during) o x = stopped_fits shard.0 during o x
  kept (Drain n) o (some, s, there, e) =
      subst (λ (o : Outcome). FitsGrown plan next o.world) (sym e)
      (coordinated_fits plan next of w fits n s there (after_drain plan s).state (after_drain plan s).sends []
      (drain_keeps plan next of (length w.servers) (length w.coords) (some_shard plan next of w fits) fits.shards s (coord_here plan next of w fits n s there) (coord_fits plan next of w fits n s there)))

  pub comes_fits : (e : Option Event) (o : Outcome) → Transition plan next w e o → FitsGrown plan next o.world
  comes_fits None o h = subst (λ (o : Outcome). FitsGrown plan next o.world) (sym h) fits
  comes_fits (Some e) o h = kept e o h

-- ---- runs

none_told : (coords : ℕ) → AllByRecursion (λ (told : Option TxnId). IfSome told (λ (u : TxnId). u.coord < coords)) none_drained
none_told coords = go 16
  where
    go : (n : ℕ) → AllByRecursion (λ (told : Option TxnId). IfSome told (λ (u : TxnId). u.coord < coords)) (replicate n None)
    go zero = tt
    go (suc n) = (tt, go n)

pub first_fits : (plan : Plan) (next : Option Next) (coords : ℕ) → 0 < plan.program.shards → AreCoordsOf next coords → FitsGrown plan next (first_grown_world plan coords)
first_fits plan next coords some counted =
    record {
      some_server = subst (λ n. 0 < n) (sym long) some;
      shards = long;
      counted = subst (AreCoordsOf next) (sym many) counted;
      numbers = λ n s h. numbered 0 plan.program.shards n s h ∙ zero_more n;
      servers = servers_of 0 plan.program.shards;
      coords = coords_of 0 coords;
      undelivered = tt;
      sent_here = tt;
      servers_here = servers_here 0 plan.program.shards;
      coords_here = coords_here (length (first_grown_world plan coords).coords) 0 coords (let e = many in omega (arith, e));
    }
  where
    zero_more : (n : ℕ) → 0 + n ≡ n
    zero_more n = omega arith

    server : ℕ → GrownServerState
    server n = first_grown_server plan (record { 0 = n })

    long : length (first_grown_world plan coords).servers ≡ plan.program.shards
    long = length-map (range_with_len 0 plan.program.shards) server ∙ length-range_with_len 0 plan.program.shards

    many : length (first_grown_world plan coords).coords ≡ coords
    many = length-map (range_with_len 0 coords) first_grown_coord ∙ length-range_with_len 0 coords

    numbered : (a n i : ℕ) (s : GrownServerState) → slice_get (map server (range_with_len a n)) i ≡ Some s → s.core.shard.0 ≡ a + i
    numbered a zero i s h = absurd (cc)
    numbered a (suc n) zero s h = let e : s ≡ server a = cc in ap (λ (s : GrownServerState). s.core.shard.0) e ∙ (omega arith)
    numbered a (suc n) (suc i) s h = numbered (a + 1) n i s h ∙ (omega arith)

    servers_of : (a n : ℕ) → AllByRecursion (GrownServerFits plan next) (map server (range_with_len a n))
    servers_of a zero = tt
    servers_of a (suc n) = ((tt, tt), servers_of (a + 1) n)

    coords_of : (a n : ℕ) → AllByRecursion (GrownCoordFits plan next) (map first_grown_coord (range_with_len a n))
    coords_of a zero = tt
    coords_of a (suc n) = ((tt, tt), coords_of (a + 1) n)

    servers_here : (a n : ℕ) → AllByRecursion (IsGrownServerHere (length (first_grown_world plan coords).servers) (length (first_grown_world plan coords).coords)) (map server (range_with_len a n))
    servers_here a zero = tt
    servers_here a (suc n) =
        (record { core = record { started = tt; known = tt; links = tt; asked = tt; askers = tt }; viewing = record { reads = tt }; drained = none_told (length (first_grown_world plan coords).coords) }, servers_here (a + 1) n)

    coords_here : (all a n : ℕ) → a + n ≡ all → AllByRecursion (λ (c : GrownCoordState). IsCoordHere (length (first_grown_world plan coords).servers) all c.core) (map first_grown_coord (range_with_len a n))
    coords_here all a zero e = tt
    coords_here all a (suc n) e = (record { number = omega arith; pending = tt; views = tt }, coords_here all (a + 1) n (omega arith))

pub run_fits : (plan : Plan) (next : Option Next) (of : IsNextOf plan next) (coords : ℕ) → 0 < plan.program.shards → (steps : List Stepped) (w : GrownWorld) → IsGrownRun plan next coords steps w → FitsGrown plan next w
run_fits plan next of coords some _ _ (at_first counted) = first_fits plan next coords some counted
run_fits plan next of coords some _ _ (steps_on {steps = steps} {w = w} e o r h) = comes_fits plan next of w (run_fits plan next of coords some steps w r) e o h
