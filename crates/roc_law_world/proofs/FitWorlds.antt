-- A world that fits keeps fitting, whatever happens, and so each world of a run fits
use Rattle.std.proofs.Common.{◌≡◌, ℕ, ℤ, zero, suc, ◌+◌, ◌-◌, ◌<◌, ◌≤◌, ◌==◌, not, Bool, true, false, List, [], ◌∷◌, ◌++◌, Option, Some, None, length, map, sym, ap, subst, ◌∙◌, refl, inl, inr, arith}
use Rattle.std.proofs.lemmas.List.{length-map, length-set}
use Rattle.std.proofs.lemmas.Option.{slice_get_within}
use Rattle.std.specs.Prelude.{slice_get, slice_set, if◌then◌else◌}
use Rattle.std.specs.List.{AllByRecursion, range_with_len}
use Rattle.roc_sequence.specs.Lists.{Has}
use Rattle.roc_sequence.proofs.Holds.{all_has, has_all, all_append, all_set, all_weaker}
use Rattle.roc_sequence.proofs.Members.{has_at}
use Rattle.roc_base.specs.declared.node.Node.{Node}
use Rattle.roc_base.specs.declared.node.Node.TheVariants.{Server, Coord}
use Rattle.roc_base.specs.declared.node.Shard.{Shard}
use Rattle.roc_msg.specs.declared.msg.Envelope.{Envelope}
use Rattle.roc_msg.specs.declared.outbox.Outgoing.{Outgoing}
use Rattle.roc_plan.specs.Groups.{Plan, procedure_of, is_view_of}
use Rattle.roc_step.specs.Fits.{AreReadsOf, ServerFits}
use Rattle.roc_step.specs.Reads.{ReadStep}
use Rattle.roc_step.specs.State.{answered, ServerState, ServerStep, Viewing}
use Rattle.roc_step.specs.Step as server
use Rattle.roc_coord.specs.declared.transaction.Transaction.{Transaction}
use Rattle.roc_coord.specs.Fits.{IsTransactionOf, CoordFits}
use Rattle.roc_coord.specs.State.{CoordState}
use Rattle.roc_coord.specs.Step.{after_message}
use Rattle.roc_coord.specs.Submit.{Submission, next_id, new_transaction, accepted, accepted_view, after_submit}
use Rattle.roc_coord.specs.Tick as coord
use Rattle.roc_coord.proofs.Keeping.{all_filter}
use Rattle.roc_readonly.specs.declared.view.View.{View}
use Rattle.roc_readonly.specs.Fits.{IsViewOf}
use Rattle.roc_readonly.specs.Round.{first_round}
use Rattle.roc_audit.specs.declared.entry.Entry.{Entry}
use Rattle.roc_audit.specs.declared.entry.Entry.TheVariants.{Submitted}
use Rattle.roc_law_protocol.specs.Beginnings as protocol
use Rattle.roc_law_protocol.specs.declared.event.Event.{Event}
use Rattle.roc_law_protocol.specs.declared.event.Event.TheVariants.{Submit, Deliver, Tick, Stop}
use Rattle.roc_law_protocol.specs.Fits as transactions
use Rattle.roc_law_protocol.specs.Fits.{IsServerHere, IsTransactionHere}
use Rattle.roc_law_protocol.specs.Happens.{answer_entries}
use Rattle.roc_law_protocol.specs.World.{sent_by}
use Rattle.roc_law_protocol.proofs.Changed.{get-set_cases}
use Rattle.roc_law_protocol.proofs.CoordsHere.{IsHeld}
use Rattle.roc_law_protocol.proofs.ServersHere as servers
use Rattle.roc_law_protocol.proofs.SubmissionEnds.{IsAnySubmission, any_submission_is, unknown, miscounted, spent, busy, taken}
use Rattle.roc_law_protocol.proofs.WorldsFit.{numbers_sent, begun_fits as their_begun_fits}
use Rattle.roc_law_world.specs.World.{World, Beginning, begun_viewing, begun_world, mark_delivered, at_server, at_coord, at_coord_tick}
use Rattle.roc_law_world.specs.Fits.{NamesNodes, IsSentHere, IsViewingHere, IsCoordHere, FitsWorld}
use Rattle.roc_law_world.specs.Happens.{Outcome, IsSubmissionOf, IsReceived, Happens, no_reads, StopsIn, at_rest, unrecorded, recorded}
use Rattle.roc_law_world.specs.Run.{Stepped, Transition, IsRunFrom, at_beginning, steps_on}
use Rattle.roc_law_world.proofs.OutsHere.{IsOutHere, outs_more, sent_more}
use Rattle.roc_law_world.proofs.FitServers.{KeepsViews, server_keeps, reads_keep}
use Rattle.roc_law_world.proofs.FitCoords as coords
use Rattle.roc_law_world.proofs.FitCoords.{IsViewHeld, Keeps}
use Rattle.roc_law_world.proofs.Stops.{by_parts}
use Rattle.roc_step.specs.Restarts.{cut_short, cut_reads}
use Rattle.roc_law_protocol.proofs.Stopping.{all_take}
use Rattle.roc_law_protocol.specs.declared.event.Kept.{Kept}

module _ (plan : Plan) (w : World) (fits : FitsWorld plan w) where
  some_shard : 0 < plan.program.shards
  some_shard = subst (λ n. 0 < n) fits.shards fits.some_server

  comes_fits_in : (k : ℕ) → FitsWorld plan (mark_delivered w k)
  comes_fits_in k =
      record {
        some_server = fits.some_server;
        shards = fits.shards;
        each_views = fits.each_views;
        numbers = fits.numbers;
        servers = fits.servers;
        viewing = fits.viewing;
        coords = fits.coords;
        undelivered = all_filter (λ n. (0 < n) × (n ≤ length w.sent)) (λ n. not (n == k)) w.undelivered fits.undelivered;
        sent_here = fits.sent_here;
        servers_here = fits.servers_here;
        viewing_here = fits.viewing_here;
        coords_here = fits.coords_here;
      }

  -- ---- of a server

  module _ (n : ℕ) (s : ServerState) (there : slice_get w.servers n ≡ Some s) where
    own_shard : s.shard.0 < length w.servers
    own_shard = let e = fits.numbers n s there in let l = slice_get_within w.servers n s there in omega (arith, e, l)

    server_here : IsServerHere (length w.servers) (length w.coords) s
    server_here = all_has (IsServerHere (length w.servers) (length w.coords)) s w.servers fits.servers_here (has_at w.servers n s there)

    pub server_fits : ServerFits plan s
    server_fits = all_has (ServerFits plan) s w.servers fits.servers (has_at w.servers n s there)

    served_fits : (r : ServerStep) (q : ReadStep) → servers.KeepsServer plan (length w.servers) (length w.coords) s.shard r → KeepsViews plan (length w.servers) (length w.coords) q
        → FitsWorld plan (at_server w n r q)
    served_fits r q k v =
        let same : length w.servers ≡ length (slice_set w.servers n r.state) = sym (length-set w.servers n r.state) in
        let outs = all_append (IsOutHere (length w.servers) (length w.coords)) r.sends q.sends (outs_more (length w.servers) (length w.coords) r.sends k.sends) v.sends in
        record {
          some_server = subst (λ c. 0 < c) same fits.some_server;
          shards = sym same ∙ fits.shards;
          each_views = length-set w.viewing n q.viewing ∙ (fits.each_views ∙ same);
          numbers = λ m x h. elim (get-set_cases w.servers n m s r.state x there h) [
            | inl e ↦ ap (λ (x : ServerState). x.shard.0) e.1 ∙ (ap (λ (a : Shard). a.0) k.own ∙ (fits.numbers n s there ∙ e.0))
            | inr e ↦ fits.numbers m x e.1
          ];
          servers = all_set (ServerFits plan) w.servers n r.state fits.servers k.fits;
          viewing = all_set (λ (v : Viewing). AreReadsOf plan v.reads) w.viewing n q.viewing fits.viewing v.fits;
          coords = fits.coords;
          undelivered = numbers_sent w.sent w.undelivered (Server (record { 0 = n })) (r.sends ++ q.sends) fits.undelivered;
          sent_here =
              subst (λ c. AllByRecursion (IsSentHere c (length w.coords)) (w.sent ++ map (sent_by (Server (record { 0 = n }))) (r.sends ++ q.sends))) same
              (sent_more (length w.servers) (length w.coords) w.sent (Server (record { 0 = n })) (r.sends ++ q.sends) fits.sent_here outs);
          servers_here =
              subst (λ c. AllByRecursion (IsServerHere c (length w.coords)) (slice_set w.servers n r.state)) same
              (all_set (IsServerHere (length w.servers) (length w.coords)) w.servers n r.state fits.servers_here k.state);
          viewing_here =
              subst (λ c. AllByRecursion (IsViewingHere c (length w.coords)) (slice_set w.viewing n q.viewing)) same
              (all_set (IsViewingHere (length w.servers) (length w.coords)) w.viewing n q.viewing fits.viewing_here v.here);
          coords_here = subst (λ c. AllByRecursion (IsCoordHere c (length w.coords)) w.coords) same fits.coords_here;
        }

  pub viewing_fits : (n : ℕ) (v : Viewing) → slice_get w.viewing n ≡ Some v → AreReadsOf plan v.reads × IsViewingHere (length w.servers) (length w.coords) v
  viewing_fits n v keeps = (
    all_has (λ (v : Viewing). AreReadsOf plan v.reads) v w.viewing fits.viewing (has_at w.viewing n v keeps),
    all_has (IsViewingHere (length w.servers) (length w.coords)) v w.viewing fits.viewing_here (has_at w.viewing n v keeps),
  )

  -- ---- of a coordinator

  module _ (n : ℕ) (s : CoordState) (there : slice_get w.coords n ≡ Some s) where
    coord_here : IsCoordHere (length w.servers) (length w.coords) s
    coord_here = all_has (IsCoordHere (length w.servers) (length w.coords)) s w.coords fits.coords_here (has_at w.coords n s there)

    pub coord_fits : CoordFits plan s
    coord_fits = all_has (CoordFits plan) s w.coords fits.coords (has_at w.coords n s there)

    transaction_held : (x : Transaction) → Has x s.pending → IsHeld plan (length w.servers) (length w.coords) some_shard fits.shards x
    transaction_held x h =
        record {
          here = all_has (IsTransactionHere (length w.servers) (length w.coords)) x s.pending coord_here.pending h;
          of = all_has (IsTransactionOf plan) x s.pending coord_fits.0 h;
        }

    view_held : (v : View) → Has v s.views → IsViewHeld plan (length w.servers) (length w.coords) some_shard fits.shards v
    view_held v h =
        record {
          of = all_has (IsViewOf plan) v s.views coord_fits.1 h;
          coord = all_has (λ (v : View). v.id.coord < length w.coords) v s.views coord_here.views h;
        }

    abbrev KeepsHere : CoordState → List Outgoing → Type 0
    KeepsHere after outs = Keeps plan (length w.servers) (length w.coords) some_shard fits.shards s coord_here.number transaction_held view_held after outs

    coordinated_fits : (after : CoordState) (outs : List Outgoing) (told : List Entry) → KeepsHere after outs → FitsWorld plan (at_coord w n after outs told)
    coordinated_fits after outs told k =
        let same : length w.coords ≡ length (slice_set w.coords n after) = sym (length-set w.coords n after) in
        let here : IsCoordHere (length w.servers) (length w.coords) after = record {
          number = k.number;
          pending = has_all (IsTransactionHere (length w.servers) (length w.coords)) after.pending (λ x h. (k.pending x h).here);
          views = has_all (λ (v : View). v.id.coord < length w.coords) after.views (λ v h. (k.views v h).coord);
        } in
        record {
          some_server = fits.some_server;
          shards = fits.shards;
          each_views = fits.each_views;
          numbers = fits.numbers;
          servers = fits.servers;
          viewing = fits.viewing;
          coords = all_set (CoordFits plan) w.coords n after fits.coords
              (has_all (IsTransactionOf plan) after.pending (λ x h. (k.pending x h).of), has_all (IsViewOf plan) after.views (λ v h. (k.views v h).of));
          undelivered = numbers_sent w.sent w.undelivered (Coord n) outs fits.undelivered;
          sent_here =
              subst (λ c. AllByRecursion (IsSentHere (length w.servers) c) (w.sent ++ map (sent_by (Coord n)) outs)) same
              (sent_more (length w.servers) (length w.coords) w.sent (Coord n) outs fits.sent_here k.sends);
          servers_here = subst (λ c. AllByRecursion (IsServerHere (length w.servers) c) w.servers) same fits.servers_here;
          viewing_here = subst (λ c. AllByRecursion (IsViewingHere (length w.servers) c) w.viewing) same fits.viewing_here;
          coords_here =
              subst (λ c. AllByRecursion (IsCoordHere (length w.servers) c) (slice_set w.coords n after)) same
              (all_set (IsCoordHere (length w.servers) (length w.coords)) w.coords n after fits.coords_here here);
        }

    ticked_fits : FitsWorld plan (at_coord_tick w n (coord.tick_sends plan s))
    ticked_fits =
        record {
          some_server = fits.some_server;
          shards = fits.shards;
          each_views = fits.each_views;
          numbers = fits.numbers;
          servers = fits.servers;
          viewing = fits.viewing;
          coords = fits.coords;
          undelivered = numbers_sent w.sent w.undelivered (Coord n) (coord.tick_sends plan s) fits.undelivered;
          sent_here =
              sent_more (length w.servers) (length w.coords) w.sent (Coord n) (coord.tick_sends plan s) fits.sent_here
              (coords.tick_here plan (length w.servers) (length w.coords) some_shard fits.shards s coord_here.number transaction_held view_held);
          servers_here = fits.servers_here;
          viewing_here = fits.viewing_here;
          coords_here = fits.coords_here;
        }

    submitted_fits : (proc : ℕ) (args : List ℤ) (o : Outcome) → IsSubmissionOf w n proc args (after_submit plan s proc args) o → FitsWorld plan o.world
    submitted_fits proc args o h = go (after_submit plan s proc args) (any_submission_is plan s proc args) h
      where
        kinds : (b : Bool) → is_view_of plan proc ≡ b → proc < length plan.program.procedures → length args ≡ (procedure_of plan proc).arguments
            → IsSubmissionOf w n proc args (if b then accepted_view plan s (first_round (next_id s) proc args) else accepted plan s (new_transaction s proc args)) o → FitsWorld plan o.world
        kinds true e known counted k =
            let r = accepted_view plan s (first_round (next_id s) proc args) in
            subst (λ (o : Outcome). FitsWorld plan o.world) (sym k)
            (coordinated_fits r.state r.sends (Submitted (next_id s) proc args ∷ [])
            (coords.view_keeps plan (length w.servers) (length w.coords) some_shard fits.shards s coord_here.number transaction_held view_held proc args e counted))
        kinds false e known counted k =
            let r = accepted plan s (new_transaction s proc args) in
            subst (λ (o : Outcome). FitsWorld plan o.world) (sym k)
            (coordinated_fits r.state r.sends (Submitted (next_id s) proc args ∷ [])
            (coords.submission_keeps plan (length w.servers) (length w.coords) some_shard fits.shards s coord_here.number transaction_held view_held proc args known e counted))

        go : (r : Submission) → IsAnySubmission plan s proc args r → IsSubmissionOf w n proc args r o → FitsWorld plan o.world
        go r (unknown none) k = absurd k
        go r (miscounted e) k = absurd k
        go r (spent known counted l) k = subst (λ (o : Outcome). FitsWorld plan o.world) (sym k) fits
        go r (busy known counted l m) k = subst (λ (o : Outcome). FitsWorld plan o.world) (sym k) fits
        go r (taken known counted l m) k = kinds (is_view_of plan proc) refl known counted k

-- ---- any event

received_fits :
    (plan : Plan) (w : World) → FitsWorld plan w → (m : Envelope) → NamesNodes (length w.servers) (length w.coords) m.msg
    → (to : Node) (o : Outcome) → IsReceived plan w m.msg to o → FitsWorld plan o.world
received_fits plan w fits m names (Server shard) o h =
    let s = h.state in
    let own = own_shard plan w fits shard.0 s h.there in
    let here = server_here plan w fits shard.0 s h.there in
    let kept = server_keeps plan (length w.servers) (length w.coords) s own here (server_fits plan w fits shard.0 s h.there) m.msg h.step h.handles names in
    let v = viewing_fits plan w fits shard.0 h.viewing h.keeps in
    subst (λ (o : Outcome). FitsWorld plan o.world) (sym h.is)
    (served_fits plan w fits shard.0 s h.there h.step h.reads kept (reads_keep plan (length w.servers) (length w.coords) s h.viewing m.msg h.step h.reads h.handles h.answers names v.0 v.1))
received_fits plan w fits m names (Coord n) o (s, there, e) =
    let r = after_message plan s m.msg in
    subst (λ (o : Outcome). FitsWorld plan o.world) (sym e)
    (coordinated_fits plan w fits n s there r.state r.sends (answer_entries r.answer)
    (coords.message_keeps plan (length w.servers) (length w.coords) (some_shard plan w fits) fits.shards s (coord_here plan w fits n s there).number
    (transaction_held plan w fits n s there) (view_held plan w fits n s there) m.msg names))

pub kept : (plan : Plan) (w : World) → FitsWorld plan w → (e : Event) (o : Outcome) → Happens plan w e o → FitsWorld plan o.world
kept plan w fits (Submit n proc args) o (s, there, h) = submitted_fits plan w fits n s there proc args o h
kept plan w fits (Deliver k) o (m, some, there, h) =
    let here = all_has (IsSentHere (length w.servers) (length w.coords)) m w.sent fits.sent_here (has_at w.sent (k - 1) m there) in
    received_fits plan (mark_delivered w k) (comes_fits_in plan w fits k) m here.names m.to o h
kept plan w fits (Tick (Server shard)) o (s, v, there, keeps, e) =
    let k = viewing_fits plan w fits shard.0 v keeps in
    subst (λ (o : Outcome). FitsWorld plan o.world) (sym e)
    (served_fits plan w fits shard.0 s there (answered s (server.tick_sends s)) (record { viewing = v; sends = [] })
    (servers.tick_keeps plan (length w.servers) (length w.coords) s (own_shard plan w fits shard.0 s there) (server_here plan w fits shard.0 s there) (server_fits plan w fits shard.0 s there))
    (record { fits = k.0; here = k.1; sends = tt }))
kept plan w fits (Tick (Coord n)) o (s, there, e) = subst (λ (o : Outcome). FitsWorld plan o.world) (sym e) (ticked_fits plan w fits n s there)
kept plan w fits (Stop shard during) o x = by_parts plan w shard.0 (FitsWorld plan) again during o x (go during x.before x.step x.reads x.stops)
  where
    dropped : (u : World) → FitsWorld plan u → (s : ServerState) (v : Viewing) → slice_get u.servers shard.0 ≡ Some s → FitsWorld plan (at_server u shard.0 (answered s []) (no_reads v))
    dropped u fits s v there =
        let q = servers.tick_keeps plan (length u.servers) (length u.coords) s (own_shard plan u fits shard.0 s there) (server_here plan u fits shard.0 s there) (server_fits plan u fits shard.0 s there) in
        served_fits plan u fits shard.0 s there (answered s []) (no_reads v) (record { state = q.state; fits = q.fits; own = q.own; sends = tt }) (record { fits = tt; here = record { reads = tt }; sends = tt })

    go : (during : Option (ℕ × Kept)) (before : World) (step : ServerStep) (reads : ReadStep) → StopsIn plan w shard.0 x.state x.viewing during before step reads → FitsWorld plan (at_server before shard.0 step reads)
    go during before step reads at_rest = dropped w fits x.state x.viewing x.there
    go during before step reads (unrecorded k m sent) = dropped (mark_delivered w k) (comes_fits_in plan w fits k) x.state x.viewing x.there
    go during before step reads (recorded k many m r q sent handles answers) =
        let s = x.state in
        let here = all_has (IsSentHere (length w.servers) (length w.coords)) m w.sent fits.sent_here (has_at w.sent (k - 1) m sent.there) in
        let kept = server_keeps plan (length w.servers) (length w.coords) s (own_shard plan w fits shard.0 s x.there) (server_here plan w fits shard.0 s x.there) (server_fits plan w fits shard.0 s x.there) m.msg r handles here.names in
        let v = viewing_fits plan w fits shard.0 x.viewing x.keeps in
        let read = reads_keep plan (length w.servers) (length w.coords) s x.viewing m.msg r q handles answers here.names v.0 v.1 in
        served_fits plan (mark_delivered w k) (comes_fits_in plan w fits k) shard.0 s x.there (cut_short many r) (cut_reads many r q)
        (record { state = kept.state; fits = kept.fits; own = kept.own; sends = all_take _ many r.sends kept.sends })
        (record { fits = tt; here = record { reads = tt }; sends = all_take _ (many - length r.sends) q.sends read.sends })

    again : (w : World) (s : ServerState) (v : Viewing) → FitsWorld plan w → slice_get w.servers shard.0 ≡ Some s → slice_get w.viewing shard.0 ≡ Some v
        → FitsWorld plan (at_server w shard.0 (answered s (server.tick_sends s)) (record { viewing = v; sends = [] }))
    again w s v fits there keeps =
        let k = viewing_fits plan w fits shard.0 v keeps in
        served_fits plan w fits shard.0 s there (answered s (server.tick_sends s)) (record { viewing = v; sends = [] })
        (servers.tick_keeps plan (length w.servers) (length w.coords) s (own_shard plan w fits shard.0 s there) (server_here plan w fits shard.0 s there) (server_fits plan w fits shard.0 s there))
        (record { fits = k.0; here = k.1; sends = tt })

pub comes_fits : (plan : Plan) (w : World) (e : Option Event) (o : Outcome) → FitsWorld plan w → Transition plan w e o → FitsWorld plan o.world
comes_fits plan w None o fits h = subst (λ (o : Outcome). FitsWorld plan o.world) (sym h) fits
comes_fits plan w (Some e) o fits h = kept plan w fits e o h

-- ---- runs

pub begun_fits : (plan : Plan) (b : Beginning) (count : ℕ) → 0 < plan.program.shards → FitsWorld plan (begun_world plan b count)
begun_fits plan b count some =
    let u : World = begun_world plan b count in
    let theirs = their_begun_fits plan b.of_transactions count some in
    record {
      some_server = theirs.some_server;
      shards = theirs.shards;
      each_views = length-map (range_with_len 0 plan.program.shards) (begun_viewing b) ∙ sym (length-map (range_with_len 0 plan.program.shards) (protocol.begun_server b.of_transactions));
      numbers = theirs.numbers;
      servers = theirs.servers;
      viewing = none_read 0 plan.program.shards;
      coords = theirs.coords;
      undelivered = tt;
      sent_here = tt;
      servers_here = theirs.servers_here;
      viewing_here = none_viewing (length u.servers) (length u.coords) 0 plan.program.shards;
      coords_here = all_weaker (transactions.IsCoordHere (length u.servers) (length u.coords)) (IsCoordHere (length u.servers) (length u.coords))
          (λ c k. record { number = k.number; pending = k.pending; views = subst (AllByRecursion (λ (v : View). v.id.coord < length u.coords)) (sym k.plain.views) tt }) u.coords theirs.coords_here;
    }
  where
    none_read : (a n : ℕ) → AllByRecursion (λ (v : Viewing). AreReadsOf plan v.reads) (map (begun_viewing b) (range_with_len a n))
    none_read a zero = tt
    none_read a (suc n) = (tt, none_read (a + 1) n)

    none_viewing : (servers coords a n : ℕ) → AllByRecursion (IsViewingHere servers coords) (map (begun_viewing b) (range_with_len a n))
    none_viewing servers coords a zero = tt
    none_viewing servers coords a (suc n) = (record { reads = tt }, none_viewing servers coords (a + 1) n)

pub run_fits : (plan : Plan) (b : Beginning) (coords : ℕ) → 0 < plan.program.shards → (steps : List Stepped) (w : World) → IsRunFrom plan b coords steps w → FitsWorld plan w
run_fits plan b coords some _ _ at_beginning = begun_fits plan b coords some
run_fits plan b coords some _ _ (steps_on {steps = steps} {w = w} e o r h) = comes_fits plan w e o (run_fits plan b coords some steps w r) h
