-- A run of two files is two runs of one, side by side
use Rattle.std.proofs.Common.{◌≡◌, ◌∙◌, inl, inr, ◌<◌, ℕ, zero, suc, List, [], ◌∷◌, ◌++◌, Option, Some, None, length, map, replicate, refl, sym, ap, subst, append-nil}
use Rattle.std.proofs.lemmas.Bool.{false≢true}
use Rattle.std.proofs.lemmas.List.{length-map}
use Rattle.std.proofs.lemmas.Option.{slice_get-map}
use Rattle.std.specs.Prelude.{slice_get, option_map, if◌then◌else◌}
use Rattle.std.specs.List.{range_with_len}
use Rattle.roc_sequence.specs.Lists.{Has}
use Rattle.roc_base.specs.declared.id.TxnId.{TxnId}
use Rattle.roc_base.specs.declared.node.Node.{Node}
use Rattle.roc_base.specs.declared.node.Node.TheVariants.{Server, Coord}
use Rattle.roc_plan.specs.Groups.{Plan}
use Rattle.roc_plan.specs.Accepted.{IsAccepted}
use Rattle.roc_step.specs.Renewed.{renewed, renewed_viewing}
use Rattle.roc_step.specs.State.{ServerState, Viewing}
use Rattle.roc_coord.specs.State.{CoordState}
use Rattle.roc_coord.specs.Renewed.{renewed_coord}
use Rattle.roc_law_protocol.specs.Beginnings as protocol
use Rattle.roc_law_protocol.specs.declared.event.Seen.TheVariants as seen_there
use Rattle.roc_law_world.specs.World.{World, first_beginning, first_world, begun_viewing}
use Rattle.roc_law_world.specs.Happens as happen
use Rattle.roc_law_world.specs.Run as views
use Rattle.roc_epoch.specs.declared.file.File.{File}
use Rattle.roc_epoch.specs.declared.file.File.TheVariants.{First, Second}
use Rattle.roc_epoch.specs.declared.next.Next.{Next}
use Rattle.roc_epoch.specs.Files.{last_plan, IsNextOf}
use Rattle.roc_two_files.specs.Left.{AreDrained, left_behind}
use Rattle.roc_grown.specs.Server.{GrownServerState, first_grown_server}
use Rattle.roc_grown.specs.Coord.{GrownCoordState, first_grown_coord}
use Rattle.roc_growth.specs.declared.event.Event.{Event}
use Rattle.roc_growth.specs.declared.event.Event.TheVariants.{Submit, Deliver, Tick, Stop, Drain}
use Rattle.roc_growth.specs.World.{GrownWorld, first_grown_world, mark_delivered}
use Rattle.roc_growth.specs.Happens.{Outcome, IsReceived, Happens}
use Rattle.roc_growth.specs.Run.{Stepped, Transition, AreCoordsOf, IsGrownRun, at_first, steps_on}
use Rattle.roc_growth.specs.Told.{HasSwitched, IsTelling, AreTold}
use Rattle.roc_growth.specs.Epochs.{IsAlong, AreAlong, none_along, one_more_along, second_begun, AreEpochs}
use Rattle.roc_growth.proofs.Plainly.{from_map}
use Rattle.roc_growth.proofs.Placed.{aside_step, aside_along, none_of, none_run, none_are_along}
use Rattle.roc_growth.proofs.OwnServers.{bare}
use Rattle.roc_growth.proofs.Phases.{last_shards, Laws, StandsIn, IsFresh, IsLater, Phase, fresh, later, IsGlued}
use Rattle.roc_growth.proofs.CoordEvents as coord_events
use Rattle.roc_growth.proofs.ServerEvents as server_events
use Rattle.roc_growth.proofs.ServerMessages as server_messages
use Rattle.roc_growth.proofs.ServerStops as server_stops

-- ---- the first world

none_told : (n i : ℕ) (t : Option TxnId) → slice_get (replicate n None) i ≡ Some t → t ≡ None
none_told zero i t h = absurd (cc)
none_told (suc n) zero t h = cc
none_told (suc n) (suc i) t h = none_told n i t h

cores : (ns : List ℕ) (plan : Plan) → map (protocol.begun_coord (protocol.first_beginning plan)) ns ≡ map (λ (c : GrownCoordState). c.core) (map first_grown_coord ns)
cores [] plan = refl
cores (n ∷ ns) plan = ap (λ l. protocol.begun_coord (protocol.first_beginning plan) n ∷ l) (cores ns plan)

module _ (plan : Plan) (next : Option Next) (count : ℕ) where
  abbrev first_server_at : ℕ → GrownServerState
  first_server_at n = first_grown_server plan (record { 0 = n })

  pub at_start : IsGlued plan next count [] (bare (first_grown_world plan count))
  at_start =
      record {
        told = record {
          telling = λ n c at. telling n c at;
          messages = λ m h. absurd h;
          kept = λ n i s u at h. absurd (no_told n i s u at h);
          at = λ n c shard at h. absurd (subst (λ (c : GrownCoordState). Has shard c.at) (the_coord n c at).1 h);
          by_server = λ n h. absurd (no_server n h);
          by_coord = λ n c at h. absurd (false≢true (sym (ap (λ (c : GrownCoordState). c.switched) (the_coord n c at).1) ∙ h));
        };
        first_steps = [];
        w = first_world plan count;
        first = views.at_beginning;
        sent = refl;
        along = none_along;
        filed = λ m h. absurd h;
        sixteen = λ n s at. ap (λ (s : GrownServerState). length s.drained) (the_server n s at).2;
        all_at = λ n c at h. absurd (false≢true (sym (ap (λ (c : GrownCoordState). c.switched) (the_coord n c at).1) ∙ h));
        servers = length-map (range_with_len 0 plan.program.shards) (protocol.begun_server (protocol.first_beginning plan)) ∙ sym (length-map (range_with_len 0 plan.program.shards) first_server_at);
        coords = length-map (range_with_len 0 count) (protocol.begun_coord (protocol.first_beginning plan)) ∙ sym (length-map (range_with_len 0 count) first_grown_coord);
        phase = fresh (record {
          servers = λ n s at. stands n s at;
          coords = cores (range_with_len 0 count) plan;
          plain = λ n c at. ap (λ (c : GrownCoordState). c.switched) (the_coord n c at).1;
          second = refl;
          history = refl;
          order = refl;
          looks = refl;
        });
      }
    where
      the_coord : (n : ℕ) (c : GrownCoordState) → slice_get (map first_grown_coord (range_with_len 0 count)) n ≡ Some c → (k : ℕ) × (c ≡ first_grown_coord k)
      the_coord n c at = let q = from_map first_grown_coord (range_with_len 0 count) n c at in (q.0, q.2)

      the_server : (n : ℕ) (s : GrownServerState) → slice_get (map first_server_at (range_with_len 0 plan.program.shards)) n ≡ Some s
          → (k : ℕ) × (slice_get (range_with_len 0 plan.program.shards) n ≡ Some k) × (s ≡ first_server_at k)
      the_server n s at = from_map first_server_at (range_with_len 0 plan.program.shards) n s at

      telling : (n : ℕ) (c : GrownCoordState) → slice_get (map first_grown_coord (range_with_len 0 count)) n ≡ Some c → IsTelling n c
      telling n c at =
          subst (IsTelling n) (sym (the_coord n c at).1) (record { plain = λ h. refl; own = λ u e. absurd (never u e); rests = λ u e s. absurd (never u e) })
        where
          never : (u : TxnId) → ◌≡◌ {A = Option TxnId} None (Some u) → ⊥
          never u e = cc

      no_told : (n i : ℕ) (s : GrownServerState) (u : TxnId) → slice_get (map first_server_at (range_with_len 0 plan.program.shards)) n ≡ Some s → slice_get s.drained i ≡ Some (Some u) → ⊥
      no_told n i s u at h = let e : Some u ≡ None = none_told 16 i (Some u) (subst (λ (s : GrownServerState). slice_get s.drained i ≡ Some (Some u)) (the_server n s at).2 h) in absurd (cc)

      no_server : (n : ℕ) → HasSwitched (map first_server_at (range_with_len 0 plan.program.shards)) n → ⊥
      no_server n (s, at, h) = false≢true (sym (ap (λ (s : GrownServerState). s.switched) (the_server n s at).2) ∙ h)

      stands : (n : ℕ) (s : GrownServerState) → slice_get (map first_server_at (range_with_len 0 plan.program.shards)) n ≡ Some s → StandsIn (first_world plan count) n s
      stands n s at =
          let q = the_server n s at in
          subst (StandsIn (first_world plan count) n) (sym q.2)
          (record {
            state = protocol.begun_server (protocol.first_beginning plan) q.0;
            there = slice_get-map (protocol.begun_server (protocol.first_beginning plan)) (range_with_len 0 plan.program.shards) n ∙ ap (option_map (protocol.begun_server (protocol.first_beginning plan))) q.1;
            viewing = begun_viewing (first_beginning plan) q.0;
            keeps = slice_get-map (begun_viewing (first_beginning plan)) (range_with_len 0 plan.program.shards) n ∙ ap (option_map (begun_viewing (first_beginning plan))) q.1;
            core = refl;
            reads = refl;
          })

  -- ---- no event

  pub nothing_happens : (steps : List Stepped) (g : GrownWorld) (out : Outcome) → IsGlued plan next count steps (bare g) → bare out.world ≡ bare g → IsGlued plan next count (steps ++ (record { event = None; outcome = out }) ∷ []) (bare out.world)
  nothing_happens steps g out o world =
      subst (IsGlued plan next count (steps ++ step ∷ [])) (sym world)
      (record {
        told = o.told;
        first_steps = o.first_steps ++ aside_step o.w ∷ [];
        w = o.w;
        first = views.steps_on None (happen.undecided seen_there.Done o.w) o.first refl;
        sent = o.sent;
        along = one_more_along step (aside_step o.w) o.along (aside First o.w);
        filed = o.filed;
        sixteen = o.sixteen;
        all_at = o.all_at;
        servers = o.servers;
        coords = o.coords;
        phase = go o.phase;
      })
    where
      step : Stepped
      step = record { event = None; outcome = out }

      aside : (f : File) (u : World) → IsAlong f g.sent step (aside_step u)
      aside f u = aside_along f g.sent step u (λ k h. absurd (cc)) (λ k m h. absurd (cc))

      go : Phase plan next count steps (bare g) o.w → Phase plan next count (steps ++ step ∷ []) (bare g) o.w
      go (fresh f) = fresh f
      go (later second_steps v run l along) =
          later (second_steps ++ aside_step v ∷ []) v (views.steps_on None (happen.undecided seen_there.Done v) run refl) l (one_more_along step (aside_step v) along (aside Second v))

-- ---- any event

module _ (laws : Laws) (plan : Plan) (next : Option Next) (accepted : IsAccepted plan) (of : IsNextOf plan next) (count : ℕ) (counted : AreCoordsOf next count) where
  some : 0 < plan.program.shards
  some = accepted.well_formed.some_shard

  module _ (steps : List Stepped) (g : GrownWorld) (o : IsGlued plan next count steps (bare g)) where
    happens : (e : Event) (out : Outcome) → Happens plan next g e out → IsGlued plan next count (steps ++ (record { event = Some e; outcome = out }) ∷ []) (bare out.world)
    happens (Submit n proc args) out (call, c, there, h) = coord_events.submitted laws plan next accepted of some count steps g o n c there proc args out h
    happens (Deliver k) out (m, more, at, h) = received m.message.to refl h
      where
        received : (to : Node) → m.message.to ≡ to → IsReceived plan next (mark_delivered g k) m.file m.message.msg to out
            → IsGlued plan next count (steps ++ (record { event = Some (Deliver k); outcome = out }) ∷ []) (bare out.world)
        received (Server shard) to h = server_messages.delivered laws plan next accepted of some count counted steps g o shard.0 h.state h.there k m more at to out h.step h.handles h.is
        received (Coord n) to (c, there, is) = coord_events.delivered laws plan next accepted of some count steps g o n c there k m more at to out is
    happens (Tick (Server shard)) out (s, there, is) = server_events.ticked laws plan next accepted of some count counted steps g o shard.0 s there out is
    happens (Tick (Coord n)) out (c, there, is) = coord_events.ticked laws plan next accepted of some count steps g o n c there out is
    happens (Stop shard during) out x = server_stops.stopped laws plan next accepted of some count counted steps g o shard.0 x.state x.there during out x.before x.step x.stops x.is
    happens (Drain n) out (next_there, c, there, is) = coord_events.drained laws plan next accepted of some count steps g o n c there out is

    transition : (e : Option Event) (out : Outcome) → Transition plan next g e out → IsGlued plan next count (steps ++ (record { event = e; outcome = out }) ∷ []) (bare out.world)
    transition None out is = nothing_happens plan next count steps g out o (ap (λ (o : Outcome). bare o.world) is)
    transition (Some e) out h = happens e out h

  pub glued : (steps : List Stepped) (g : GrownWorld) → IsGrownRun plan next count steps g → IsGlued plan next count steps (bare g)
  glued _ _ (at_first c) = at_start plan next count
  glued _ _ (steps_on {steps = steps} {w = g} e out run h) = transition steps g (glued steps g run) e out h

-- ---- what it says

module _ (laws : Laws) (plan : Plan) (next : Option Next) (accepted : IsAccepted plan) (of : IsNextOf plan next) (count : ℕ) (steps : List Stepped) (g : GrownWorld) (o : IsGlued plan next count steps (bare g)) where
  shards : 0 < plan.program.shards
  shards = accepted.well_formed.some_shard

  told : AreTold g
  told =
      record { telling = o.told.telling; messages = o.told.messages; kept = o.told.kept; at = o.told.at; by_server = o.told.by_server; by_coord = o.told.by_coord }

  epochs_fresh : IsFresh (bare g) o.w → AreEpochs plan next count steps g
  epochs_fresh f =
      record {
        first_steps = o.first_steps;
        w = o.w;
        first = o.first;
        second_steps = none_of v steps;
        v = v;
        second = none_run (last_plan plan next) (left_behind plan (first_beginning plan) o.w) count [] v views.at_beginning First g.sent steps o.first_steps o.along refl;
        two = record {
          servers = o.servers;
          coords = o.coords;
          first_servers = λ n s at h.
              (let was = f.servers n s at in
              (was.there ∙ ap Some (sym (was.core ∙ ap (λ b. if b then renewed was.state else was.state) h)), was.keeps ∙ ap Some (sym (was.reads ∙ ap (λ b. if b then renewed_viewing was.viewing else was.viewing) h))));
          second_servers = λ n s at h.
              (let was = f.servers n s at in (
                begun_server n was.state was.there ∙ ap Some (sym (was.core ∙ ap (λ b. if b then renewed was.state else was.state) h)),
                begun_views n was.viewing was.keeps ∙ ap Some (sym (was.reads ∙ ap (λ b. if b then renewed_viewing was.viewing else was.viewing) h)),
              ));
          awaited_servers = λ n s at h.
              (let was = f.servers n s at in (
                begun_server n was.state was.there ∙ ap (λ (x : ServerState). Some (renewed x)) (sym (was.core ∙ ap (λ b. if b then renewed was.state else was.state) h)),
                begun_views n was.viewing was.keeps ∙ ap (λ (x : Viewing). Some (renewed_viewing x)) (sym (was.reads ∙ ap (λ b. if b then renewed_viewing was.viewing else was.viewing) h)),
              ));
          first_coords = λ n c at h. first_coord n c at;
          second_coords = λ n c at h. absurd (false≢true (sym (f.plain n c at) ∙ h));
          awaited_coords = λ n c at h. second_coord n c at;
          first_sent = o.sent;
          second_sent = sym f.second;
          history = f.history ∙ sym (append-nil o.w.history);
          order = f.order ∙ sym (append-nil o.w.order);
          looks = f.looks ∙ sym (append-nil o.w.looks);
        };
        along_first = o.along;
        along_second = none_are_along Second First g.sent v f.second steps o.first_steps o.along;
        told = told;
        begun = inl refl;
        drained = λ n s at h. drained n (s, at, h);
        upto = λ n c at h. absurd (false≢true (sym (f.plain n c at) ∙ h));
      }
    where
      v : World
      v = second_begun plan next count o.w

      begun_server : (n : ℕ) (x : ServerState) → slice_get o.w.servers n ≡ Some x → slice_get v.servers n ≡ Some (renewed x)
      begun_server n x at =
          ap (λ l. slice_get l n) (laws.begun_servers plan (last_plan plan next) (first_beginning plan) count o.first_steps o.w shards o.first (last_shards plan next of))
          ∙ (slice_get-map renewed o.w.servers n ∙ ap (option_map renewed) at)

      begun_views : (n : ℕ) (x : Viewing) → slice_get o.w.viewing n ≡ Some x → slice_get v.viewing n ≡ Some (renewed_viewing x)
      begun_views n x at =
          ap (λ l. slice_get l n) (laws.begun_viewing plan (last_plan plan next) (first_beginning plan) count o.first_steps o.w shards o.first (last_shards plan next of))
          ∙ (slice_get-map renewed_viewing o.w.viewing n ∙ ap (option_map renewed_viewing) at)

      first_coord : (n : ℕ) (c : GrownCoordState) → slice_get g.coords n ≡ Some c → slice_get o.w.coords n ≡ Some c.core
      first_coord n c at = ap (λ l. slice_get l n) f.coords ∙ (slice_get-map (λ (c : GrownCoordState). c.core) g.coords n ∙ ap (option_map (λ (c : GrownCoordState). c.core)) at)

      second_coord : (n : ℕ) (c : GrownCoordState) → slice_get g.coords n ≡ Some c → slice_get v.coords n ≡ Some (renewed_coord c.core)
      second_coord n c at =
          ap (λ l. slice_get l n) (laws.begun_coords plan (last_plan plan next) (first_beginning plan) count o.first_steps o.w shards o.first (last_shards plan next of))
          ∙ (slice_get-map renewed_coord o.w.coords n ∙ ap (option_map renewed_coord) (first_coord n c at))

      drained : (n : ℕ) → HasSwitched g.servers n → AreDrained o.w.coords
      drained n has k d at = go (from_map (λ (c : GrownCoordState). c.core) g.coords k d (ap (λ l. slice_get l k) (sym f.coords) ∙ at))
        where
          go : (z : GrownCoordState) × (slice_get g.coords k ≡ Some z) × (d ≡ z.core) → d.unanswered ≡ []
          go (z, there, same) =
              let u = o.told.by_server n has k z there in
              ap (λ (d : CoordState). d.unanswered) same ∙ ((o.told.telling k z there).rests u.0 u.1 (f.plain k z there)).1

  epochs_later : (second_steps : List views.Stepped) (v : World) → views.IsRunFrom (last_plan plan next) (left_behind plan (first_beginning plan) o.w) count second_steps v → IsLater (bare g) o.w v
      → AreAlong Second g.sent steps second_steps → AreEpochs plan next count steps g
  epochs_later second_steps v run l along =
      record {
        first_steps = o.first_steps;
        w = o.w;
        first = o.first;
        second_steps = second_steps;
        v = v;
        second = run;
        two = record {
          servers = o.servers;
          coords = o.coords;
          first_servers = λ n s at h. absurd (false≢true (sym h ∙ (l.servers n s at).0));
          second_servers = λ n s at h. ((l.servers n s at).1, (l.servers n s at).2);
          awaited_servers = λ n s at h. absurd (false≢true (sym h ∙ (l.servers n s at).0));
          first_coords = λ n c at h. (let was = l.coords n c at in was.there ∙ ap Some (sym (was.first h).0));
          second_coords = λ n c at h. ((l.coords n c at).second h).0;
          awaited_coords = λ n c at h. (let was = l.coords n c at in (was.first h).1 ∙ ap (λ (x : CoordState). Some (renewed_coord x)) (sym (was.first h).0));
          first_sent = o.sent;
          second_sent = l.sent;
          history = l.history;
          order = l.order;
          looks = l.looks;
        };
        along_first = o.along;
        along_second = along;
        told = told;
        begun = inr (λ n s at. (l.servers n s at).0);
        drained = λ n s at h. l.drained;
        upto = λ n c at h. (let was = l.coords n c at in (was.state, was.there, (was.second h).1));
      }

  pub epochs : AreEpochs plan next count steps g
  epochs = go o.phase
    where
      go : Phase plan next count steps (bare g) o.w → AreEpochs plan next count steps g
      go (fresh f) = epochs_fresh f
      go (later second_steps v run l along) = epochs_later second_steps v run l along

pub counted_run : (plan : Plan) (next : Option Next) (count : ℕ) (steps : List Stepped) (g : GrownWorld) → IsGrownRun plan next count steps g → AreCoordsOf next count
counted_run plan next count _ _ (at_first c) = c
counted_run plan next count _ _ (steps_on {steps = steps} {w = w} e o run h) = counted_run plan next count steps w run
