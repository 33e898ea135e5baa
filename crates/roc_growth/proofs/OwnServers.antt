-- A server's step in the world of its own file
use Rattle.std.proofs.Common.{◌≡◌, ◌≢◌, ◌∙◌, ◌⊎◌, inl, inr, ◌<◌, ℕ, suc, ◌-◌, Bool, true, List, [], ◌++◌, Option, Some, None, map, length, refl, sym, ap, subst, append-nil, append_assoc, arith}
use Rattle.std.proofs.lemmas.List.{map-append}
use Rattle.std.proofs.lemmas.Option.{slice_get_within}
use Rattle.std.specs.Prelude.{slice_get, slice_set}
use Rattle.roc_sequence.specs.Lists.{Has}
use Rattle.roc_sequence.proofs.Members.{has_append, has_left, has_right}
use Rattle.roc_base.specs.declared.id.TxnId.{TxnId}
use Rattle.roc_base.specs.declared.node.Node.{Node}
use Rattle.roc_base.specs.declared.node.Node.TheVariants.{Server}
use Rattle.roc_base.specs.declared.node.Shard.{Shard}
use Rattle.roc_msg.specs.declared.outbox.Outgoing.{Outgoing}
use Rattle.roc_plan.specs.Groups.{Plan}
use Rattle.roc_step.specs.Reads.{AnswersReads, ReadStep}
use Rattle.roc_step.specs.State.{answered, ServerState, ServerStep}
use Rattle.roc_step.specs.Step.{Handles, tick_sends}
use Rattle.roc_audit.specs.Order.{noted}
use Rattle.roc_law_protocol.specs.World.{sent_by}
use Rattle.roc_law_protocol.specs.declared.event.Event.{Event as TheirEvent}
use Rattle.roc_law_protocol.specs.declared.event.Event.TheVariants as one
use Rattle.roc_law_protocol.specs.declared.event.Seen.TheVariants as seen_there
use Rattle.roc_law_protocol.specs.declared.event.Kept.{Kept}
use Rattle.roc_law_world.specs.World as views
use Rattle.roc_law_world.specs.World.{World}
use Rattle.roc_law_world.specs.Happens as happen
use Rattle.roc_law_world.specs.Run.{Transition}
use Rattle.roc_epoch.specs.declared.file.File.{File}
use Rattle.roc_epoch.specs.declared.file.File.TheVariants.{Neither}
use Rattle.roc_epoch.specs.declared.next.Next.{Next}
use Rattle.roc_epoch.specs.Files.{is_file, own_file, own_plan}
use Rattle.roc_two_files.specs.Sealed.{Sealed, is_of, of_file, sealed_by, place_in_file}
use Rattle.roc_epoch.proofs.Files.{same_file}
use Rattle.roc_two_files.proofs.Networks.{AreNoneBetween, AreBetween, own_sent, other_sent, of_append}
use Rattle.roc_grown.specs.Server.{GrownServerState, GrownStep, of_core, taken_at}
use Rattle.roc_grown.specs.Coord.{GrownCoordState}
use Rattle.roc_growth.specs.declared.event.Event.{Event}
use Rattle.roc_growth.specs.declared.event.Event.TheVariants.{Deliver, Tick, Stop}
use Rattle.roc_growth.specs.World.{GrownWorld, mark_delivered}
use Rattle.roc_growth.specs.Happens.{Outcome, served, started_again}
use Rattle.roc_growth.specs.Epochs.{IsAlong}
use Rattle.roc_growth.specs.Told.{HasTold, IsToldRight}
use Rattle.roc_growth.proofs.PlainRuns.{seen_at_server}
use Rattle.roc_growth.proofs.Telling.{changed_server, plain_right}
use Rattle.roc_growth.proofs.Placed.{placed, aside_step}
use Rattle.roc_law_protocol.proofs.Stops.{set_there}

-- which messages were never delivered is left out: no more is said of it than what comes
abbrev pub bare : GrownWorld → GrownWorld
bare g = record g { undelivered = [] }

-- what a node sends is of its own file, but for what is told between files; and this is right
pub record AreSent (servers : List GrownServerState) (coords : List GrownCoordState) (switched : Bool) (from : Node) (all outs : List Outgoing) : Type 0 where
  pub own : of_file (own_file switched) (map (sealed_by switched from) all) ≡ map (sent_by from) outs
  pub other : (h : File) → h ≢ own_file switched → h ≢ Neither → of_file h (map (sealed_by switched from) all) ≡ []
  pub right : (out : Outgoing) → Has out all → IsToldRight servers coords out.msg out.to

module _ (servers : List GrownServerState) (coords : List GrownCoordState) (switched : Bool) (from : Node) where
  -- of the step's own, with what is told behind it
  pub are_sent : (outs more : List Outgoing) → AreNoneBetween outs → AreBetween more → ((out : Outgoing) → Has out more → IsToldRight servers coords out.msg out.to) → AreSent servers coords switched from (outs ++ more) outs
  are_sent outs more none all right =
      record {
        own = own_sent switched from outs more none all;
        other = λ h n k. other_sent switched from h n k outs more none all;
        right = λ out h. elim (has_append out outs more h) [ inl i ↦ plain_right servers coords out.msg out.to (none out i) | inr i ↦ right out i ];
      }

  -- and of one step behind another
  pub sent_both : (xs ys outs more : List Outgoing) → AreSent servers coords switched from xs outs → AreSent servers coords switched from ys more → AreSent servers coords switched from (xs ++ ys) (outs ++ more)
  sent_both xs ys outs more a b =
      record {
        own = parts (own_file switched) ∙ ((λ i. a.own i ++ b.own i) ∙ sym (map-append (sent_by from) outs more));
        other = λ h n k. parts h ∙ (λ i. a.other h n k i ++ b.other h n k i);
        right = λ out h. elim (has_append out xs ys h) [ inl i ↦ a.right out i | inr i ↦ b.right out i ];
      }
    where
      parts : (h : File) → of_file h (map (sealed_by switched from) (xs ++ ys)) ≡ of_file h (map (sealed_by switched from) xs) ++ of_file h (map (sealed_by switched from) ys)
      parts h = ap (of_file h) (map-append (sealed_by switched from) xs ys) ∙ of_append h (map (sealed_by switched from) xs) (map (sealed_by switched from) ys)

  pub none_sent : AreSent servers coords switched from [] []
  none_sent = record { own = refl; other = λ h n k. refl; right = λ out h. absurd h }

-- ---- a step of the server of a shard, in the world of its own file

abbrev pub server_node : ℕ → Node
server_node n = Server (record { 0 = n })

module _ (p : Plan) (f : File) (u : World) (g : GrownWorld) (n : ℕ) (s : GrownServerState) where
  pub record IsOwnServer (e : Event) (o : Outcome) (x : GrownServerState) : Type 0 where
    pub event : Option TheirEvent
    pub after : happen.Outcome
    pub happens : Transition p u event after
    pub all : List Outgoing
    pub outs : List Outgoing
    pub sends : AreSent (slice_set g.servers n x) g.coords s.switched (server_node n) all outs
    pub decided : List TxnId
    pub world : bare o.world ≡ changed_server (bare g) n x (map (sealed_by s.switched (server_node n)) all) (noted g.order decided)
    pub still : x.switched ≡ s.switched
    pub drained : (i : ℕ) (u : TxnId) → slice_get x.drained i ≡ Some (Some u) → (slice_get s.drained i ≡ Some (Some u)) ⊎ ((u.coord ≡ i) × HasTold g.coords u)
    pub many : length x.drained ≡ length s.drained
    pub servers : after.world.servers ≡ slice_set u.servers n x.core
    pub viewing : after.world.viewing ≡ slice_set u.viewing n x.viewing
    pub coords : after.world.coords ≡ u.coords
    pub history : after.world.history ≡ u.history
    pub looks : after.world.looks ≡ u.looks
    pub sent : after.world.sent ≡ u.sent ++ map (sent_by (server_node n)) outs
    pub order : after.world.order ≡ noted u.order decided
    pub along : IsAlong f g.sent (record { event = Some e; outcome = o }) (record { event = event; outcome = after })

module _ (plan : Plan) (next : Option Next) (p : Plan) (f : File) (u : World)
    (no_between : (e : Option TheirEvent) (o : happen.Outcome) → Transition p u e o → (from : Node) (outs : List Outgoing) → o.world.sent ≡ u.sent ++ map (sent_by from) outs → AreNoneBetween outs)
    (g : GrownWorld) (sent : u.sent ≡ of_file f g.sent) (n : ℕ) (s : GrownServerState) (there : slice_get g.servers n ≡ Some s)
    (here : slice_get u.servers n ≡ Some s.core) (keeps : slice_get u.viewing n ≡ Some s.viewing) (plan_is : own_plan plan next s.switched ≡ p) (file_is : own_file s.switched ≡ f) where
  abbrev me : Node
  me = server_node n

  abbrev Own : Event → Outcome → GrownServerState → Type 0
  Own e o x = IsOwnServer p f u g n s e o x

  of_own : (m : Sealed) → m.file ≡ own_file s.switched → is_of f m ≡ true
  of_own m same = ap (λ h. is_file f h) (same ∙ file_is) ∙ same_file f

  no_more : (outs : List Outgoing) → AreNoneBetween outs → (x : GrownServerState) → AreSent (slice_set g.servers n x) g.coords s.switched me outs outs
  no_more outs none x =
      subst (λ l. AreSent (slice_set g.servers n x) g.coords s.switched me l outs) (append-nil outs) (are_sent (slice_set g.servers n x) g.coords s.switched me outs [] none (λ out h. absurd h) (λ out h. absurd h))

  -- ---- a message of its own file comes

  module _ (k : ℕ) (m : Sealed) (some : 0 < k) (at : slice_get g.sent (k - 1) ≡ Some m) (to : m.message.to ≡ me) where
    abbrev place : ℕ
    place = suc (place_in_file f g.sent (k - 1))

    place_at : is_of f m ≡ true → slice_get u.sent (place - 1) ≡ Some m.message
    place_at is = ap (slice_get u.sent) (one_less (place_in_file f g.sent (k - 1))) ∙ placed f g.sent u sent (k - 1) m at is
      where
        one_less : (i : ℕ) → suc i - 1 ≡ i
        one_less i = omega arith

    -- the same message, by its number
    same_number : (j : ℕ) → Some (Deliver k) ≡ Some (Deliver (suc j)) → j ≡ k - 1
    same_number j e = let i : k ≡ suc j = cc in omega (arith, i)

    pub own_came : (r : ServerStep) (q : ReadStep) → m.file ≡ own_file s.switched → Handles (own_plan plan next s.switched) s.core m.message.msg r → AnswersReads (own_plan plan next s.switched) s.viewing m.message.msg r q
        → Own (Deliver k) (served (mark_delivered g k) n (of_core s r q)) (record s { core = r.state; viewing = q.viewing })
    own_came r q same handles answers =
        record {
          event = Some (one.Deliver place);
          after = after;
          happens = happens;
          all = r.sends ++ q.sends;
          outs = r.sends ++ q.sends;
          sends = no_more (r.sends ++ q.sends) none x;
          decided = r.decided;
          world = refl;
          still = refl;
          drained = λ i u h. inl h;
          many = refl;
          servers = refl;
          viewing = refl;
          coords = refl;
          history = refl;
          looks = refl;
          sent = refl;
          order = refl;
          along = record {
            sent_before = λ j e. (let i = same_number j e in let l = slice_get_within g.sent (k - 1) m at in omega (arith, i, l));
            comes = λ j z e at2 is taken. (ap (λ i. Some (one.Deliver (suc (place_in_file f g.sent i)))) (sym (same_number j e)), seen_at_server r.answer);
            stops = λ shard during e. absurd (cc);
          };
        }
      where
        is : is_of f m ≡ true
        is = of_own m same

        x : GrownServerState
        x = record s { core = r.state; viewing = q.viewing }

        before : World
        before = views.mark_delivered u place

        after : happen.Outcome
        after = happen.served before n r q

        happens : Transition p u (Some (one.Deliver place)) after
        happens = (
          m.message,
          (omega arith),
          place_at is,
          subst (λ to. happen.IsReceived p before m.message.msg to after) (sym to)
              (record {
                state = s.core;
                there = here;
                viewing = s.viewing;
                keeps = keeps;
                step = r;
                handles = subst (λ p. Handles p s.core m.message.msg r) plan_is handles;
                reads = q;
                answers = subst (λ p. AnswersReads p s.viewing m.message.msg r q) plan_is answers;
                is = refl;
              }),
        )

        none : AreNoneBetween (r.sends ++ q.sends)
        none = no_between (Some (one.Deliver place)) after happens me (r.sends ++ q.sends) refl

  -- ---- a tick

  pub own_ticked : Own (Tick me) (served g n (taken_at s (tick_sends s.core))) s
  own_ticked =
      record {
        event = Some (one.Tick me);
        after = after;
        happens = (s.core, s.viewing, here, keeps, refl);
        all = tick_sends s.core;
        outs = tick_sends s.core;
        sends = no_more (tick_sends s.core) none s;
        decided = [];
        world = refl;
        still = refl;
        drained = λ i u h. inl h;
        many = refl;
        servers = refl;
        viewing = refl;
        coords = refl;
        history = refl;
        looks = refl;
        sent = same;
        order = refl;
        along = record { sent_before = λ j e. absurd (cc); comes = λ j z e at2 is taken. absurd (cc); stops = λ shard during e. absurd (cc) };
      }
    where
      after : happen.Outcome
      after = happen.served u n (answered s.core (tick_sends s.core)) (record { viewing = s.viewing; sends = [] })

      same : after.world.sent ≡ u.sent ++ map (sent_by me) (tick_sends s.core)
      same = ap (λ l. u.sent ++ map (sent_by me) l) (append-nil (tick_sends s.core))

      none : AreNoneBetween (tick_sends s.core)
      none = no_between (Some (one.Tick me)) after (s.core, s.viewing, here, keeps, refl) me (tick_sends s.core) same

  -- ---- what does nothing there

  pub own_aside : (e : Event) (o : Outcome) (x : GrownServerState) (all : List Outgoing) → AreSent (slice_set g.servers n x) g.coords s.switched me all []
      → bare o.world ≡ changed_server (bare g) n x (map (sealed_by s.switched me) all) g.order → x.core ≡ s.core → x.viewing ≡ s.viewing → x.switched ≡ s.switched → length x.drained ≡ length s.drained
      → ((i : ℕ) (u : TxnId) → slice_get x.drained i ≡ Some (Some u) → (slice_get s.drained i ≡ Some (Some u)) ⊎ ((u.coord ≡ i) × HasTold g.coords u))
      → IsAlong f g.sent (record { event = Some e; outcome = o }) (aside_step u) → Own e o x
  own_aside e o x all sends world same same_view still many drained along =
      record {
        event = None;
        after = happen.undecided seen_there.Done u;
        happens = refl;
        all = all;
        outs = [];
        sends = sends;
        decided = [];
        world = world;
        still = still;
        drained = drained;
        many = many;
        servers = sym (set_there u.servers n x.core (here ∙ ap Some (sym same)));
        viewing = sym (set_there u.viewing n x.viewing (keeps ∙ ap Some (sym same_view)));
        coords = refl;
        history = refl;
        looks = refl;
        sent = sym (append-nil u.sent);
        order = refl;
        along = along;
      }

  -- ---- a stop

  -- what came of a message of its own file where the server stopped, and a tick
  module _ (own : Option (ℕ × Kept)) (numbers gone : List ℕ) (r : ServerStep) (q : ReadStep) (stops : happen.StopsIn p u n s.core s.viewing own (record u { undelivered = numbers }) r q)
      (step : GrownStep) (same : step.state.core ≡ r.state) (same_view : step.state.viewing ≡ q.viewing) (still : step.state.switched ≡ s.switched) (decided : step.decided ≡ r.decided)
      (sends : AreNoneBetween (r.sends ++ q.sends) → AreSent (slice_set g.servers n step.state) g.coords s.switched me step.sends (r.sends ++ q.sends)) (many : length step.state.drained ≡ length s.drained)
      (drained : (i : ℕ) (u : TxnId) → slice_get step.state.drained i ≡ Some (Some u) → (slice_get s.drained i ≡ Some (Some u)) ⊎ ((u.coord ≡ i) × HasTold g.coords u))
      (during : Option (ℕ × Kept)) where
    pub own_stopped : Own (Stop (record { 0 = n }) during) (started_again (record g { undelivered = gone }) n step) step.state
    own_stopped =
        record {
          event = Some (one.Stop (record { 0 = n }) own);
          after = after;
          happens = happens;
          all = step.sends ++ tick_sends step.state.core;
          outs = (r.sends ++ q.sends) ++ tick_sends r.state;
          sends = sent_both (slice_set g.servers n step.state) g.coords s.switched me step.sends (tick_sends step.state.core) (r.sends ++ q.sends) (tick_sends r.state) (sends stepped)
              (subst (λ (c : ServerState). AreSent (slice_set g.servers n step.state) g.coords s.switched me (tick_sends c) (tick_sends r.state)) (sym same) (no_more (tick_sends r.state) ticked step.state));
          decided = step.decided;
          world = world;
          still = still;
          drained = drained;
          many = many;
          servers = ap (slice_set u.servers n) (sym same);
          viewing = ap (slice_set u.viewing n) (sym same_view);
          coords = refl;
          history = refl;
          looks = refl;
          sent = sent_there;
          order = ap (noted u.order) (sym decided);
          along = record { sent_before = λ j e. absurd (cc); comes = λ j z e at2 is taken. absurd (cc); stops = λ shard other e. (during, shards shard other e) };
        }
      where
        before : World
        before = record u { undelivered = numbers }

        after : happen.Outcome
        after = happen.restarted before n r q

        happens : Transition p u (Some (one.Stop (record { 0 = n }) own)) after
        happens = record { state = s.core; there = here; viewing = s.viewing; keeps = keeps; before = before; step = r; reads = q; stops = stops; is = refl }

        sent_there : after.world.sent ≡ u.sent ++ map (sent_by me) ((r.sends ++ q.sends) ++ tick_sends r.state)
        sent_there = append_assoc u.sent (map (sent_by me) (r.sends ++ q.sends)) (map (sent_by me) (tick_sends r.state)) ∙ ap (λ l. u.sent ++ l) (sym (map-append (sent_by me) (r.sends ++ q.sends) (tick_sends r.state)))

        none : AreNoneBetween ((r.sends ++ q.sends) ++ tick_sends r.state)
        none = no_between (Some (one.Stop (record { 0 = n }) own)) after happens me ((r.sends ++ q.sends) ++ tick_sends r.state) sent_there

        stepped : AreNoneBetween (r.sends ++ q.sends)
        stepped out h = none out (has_left out (r.sends ++ q.sends) (tick_sends r.state) h)

        ticked : AreNoneBetween (tick_sends r.state)
        ticked out h = none out (has_right out (r.sends ++ q.sends) (tick_sends r.state) h)

        shards : (shard : Shard) (other : Option (ℕ × Kept)) → ◌≡◌ {A = Option TheirEvent} (Some (one.Stop (record { 0 = n }) own)) (Some (one.Stop shard other)) → ◌≡◌ {A = Option Event} (Some (Stop (record { 0 = n }) during)) (Some (Stop shard during))
        shards shard other e = let same : record { 0 = n } ≡ shard = cc in ap (λ shard. Some (Stop shard during)) same

        world : bare (started_again (record g { undelivered = gone }) n step).world
            ≡ changed_server (bare g) n step.state (map (sealed_by s.switched me) (step.sends ++ tick_sends step.state.core)) (noted g.order step.decided)
        world =
            let sealed : (g.sent ++ map (sealed_by step.state.switched me) step.sends) ++ map (sealed_by step.state.switched me) (tick_sends step.state.core)
            ≡ g.sent ++ map (sealed_by s.switched me) (step.sends ++ tick_sends step.state.core) =
            append_assoc g.sent (map (sealed_by step.state.switched me) step.sends) (map (sealed_by step.state.switched me) (tick_sends step.state.core))
            ∙ (ap (λ l. g.sent ++ l) (sym (map-append (sealed_by step.state.switched me) step.sends (tick_sends step.state.core)))
            ∙ ap (λ b. g.sent ++ map (sealed_by b me) (step.sends ++ tick_sends step.state.core)) still) in
            λ i. changed_with (sealed i)
          where
            changed_with : List Sealed → GrownWorld
            changed_with l = record { servers = slice_set g.servers n step.state; coords = g.coords; sent = l; undelivered = []; history = g.history; order = noted g.order step.decided; looks = g.looks }
