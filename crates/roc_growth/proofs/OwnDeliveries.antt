-- What comes to a coordinator, a tick and a drain of it, in the world of its own file
use Rattle.std.proofs.Common.{◌≡◌, ◌∙◌, inl, inr, ◌<◌, ℕ, suc, ◌-◌, ◌||◌, Bool, true, false, List, [], ◌∷◌, ◌++◌, Option, Some, None, map, length, refl, sym, ap, subst, append-nil, arith}
use Rattle.std.proofs.lemmas.Bool.{false≢true, or_parts}
use Rattle.std.proofs.lemmas.Option.{slice_get_within}
use Rattle.std.specs.Prelude.{slice_get, slice_set, if◌then◌else◌}
use Rattle.std.specs.List.{filter_map}
use Rattle.roc_sequence.specs.Lists.{Has}
use Rattle.roc_sequence.proofs.Members.{has_append, has_one}
use Rattle.roc_base.specs.declared.id.TxnId.{TxnId}
use Rattle.roc_base.specs.declared.node.Node.{Node}
use Rattle.roc_base.specs.declared.node.Shard.{Shard}
use Rattle.roc_msg.specs.declared.outbox.Outgoing.{Outgoing}
use Rattle.roc_plan.specs.Groups.{Plan}
use Rattle.roc_coord.specs.State.{CoordStep}
use Rattle.roc_coord.specs.Step.{after_message}
use Rattle.roc_coord.specs.Submit.{next_id}
use Rattle.roc_coord.specs.Tick as tick
use Rattle.roc_law_protocol.specs.World.{sent_by}
use Rattle.roc_law_protocol.specs.Happens.{answer_entries as their_entries}
use Rattle.roc_law_protocol.specs.declared.event.Event.{Event as TheirEvent}
use Rattle.roc_law_protocol.specs.declared.event.Event.TheVariants as one
use Rattle.roc_law_protocol.specs.declared.event.Seen.TheVariants as seen_there
use Rattle.roc_law_protocol.proofs.Changed.{get-set_here}
use Rattle.roc_law_world.specs.World as views
use Rattle.roc_law_world.specs.World.{World, reads_for, first_look}
use Rattle.roc_law_world.specs.Happens as happen
use Rattle.roc_law_world.specs.Run.{Transition}
use Rattle.roc_epoch.specs.declared.file.File.{File}
use Rattle.roc_epoch.specs.declared.next.Next.{Next}
use Rattle.roc_epoch.specs.Files.{is_file, own_file, own_plan}
use Rattle.roc_epoch.proofs.Files.{same_file}
use Rattle.roc_two_files.specs.Sealed.{Sealed, is_of, of_file, sealed_by, place_in_file}
use Rattle.roc_two_files.proofs.Networks.{AreNoneBetween, AreBetween}
use Rattle.roc_grown.specs.declared.handled.GrownAnswer.{GrownAnswer}
use Rattle.roc_grown.specs.declared.handled.GrownAnswer.TheVariants.{Done}
use Rattle.roc_grown.specs.Coord as grown
use Rattle.roc_grown.specs.Coord.{GrownCoordState, DrainStep, drained_sends, telling, tell_if_drained, told_behind, after_drain, unchanged, of_core, drained_again, told_again, grown_tick_sends}
use Rattle.roc_growth.specs.declared.event.Event.{Event}
use Rattle.roc_growth.specs.declared.event.Event.TheVariants.{Deliver, Tick, Drain}
use Rattle.roc_growth.specs.declared.event.Seen.TheVariants as seen
use Rattle.roc_growth.specs.World.{GrownWorld, mark_delivered, at_coord, at_coord_tick}
use Rattle.roc_growth.specs.Happens.{Outcome, undecided, coord_seen, coordinated, answer_entries}
use Rattle.roc_growth.specs.Epochs.{IsAlong}
use Rattle.roc_growth.specs.Told.{HasTold, HasSwitched, IsToldRight, IsTelling, AreTold}
use Rattle.roc_growth.proofs.PlainRuns.{seen_at_coord, told_at_coord}
use Rattle.roc_growth.proofs.Telling.{changed_coord}
use Rattle.roc_growth.proofs.Placed.{placed, aside_step, aside_along}
use Rattle.roc_growth.proofs.OwnServers.{bare, are_sent, none_sent}
use Rattle.roc_growth.proofs.OwnCoords.{coord_node, Behind, quiet, tells, behind_drain, behind_answer, drained_between, drained_right, no_reads_for, IsOwnCoord, own_aside, own_nothing, r_rests, d_still, d_at, d_core, d_telling, d_tells, d_sends, d_right}
use Rattle.roc_law_protocol.proofs.Stops.{set_there}

module _ (plan : Plan) (next : Option Next) (p : Plan) (f : File) (u : World)
    (no_between : (e : Option TheirEvent) (o : happen.Outcome) → Transition p u e o → (from : Node) (outs : List Outgoing) → o.world.sent ≡ u.sent ++ map (sent_by from) outs → AreNoneBetween outs)
    (g : GrownWorld) (sent : u.sent ≡ of_file f g.sent) (shards : length g.servers ≡ plan.program.shards) (o : AreTold (bare g)) (n : ℕ) (c : GrownCoordState) (there : slice_get g.coords n ≡ Some c)
    (here : slice_get u.coords n ≡ Some c.core) (number : c.core.number ≡ n) (rest : c.core.unanswered ≡ [] → (c.core.pending ≡ []) × (c.core.views ≡ []))
    (plan_is : own_plan plan next c.switched ≡ p) (file_is : own_file c.switched ≡ f) where
  abbrev me : Node
  me = coord_node n

  abbrev Own : Event → Outcome → GrownCoordState → Type 0
  Own e out x = IsOwnCoord p f u g n c e out x

  c_telling : IsTelling n c
  c_telling = o.telling n c there

  -- ---- a message comes

  module _ (k : ℕ) (m : Sealed) (some : 0 < k) (at : slice_get g.sent (k - 1) ≡ Some m) (to : m.message.to ≡ me) where
    abbrev place : ℕ
    place = suc (place_in_file f g.sent (k - 1))

    place_at : is_of f m ≡ true → slice_get u.sent (place - 1) ≡ Some m.message
    place_at is = ap (slice_get u.sent) (one_less (place_in_file f g.sent (k - 1))) ∙ placed f g.sent u sent (k - 1) m at is
      where
        one_less : (i : ℕ) → suc i - 1 ≡ i
        one_less i = omega arith

    same_number : (j : ℕ) → Some (Deliver k) ≡ Some (Deliver (suc j)) → j ≡ k - 1
    same_number j e = let i : k ≡ suc j = cc in omega (arith, i)

    before_all : (j : ℕ) → Some (Deliver k) ≡ Some (Deliver (suc j)) → j < length g.sent
    before_all j e = let i = same_number j e in let l = slice_get_within g.sent (k - 1) m at in omega (arith, i, l)

    -- of its own file
    pub own_came : m.file ≡ own_file c.switched
        → let r = after_message (own_plan plan next c.switched) c.core m.message.msg in
        (x : GrownCoordState) × Own (Deliver k) (coordinated (mark_delivered g k) n (of_core plan c r)) x
    own_came same =
        subst (λ (q : Plan). (x : GrownCoordState) × Own (Deliver k) (coordinated (mark_delivered g k) n (of_core plan c (after_message q c.core m.message.msg))) x) (sym plan_is) (d.state, own)
      where
        r : CoordStep
        r = after_message p c.core m.message.msg

        c2 : GrownCoordState
        c2 = record c { core = r.state }

        d : DrainStep
        d = told_behind plan c2 r.answer

        behind : Behind plan c2 d
        behind = behind_answer plan c2 r.answer

        is : is_of f m ≡ true
        is = ap (λ h. is_file f h) (same ∙ file_is) ∙ same_file f

        before : World
        before = views.mark_delivered u place

        after : happen.Outcome
        after = happen.coordinated before n r

        happens : Transition p u (Some (one.Deliver place)) after
        happens = (m.message, (omega arith), place_at is, subst (λ to. happen.IsReceived p before m.message.msg to after) (sym to) (c.core, here, refl))

        none : AreNoneBetween r.sends
        none = no_between (Some (one.Deliver place)) after happens me r.sends refl

        ids : List TxnId
        ids = filter_map (λ (out : Outgoing). reads_for out.msg) r.sends

        still : d.state.switched ≡ c.switched
        still = d_still plan next p f u no_between g sent shards o n c there here number rest plan_is file_is r (m.message.msg, refl) d behind

        between : AreBetween d.sends
        between = d_sends plan next p f u no_between g sent shards o n c there here number rest plan_is file_is r (m.message.msg, refl) d behind

        own : Own (Deliver k) (coordinated (mark_delivered g k) n (of_core plan c r)) d.state
        own =
            record {
              event = Some (one.Deliver place);
              after = after;
              happens = happens;
              all = r.sends ++ d.sends;
              outs = r.sends;
              sends = are_sent g.servers (slice_set g.coords n d.state) c.switched me r.sends d.sends none between
                  (d_right plan next p f u no_between g sent shards o n c there here number rest plan_is file_is r (m.message.msg, refl) d behind);
              told = their_entries r.answer;
              ids = ids;
              world = world;
              still = still;
              telling = d_telling plan next p f u no_between g sent shards o n c there here number rest plan_is file_is r (m.message.msg, refl) d behind;
              tells_still = d_tells plan next p f u no_between g sent shards o n c there here number rest plan_is file_is r (m.message.msg, refl) d behind;
              heard = λ shard h. o.at n c shard there (subst (Has shard) (d_at plan next p f u no_between g sent shards o n c there here number rest plan_is file_is r (m.message.msg, refl) d behind) h);
              at_still = λ e. d_at plan next p f u no_between g sent shards o n c there here number rest plan_is file_is r (m.message.msg, refl) d behind;
              rests = λ w e switched.
                  (let q = (r_rests plan next p f u no_between g sent shards o n c there here number rest plan_is file_is r (m.message.msg, refl) d behind w e switched).1 in (
                    core ∙ ap (λ (r : CoordStep). r.state) q,
                    ap (λ (r : CoordStep). their_entries r.answer) q,
                    ap (λ (r : CoordStep). filter_map (λ (out : Outgoing). reads_for out.msg) r.sends) q,
                  ));
              servers = refl;
              viewing = refl;
              order = refl;
              coords = ap (slice_set u.coords n) (sym core);
              history = refl;
              looks = refl;
              sent = refl;
              along = record {
                sent_before = before_all;
                comes = λ j z e at2 is taken. (ap (λ i. Some (one.Deliver (suc (place_in_file f g.sent i)))) (sym (same_number j e)), seen_at_coord r.answer);
                stops = λ shard during e. absurd (cc);
              };
            }
          where
            core : d.state.core ≡ r.state
            core = d_core plan next p f u no_between g sent shards o n c there here number rest plan_is file_is r (m.message.msg, refl) d behind

            world : bare (coordinated (mark_delivered g k) n (of_core plan c r)).world
                ≡ changed_coord (bare g) n d.state (map (sealed_by c.switched me) (r.sends ++ d.sends)) (their_entries r.answer) (first_look (length g.order) ids)
            world =
                let messages : g.sent ++ map (sealed_by d.state.switched me) (r.sends ++ d.sends) ≡ g.sent ++ map (sealed_by c.switched me) (r.sends ++ d.sends) =
                ap (λ b. g.sent ++ map (sealed_by b me) (r.sends ++ d.sends)) still in
                let history : g.history ++ answer_entries (grown.handled_so r.answer) ≡ g.history ++ their_entries r.answer = ap (λ l. g.history ++ l) (told_at_coord r.answer) in
                let looks : g.looks ++ first_look (length g.order) (filter_map (λ (out : Outgoing). reads_for out.msg) (r.sends ++ d.sends)) ≡ g.looks ++ first_look (length g.order) ids =
                ap (λ l. g.looks ++ first_look (length g.order) l) (no_reads_for r.sends d.sends between) in
                λ i. record { servers = g.servers; coords = slice_set g.coords n d.state; sent = messages i; undelivered = []; history = history i; order = g.order; looks = looks i }

    -- one that changes nothing
    pub own_unchanged : (a : GrownAnswer) → answer_entries a ≡ [] → (is_of f m ≡ true → coord_seen a ≡ seen.Skipped) → Own (Deliver k) (coordinated (mark_delivered g k) n (unchanged c a)) c
    own_unchanged a none skipped =
        own_nothing plan next p f u no_between g sent shards o n c there here number rest plan_is file_is (Deliver k) (coordinated (mark_delivered g k) n (unchanged c a)) world
        (aside_along f g.sent (record { event = Some (Deliver k); outcome = coordinated (mark_delivered g k) n (unchanged c a) }) u before_all
        (λ j z e at2 is. skipped (subst (λ (z : Sealed). is_of f z ≡ true) (one_message j z e at2) is)))
      where
        one_message : (j : ℕ) (z : Sealed) → Some (Deliver k) ≡ Some (Deliver (suc j)) → slice_get g.sent j ≡ Some z → z ≡ m
        one_message j z e at2 = let same : Some z ≡ Some m = sym at2 ∙ (ap (slice_get g.sent) (same_number j e) ∙ at) in cc

        world : bare (coordinated (mark_delivered g k) n (unchanged c a)).world ≡ bare g
        world =
            let coords : slice_set g.coords n c ≡ g.coords = set_there g.coords n c there in
            let messages : g.sent ++ [] ≡ g.sent = append-nil g.sent in
            let history : g.history ++ answer_entries a ≡ g.history = ap (λ l. g.history ++ l) none ∙ append-nil g.history in
            let looks : g.looks ++ [] ≡ g.looks = append-nil g.looks in
            λ i. record { servers = g.servers; coords = coords i; sent = messages i; undelivered = []; history = history i; order = g.order; looks = looks i }

    -- a switched that is not the last
    pub own_heard : (shard : Shard) → HasSwitched g.servers shard.0 → c.switched ≡ false → (is_of f m ≡ false)
        → Own (Deliver k) (coordinated (mark_delivered g k) n (record { answer = Done; state = record c { at = c.at ++ shard ∷ [] }; sends = [] })) (record c { at = c.at ++ shard ∷ [] })
    own_heard shard has unswitched other =
        own_aside plan next p f u no_between g sent shards o n c there here number rest plan_is file_is (Deliver k) out x []
        (none_sent g.servers (slice_set g.coords n x) c.switched me)
        refl refl refl (record { plain = c_telling.plain; own = c_telling.own; rests = c_telling.rests }) (λ w e. e)
        (λ s h. elim (has_append s c.at (shard ∷ []) h) [ inl i ↦ o.at n c s there i | inr i ↦ subst (λ (s : Shard). HasSwitched g.servers s.0) (sym (has_one s shard i)) has ])
        (λ e. absurd (false≢true (sym unswitched ∙ e)))
        (aside_along f g.sent (record { event = Some (Deliver k); outcome = out }) u before_all (λ j z e at2 is. absurd (never j z e at2 is)))
      where
        x : GrownCoordState
        x = record c { at = c.at ++ shard ∷ [] }

        out : Outcome
        out = coordinated (mark_delivered g k) n (record { answer = Done; state = x; sends = [] })

        never : (j : ℕ) (z : Sealed) → Some (Deliver k) ≡ Some (Deliver (suc j)) → slice_get g.sent j ≡ Some z → is_of f z ≡ true → ⊥
        never j z e at2 is =
            let same : Some z ≡ Some m = sym at2 ∙ (ap (slice_get g.sent) (same_number j e) ∙ at) in
            let one : z ≡ m = cc in
            false≢true (sym other ∙ (ap (is_of f) (sym one) ∙ is))

  -- ---- a tick

  pub own_ticked : Own (Tick me) (undecided seen.Done (at_coord_tick g n c (grown_tick_sends plan next c))) c
  own_ticked =
      record {
        event = Some (one.Tick me);
        after = after;
        happens = happens;
        all = own_sends ++ drained_again plan c;
        outs = own_sends;
        sends = are_sent g.servers (slice_set g.coords n c) c.switched me own_sends (drained_again plan c) none (again_between c.draining c.upto) (again_right c.draining c.upto refl);
        told = [];
        ids = [];
        world = world;
        still = refl;
        telling = c_telling;
        tells_still = λ w e. e;
        heard = λ shard h. o.at n c shard there h;
        at_still = λ e. refl;
        rests = λ w e switched. (refl, refl, refl);
        servers = refl;
        viewing = refl;
        order = refl;
        coords = sym (set_there u.coords n c.core here);
        history = sym (append-nil u.history);
        looks = sym (append-nil u.looks);
        sent = refl;
        along = record { sent_before = λ j e. absurd (cc); comes = λ j z e at2 is taken. absurd (cc); stops = λ shard during e. absurd (cc) };
      }
    where
      own_sends : List Outgoing
      own_sends = tick.tick_sends p c.core

      after : happen.Outcome
      after = happen.undecided seen_there.Done (views.at_coord_tick u n own_sends)

      happens : Transition p u (Some (one.Tick me)) after
      happens = (c.core, here, refl)

      none : AreNoneBetween own_sends
      none = no_between (Some (one.Tick me)) after happens me own_sends refl

      again_between : (b : Bool) (w : Option TxnId) → AreBetween (if b then told_again plan w else [])
      again_between true None out h = absurd h
      again_between true (Some w) out h = drained_between plan w out h
      again_between false w out h = absurd h

      again_right : (b : Bool) (w : Option TxnId) → c.upto ≡ w → (out : Outgoing) → Has out (if b then told_again plan w else []) → IsToldRight g.servers (slice_set g.coords n c) out.msg out.to
      again_right true None e out h = absurd h
      again_right true (Some w) e out h = drained_right plan g.servers (slice_set g.coords n c) shards w has_told out h
        where
          has_told : HasTold (slice_set g.coords n c) w
          has_told = (c, subst (λ k. slice_get (slice_set g.coords n c) k ≡ Some c) (sym (c_telling.own w e)) (get-set_here g.coords n c c there), e)
      again_right false w e out h = absurd h

      world : bare (at_coord_tick g n c (grown_tick_sends plan next c)) ≡ changed_coord (bare g) n c (map (sealed_by c.switched me) (own_sends ++ drained_again plan c)) [] []
      world =
          let coords : g.coords ≡ slice_set g.coords n c = sym (set_there g.coords n c there) in
          let messages : g.sent ++ map (sealed_by c.switched me) (grown_tick_sends plan next c) ≡ g.sent ++ map (sealed_by c.switched me) (own_sends ++ drained_again plan c) =
          ap (λ (q : Plan). g.sent ++ map (sealed_by c.switched me) (tick.tick_sends q c.core ++ drained_again plan c)) plan_is in
          let history : g.history ≡ g.history ++ [] = sym (append-nil g.history) in
          let looks : g.looks ≡ g.looks ++ [] = sym (append-nil g.looks) in
          λ i. record { servers = g.servers; coords = coords i; sent = messages i; undelivered = []; history = history i; order = g.order; looks = looks i }

  -- ---- a drain

  pub own_drained : (x : GrownCoordState) × Own (Drain n) (undecided seen.Done (at_coord g n (after_drain plan c).state (after_drain plan c).sends [])) x
  own_drained = go (c.draining || c.switched) refl
    where
      no_drain : (out : Outcome) → IsAlong f g.sent (record { event = Some (Drain n); outcome = out }) (aside_step u)
      no_drain out = aside_along f g.sent (record { event = Some (Drain n); outcome = out }) u (λ k h. absurd (cc)) (λ k m h. absurd (cc))

      Drains : DrainStep → Type 0
      Drains d = (x : GrownCoordState) × Own (Drain n) (undecided seen.Done (at_coord g n d.state d.sends [])) x

      go : (b : Bool) → (c.draining || c.switched) ≡ b → Drains (if b then record { state = c; sends = [] } else tell_if_drained plan (record c { draining = true }))
      go true e = (c, own_nothing plan next p f u no_between g sent shards o n c there here number rest plan_is file_is (Drain n) (undecided seen.Done (at_coord g n c [] [])) same (no_drain (undecided seen.Done (at_coord g n c [] []))))
        where
          same : bare (at_coord g n c [] []) ≡ bare g
          same =
              let coords : slice_set g.coords n c ≡ g.coords = set_there g.coords n c there in
              let messages : g.sent ++ [] ≡ g.sent = append-nil g.sent in
              let history : g.history ++ [] ≡ g.history = append-nil g.history in
              let looks : g.looks ++ [] ≡ g.looks = append-nil g.looks in
              λ i. record { servers = g.servers; coords = coords i; sent = messages i; undelivered = []; history = history i; order = g.order; looks = looks i }
      go false e = drained (tell_if_drained plan c3) (behind_drain plan c3)
        where
          c3 : GrownCoordState
          c3 = record c { draining = true }

          plain : (c.draining ≡ false) × (c.switched ≡ false)
          plain = or_parts c.draining c.switched e

          -- what it told before, it told while it drained
          never : {X : Type 0} (w : TxnId) → c.upto ≡ Some w → X
          never w e = absurd (false≢true (sym plain.0 ∙ (c_telling.rests w e plain.1).0))

          now : (x : GrownCoordState) (all : List Outgoing) → x.core ≡ c.core → x.switched ≡ c.switched → x.at ≡ c.at → IsTelling n x → AreBetween all
              → ((out : Outgoing) → Has out all → IsToldRight g.servers (slice_set g.coords n x) out.msg out.to) → Own (Drain n) (undecided seen.Done (at_coord g n x all [])) x
          now x all core still at telling between right =
              own_aside plan next p f u no_between g sent shards o n c there here number rest plan_is file_is (Drain n) (undecided seen.Done (at_coord g n x all [])) x all
              (are_sent g.servers (slice_set g.coords n x) c.switched me [] all (λ out h. absurd h) between right) world core still telling (λ w e. never w e)
              (λ shard h. o.at n c shard there (subst (Has shard) at h)) (λ e. at) (no_drain (undecided seen.Done (at_coord g n x all [])))
            where
              world : bare (at_coord g n x all []) ≡ changed_coord (bare g) n x (map (sealed_by c.switched me) all) [] []
              world =
                  let messages : g.sent ++ map (sealed_by x.switched me) all ≡ g.sent ++ map (sealed_by c.switched me) all = ap (λ b. g.sent ++ map (sealed_by b me) all) still in
                  let looks : g.looks ++ first_look (length g.order) (filter_map (λ (out : Outgoing). reads_for out.msg) all) ≡ g.looks ++ [] =
                  ap (λ l. g.looks ++ first_look (length g.order) l) (no_reads_for [] all between) in
                  λ i. record { servers = g.servers; coords = slice_set g.coords n x; sent = messages i; undelivered = []; history = g.history ++ []; order = g.order; looks = looks i }

          drained : (d : DrainStep) → Behind plan c3 d → Drains d
          drained d (quiet is) =
              subst Drains (sym is)
              (c3, now c3 [] refl refl refl (record { plain = λ s. absurd (false≢true (sym plain.1 ∙ s)); own = c_telling.own; rests = λ w e switched. never w e }) (λ out h. absurd h) (λ out h. absurd h))
          drained d (tells draining empty is) =
              subst Drains (sym is) (
                telling c3,
                now (telling c3) (drained_sends plan (next_id c.core)) refl refl refl
                    (record {
                      plain = λ s. absurd (false≢true (sym plain.1 ∙ s));
                      own = λ w e. ap (λ (w : TxnId). w.coord) (the w e) ∙ number;
                      rests = λ w e switched. (refl, empty, sym (the w e));
                    })
                    (drained_between plan (next_id c.core))
                    (drained_right plan g.servers (slice_set g.coords n (telling c3)) shards (next_id c.core)
                    (telling c3, subst (λ k. slice_get (slice_set g.coords n (telling c3)) k ≡ Some (telling c3)) (sym number) (get-set_here g.coords n c (telling c3) there), refl)),
              )
            where
              the : (w : TxnId) → Some (next_id c.core) ≡ Some w → w ≡ next_id c.core
              the w e = cc
