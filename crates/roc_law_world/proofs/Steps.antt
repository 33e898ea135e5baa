-- Each step of the world is, of transactions alone, one of theirs, or one aside, or none
use Rattle.std.proofs.Common.{◌≡◌, ◌∙◌, inl, ℕ, zero, suc, ◌-◌, Bool, true, false, not, List, [], ◌++◌, Option, Some, None, map, refl, sym, ap, subst, append-nil, arith, ◌≢◌}
use Rattle.std.proofs.lemmas.Bool.{false≢true, not-true, not-false}
use Rattle.std.specs.Prelude.{slice_get}
use Rattle.std.specs.List.{filter}
use Rattle.roc_sequence.proofs.Members.{has_left, same_there}
use Rattle.roc_base.specs.declared.id.TxnId.{TxnId}
use Rattle.roc_base.specs.declared.node.Node.{Node}
use Rattle.roc_base.specs.declared.node.Node.TheVariants.{Server, Coord}
use Rattle.roc_msg.specs.declared.msg.Envelope.{Envelope}
use Rattle.roc_plan.specs.Groups.{Plan}
use Rattle.roc_step.specs.State.{answered, ServerState, ServerStep, Viewing}
use Rattle.roc_step.specs.Reads.{ReadStep}
use Rattle.roc_step.specs.Step as server
use Rattle.roc_coord.specs.State.{CoordState}
use Rattle.roc_coord.specs.Step.{after_message}
use Rattle.roc_coord.specs.Tick as coord
use Rattle.roc_audit.specs.declared.entry.Entry.{Entry}
use Rattle.roc_audit.specs.declared.entry.Entry.TheVariants as entry
use Rattle.roc_audit.specs.Woven.{without_views}
use Rattle.roc_law_protocol.specs.Aside.{transaction_tick_sends}
use Rattle.roc_law_protocol.specs.declared.event.Event.{Event}
use Rattle.roc_law_protocol.specs.declared.event.Event.TheVariants.{Submit, Deliver, Tick, Stop}
use Rattle.roc_law_protocol.specs.declared.event.Seen.TheVariants as seen
use Rattle.roc_law_protocol.specs.World as transactions
use Rattle.roc_law_protocol.specs.Happens as theirs
use Rattle.roc_law_world.specs.World.{World, mark_delivered, at_coord_tick}
use Rattle.roc_law_world.specs.Happens.{Outcome, undecided, served, coordinated, IsServed, IsReceived, Happens}
use Rattle.roc_law_world.specs.Run.{Transition}
use Rattle.roc_law_world.specs.Beside.{is_of_view, is_of_transaction, of_transactions, number_among, TellsViews, IsBeside}
use Rattle.roc_law_world.proofs.Sent.{envelopes, all_kept, beside_delivered, beside_read, found_beside, AreOfTransactions}
use Rattle.roc_law_world.proofs.TickSends.{of_transaction, kept_tick}
use Rattle.roc_law_world.proofs.ServerSends as server_sends
use Rattle.roc_law_protocol.proofs.Changed.{get-front}
use Rattle.roc_law_world.proofs.TakenAlike.{none_taken, came_alike}
use Rattle.roc_law_world.proofs.Coordinators.{is_sound}
use Rattle.roc_law_world.proofs.CoordSteps.{for_transactions, for_views}
use Rattle.roc_law_world.proofs.Besides.{kept_envelopes, Holds, Follows, stays, coord_beside, server_beside, server_still, coords_set, AreEventsBeside, never_beside}
use Rattle.roc_base.specs.declared.node.Shard.{Shard}
use Rattle.roc_law_protocol.specs.declared.event.Kept.{Kept}
use Rattle.roc_law_protocol.specs.Forgotten.{delivers as by_delivery}
use Rattle.roc_law_world.proofs.ServerSteps.{one_less, reads_of_views, sent_for_transactions, IsIdle, idle}
use Rattle.roc_law_world.proofs.AsideSteps.{view_message, submits}
use Rattle.roc_law_world.proofs.StopSteps.{stops}
use Rattle.roc_law_protocol.proofs.Stops.{set_there}
use Rattle.roc_law_protocol.proofs.Rounds.{filter_none}

module _ (plan : Plan) (is_view : TxnId → Bool) where
  -- ---- a delivery

  module _ (w : World) (t : transactions.World) (h : Holds plan is_view w t) (j : ℕ) (m : Envelope) (at : slice_get w.sent j ≡ Some m) where
    come : World
    come = mark_delivered w (suc j)

    -- a message of transactions comes in both worlds
    module _ (of : is_of_transaction m ≡ true) where
      abbrev other : transactions.World
      other = transactions.mark_delivered t (suc (number_among w.sent j))

      both : IsBeside is_view (mark_delivered w (suc j)) other
      both = beside_delivered is_view w t h.beside j m at of

      there : slice_get t.sent (suc (number_among w.sent j) - 1) ≡ Some m
      there = subst (λ k. slice_get t.sent k ≡ Some m) (sym (one_less (number_among w.sent j))) (found_beside is_view w t h.beside j m at of)

      comes : AreEventsBeside w.sent (Some (Deliver (suc j))) (Some (Deliver (suc (number_among w.sent j))))
      comes = record { comes = λ k d found passes e. ap (λ k. Some (Deliver (suc (number_among w.sent k)))) (same_place k e); stops = λ shard during e. absurd (no_stop shard during e) }
        where
          same_place : (k : ℕ) → Some (Deliver (suc j)) ≡ Some (Deliver (suc k)) → j ≡ k
          same_place k e = cc

          no_stop : (shard : Shard) (during : Option (ℕ × Kept)) → Some (Deliver (suc (number_among w.sent j))) ≢ Some (Stop shard during)
          no_stop shard during e = cc

      of_it : is_of_view m.msg ≡ false
      of_it = not-true (is_of_view m.msg) of

      -- where it comes to a server, what comes of it there
      pub record IsServedThere (o : Outcome) : Type 0 where
        pub outcome : theirs.Outcome
        pub found : slice_get t.sent (suc (number_among w.sent j) - 1) ≡ Some m
        pub happens : theirs.Happens plan t (Deliver (suc (number_among w.sent j))) outcome
        pub sent : outcome.world.sent ≡ of_transactions o.world.sent

      pub served_there : (n : ℕ) (o : Outcome) → m.to ≡ Server (record { 0 = n }) → IsServed plan (mark_delivered w (suc j)) m.msg n o → IsServedThere o
      served_there n o to g =
          let r = g.step in
          let q = g.reads in
          let sent : AreOfTransactions r.sends = subst (λ (r : ServerStep). AreOfTransactions r.sends) (sym g.handles.is) (server_sends.message_of_transactions plan g.state g.handles.findings m.msg) in
          record {
            outcome = theirs.served other n r;
            found = there;
            happens = (m, omega arith, there, subst (λ (to : Node). theirs.IsReceived plan other m.msg to (theirs.served other n r)) (sym to) (g.state, r, subst (λ l. slice_get l n ≡ Some g.state) (sym both.servers) g.there, g.handles, refl));
            sent =
                (server_beside plan is_view (mark_delivered w (suc j)) other both n r q (sent_for_transactions n r q sent (reads_of_views plan g.viewing m.msg r q g.answers))).sent
                ∙ ap (λ (o : Outcome). of_transactions o.world.sent) (sym g.is);
          }

      transaction_at_server : (n : ℕ) (o : Outcome) → m.to ≡ Server (record { 0 = n }) → IsServed plan (mark_delivered w (suc j)) m.msg n o → Follows plan is_view w t (Some (Deliver (suc j))) o
      transaction_at_server n o to g =
          let r = g.step in
          let q = g.reads in
          let sent : AreOfTransactions r.sends = subst (λ (r : ServerStep). AreOfTransactions r.sends) (sym g.handles.is) (server_sends.message_of_transactions plan g.state g.handles.findings m.msg) in
          subst (Follows plan is_view w t (Some (Deliver (suc j)))) (sym g.is) (record {
            event = Some (Deliver (suc (number_among w.sent j)));
            events = comes;
            outcome = theirs.served other n r;
            moves = (m, omega arith, there, subst (λ (to : Node). theirs.IsReceived plan other m.msg to (theirs.served other n r)) (sym to) (g.state, r, subst (λ l. slice_get l n ≡ Some g.state) (sym both.servers) g.there, g.handles, refl));
            holds = record { beside = server_beside plan is_view (mark_delivered w (suc j)) other both n r q (sent_for_transactions n r q sent (reads_of_views plan g.viewing m.msg r q g.answers)); coords = h.coords };
            components = refl;
            decided = refl;
            ran = refl;
            taken = came_alike _ _ (suc j) (suc (number_among w.sent j)) m (by_delivery (suc j)) (by_delivery (suc (number_among w.sent j))) (get-front w.sent _ (suc j - 1) m (subst (λ k. slice_get w.sent k ≡ Some m) (sym (one_less j)) at))
                (get-front t.sent _ (suc (number_among w.sent j) - 1) m there) refl;
          })

      transaction_at_coord : (n : ℕ) (o : Outcome) → m.to ≡ Coord n → (s : CoordState) → slice_get w.coords n ≡ Some s → o ≡ coordinated (mark_delivered w (suc j)) n (after_message plan s m.msg) → Follows plan is_view w t (Some (Deliver (suc j))) o
      transaction_at_coord n o to s found is =
          let r = after_message plan s m.msg in
          let g = for_transactions plan is_view s (h.coords n s found) m.msg of_it in
          subst (Follows plan is_view w t (Some (Deliver (suc j)))) (sym is) (record {
            event = Some (Deliver (suc (number_among w.sent j)));
            events = comes;
            outcome = theirs.coordinated other n r;
            moves = (m, omega arith, there, subst (λ (to : Node). theirs.IsReceived plan other m.msg to (theirs.coordinated other n r)) (sym to) (s, subst (λ l. slice_get l n ≡ Some s) (sym both.coords) found, refl));
            holds = record {
              beside = coord_beside plan is_view (mark_delivered w (suc j)) other both n r.state r.sends r.sends (theirs.answer_entries r.answer) (theirs.answer_entries r.answer) (all_kept (Coord n) r.sends g.sends) (g.told);
              coords = coords_set plan is_view w n s r.state found h.coords g.sound;
            };
            components = refl;
            decided = refl;
            ran = refl;
            taken = none_taken _ _ refl refl;
          })

    -- a message of views comes in the one alone
    module _ (of : is_of_transaction m ≡ false) where
      abbrev still : Holds plan is_view (mark_delivered w (suc j)) t
      still = record { beside = beside_read is_view w t h.beside j m at of; coords = h.coords }

      alone : AreEventsBeside w.sent (Some (Deliver (suc j))) None
      alone = record {
        comes = λ k d found passes e. absurd (false≢true (sym of ∙ subst (λ (m : Envelope). is_of_transaction m ≡ true) (same_there w.sent j d m (subst (λ k. slice_get w.sent k ≡ Some d) (sym (same_place k e)) found) at) passes));
        stops = λ shard during e. absurd (no_stop shard during e);
      }
        where
          same_place : (k : ℕ) → Some (Deliver (suc j)) ≡ Some (Deliver (suc k)) → j ≡ k
          same_place k e = cc

          no_stop : (shard : Shard) (during : Option (ℕ × Kept)) → None ≢ Some (Stop shard during)
          no_stop shard during e = cc

      of_view : is_of_view m.msg ≡ true
      of_view = not-false (is_of_view m.msg) of

      view_at_server : (n : ℕ) (o : Outcome) → IsServed plan (mark_delivered w (suc j)) m.msg n o → Follows plan is_view w t (Some (Deliver (suc j))) o
      view_at_server n o g =
          let r = g.step in
          let q = g.reads in
          let i : IsIdle g.state r = subst (IsIdle g.state) (sym g.handles.is) (idle plan g.state g.handles.findings m.msg of_view) in
          subst (Follows plan is_view w t (Some (Deliver (suc j)))) (sym g.is) (record {
            event = None;
            events = alone;
            outcome = theirs.undecided seen.Done t;
            moves = inl refl;
            holds = record {
              beside = server_still plan is_view (mark_delivered w (suc j)) t still.beside n g.state r q g.there i.state i.decided
                  (kept_envelopes (Server (record { 0 = n })) (r.sends ++ q.sends) ∙ ap (envelopes (Server (record { 0 = n })))
                  (ap (λ l. filter of_transaction (l ++ q.sends)) i.sends ∙ filter_none of_transaction q.sends (λ out k. ap not (reads_of_views plan g.viewing m.msg r q g.answers out k))));
              coords = h.coords;
            };
            components = sym i.components;
            decided = sym i.decided;
            ran = sym (ap (map (theirs.ran_at n)) i.ran);
            taken = none_taken _ _ i.components refl;
          })

      view_at_coord : (n : ℕ) (o : Outcome) → (s : CoordState) → slice_get w.coords n ≡ Some s → o ≡ coordinated (mark_delivered w (suc j)) n (after_message plan s m.msg) → Follows plan is_view w t (Some (Deliver (suc j))) o
      view_at_coord n o s found is =
          subst (Follows plan is_view w t (Some (Deliver (suc j)))) (sym is) (as_of_before (view_message plan is_view (mark_delivered w (suc j)) t still n s found (Some (Deliver (suc j))) alone (after_message plan s m.msg) (for_views plan is_view s (h.coords n s found) m.msg of_view)))
        where
          as_of_before : {o : Outcome} → Follows plan is_view (mark_delivered w (suc j)) t (Some (Deliver (suc j))) o → Follows plan is_view w t (Some (Deliver (suc j))) o
          as_of_before f = record { event = f.event; events = f.events; outcome = f.outcome; moves = f.moves; holds = f.holds; components = f.components; decided = f.decided; ran = f.ran; taken = f.taken }

    pub delivers : (o : Outcome) → IsReceived plan (mark_delivered w (suc j)) m.msg m.to o → Follows plan is_view w t (Some (Deliver (suc j))) o
    delivers o g = go (is_of_transaction m) refl m.to refl g
      where
        go : (b : Bool) → is_of_transaction m ≡ b → (to : Node) → m.to ≡ to → IsReceived plan (mark_delivered w (suc j)) m.msg to o → Follows plan is_view w t (Some (Deliver (suc j))) o
        go true of (Server shard) to k = transaction_at_server of shard.0 o to k
        go true of (Coord n) to k = transaction_at_coord of n o to k.0 k.1 k.2
        go false of (Server shard) to k = view_at_server of shard.0 o k
        go false of (Coord n) to k = view_at_coord of n o k.0 k.1 k.2

  -- ---- a tick

  tick_beside : (w : World) (node : Node) → AreEventsBeside w.sent (Some (Tick node)) (Some (Tick node))
  tick_beside w node = record { comes = λ k m at of e. absurd (no_message k e); stops = λ shard during e. absurd (no_stop shard during e) }
    where
      no_message : (k : ℕ) → Some (Tick node) ≢ Some (Deliver (suc k))
      no_message k e = cc

      no_stop : (shard : Shard) (during : Option (ℕ × Kept)) → Some (Tick node) ≢ Some (Stop shard during)
      no_stop shard during e = cc

  ticks_server : (w : World) (t : transactions.World) (h : Holds plan is_view w t) (n : ℕ) (s : ServerState) (v : Viewing) → slice_get w.servers n ≡ Some s
      → Follows plan is_view w t (Some (Tick (Server (record { 0 = n })))) (served w n (answered s (server.tick_sends s)) (record { viewing = v; sends = [] }))
  ticks_server w t h n s v there =
      let r = answered s (server.tick_sends s) in
      let q : ReadStep = record { viewing = v; sends = [] } in
      record {
        event = Some (Tick (Server (record { 0 = n })));
        events = tick_beside w (Server (record { 0 = n }));
        outcome = theirs.served t n r;
        moves = (s, subst (λ l. slice_get l n ≡ Some s) (sym h.beside.servers) there, refl);
        holds = record { beside = server_beside plan is_view w t h.beside n r q (sent_for_transactions n r q (server_sends.tick_of_transactions plan s) (λ out k. absurd k)); coords = h.coords };
        components = refl;
        decided = refl;
        ran = refl;
        taken = none_taken _ _ refl refl;
      }

  ticks_coord : (w : World) (t : transactions.World) (h : Holds plan is_view w t) (n : ℕ) (s : CoordState) → slice_get w.coords n ≡ Some s → Follows plan is_view w t (Some (Tick (Coord n))) (undecided seen.Done (at_coord_tick w n (coord.tick_sends plan s)))
  ticks_coord w t h n s there =
      let sent = kept_envelopes (Coord n) (coord.tick_sends plan s) ∙ ap (envelopes (Coord n)) (kept_tick plan is_view s (is_sound is_view s (h.coords n s there))) in
      let k = coord_beside plan is_view w t h.beside n s (coord.tick_sends plan s) (transaction_tick_sends plan s) [] [] sent refl in
      record {
        event = Some (Tick (Coord n));
        events = tick_beside w (Coord n);
        outcome = theirs.undecided seen.Done (transactions.at_coord t n s (transaction_tick_sends plan s) []);
        moves = (s, subst (λ l. slice_get l n ≡ Some s) (sym h.beside.coords) there, refl);
        holds = record {
          beside = record {
            servers = k.servers;
            coords = k.coords ∙ set_there w.coords n s there;
            sent = k.sent;
            undelivered = k.undelivered;
            history = k.history ∙ ap (without_views is_view) (append-nil w.history);
            order = k.order;
          };
          coords = h.coords;
        };
        components = refl;
        decided = refl;
        ran = refl;
        taken = none_taken _ _ refl refl;
      }

  -- ---- any event

  happens : (w : World) (t : transactions.World) (h : Holds plan is_view w t) (e : Event) (o : Outcome) → TellsViews plan is_view o.world.history → Happens plan w e o → Follows plan is_view w t (Some e) o
  happens w t h (Submit n proc args) o tells g = submits plan is_view w t h n g.0 g.1 (Some (Submit n proc args)) (never_beside w.sent (Some (Submit n proc args)) never) proc args o tells g.2
    where
      never : (k : ℕ) → Some (Submit n proc args) ≢ Some (Deliver k)
      never k e = cc
  happens w t h (Deliver zero) o tells g = absurd (let p = g.1 in omega arith)
  happens w t h (Deliver (suc j)) o tells g = delivers w t h j g.0 (subst (λ k. slice_get w.sent k ≡ Some g.0) (one_less j) g.2) o g.3
  happens w t h (Tick (Server shard)) o tells g = subst (Follows plan is_view w t (Some (Tick (Server shard)))) (sym g.4) (ticks_server w t h shard.0 g.0 g.1 g.2)
  happens w t h (Tick (Coord n)) o tells g = subst (Follows plan is_view w t (Some (Tick (Coord n)))) (sym g.2) (ticks_coord w t h n g.0 g.1)
  happens w t h (Stop shard during) o tells x = subst (Follows plan is_view w t (Some (Stop shard during))) (sym x.is) (stops plan is_view w t h shard x.state x.viewing x.there during during refl x.before x.step x.reads x.stops)

  pub follows : (w : World) (t : transactions.World) (h : Holds plan is_view w t) (e : Option Event) (o : Outcome) → TellsViews plan is_view o.world.history → Transition plan w e o → Follows plan is_view w t e o
  follows w t h (Some e) o tells g = happens w t h e o tells g
  follows w t h None o tells g = subst (Follows plan is_view w t None) (sym g) (stays plan is_view w t None (never_beside w.sent None never) seen.Done w h)
    where
      never : (k : ℕ) → None ≢ Some (Deliver k)
      never k e = cc

-- ---- runs

-- in a world that has less of a history each submission is as in the one that has more
pub tells_before : (plan : Plan) (is_view : TxnId → Bool) (front more : List Entry) → TellsViews plan is_view (front ++ more) → TellsViews plan is_view front
tells_before plan is_view front more tells t proc args h = tells t proc args (has_left (entry.Submitted t proc args) front more h)
