-- A stop of a server in the world is one in that of transactions alone
use Rattle.std.proofs.Common.{◌≡◌, ◌∙◌, ℕ, suc, ◌-◌, ◌<◌, Bool, true, false, not, [], ◌++◌, Option, Some, None, map, length, refl, sym, ap, subst, arith, ◌≢◌, take}
use Rattle.std.proofs.lemmas.Bool.{not-false}
use Rattle.std.specs.Prelude.{slice_get}
use Rattle.std.specs.List.{filter}
use Rattle.roc_base.specs.declared.id.TxnId.{TxnId}
use Rattle.roc_base.specs.declared.node.Node.TheVariants.{Server}
use Rattle.roc_msg.specs.declared.msg.Envelope.{Envelope}
use Rattle.roc_plan.specs.Groups.{Plan}
use Rattle.roc_step.specs.State.{answered, ServerState, ServerStep, Viewing}
use Rattle.roc_step.specs.Reads.{AnswersReads, ReadStep}
use Rattle.roc_step.specs.Step as server
use Rattle.roc_coord.specs.State.{CoordState}
use Rattle.roc_law_protocol.specs.declared.event.Event.TheVariants.{Deliver, Stop}
use Rattle.roc_law_protocol.specs.World as transactions
use Rattle.roc_law_protocol.specs.Happens as theirs
use Rattle.roc_law_world.specs.World.{World, mark_delivered, sends, at_server}
use Rattle.roc_law_world.specs.Happens.{no_reads, StopsIn, at_rest, unrecorded, recorded, restarted}
use Rattle.roc_law_world.specs.Beside.{is_of_view, is_of_transaction, number_among, IsBeside}
use Rattle.roc_law_world.proofs.Sent.{envelopes, all_kept, beside_delivered, beside_read, found_beside, AreOfTransactions, AreOfViews, beside_sends}
use Rattle.roc_law_world.proofs.TickSends.{of_transaction}
use Rattle.roc_law_world.proofs.ServerSends as server_sends
use Rattle.roc_law_protocol.proofs.Changed.{get-front}
use Rattle.roc_law_world.proofs.TakenAlike.{none_taken, came_alike}
use Rattle.roc_law_world.proofs.Coordinators.{IsCoordSound}
use Rattle.roc_law_world.proofs.Besides.{kept_envelopes, Holds, Follows, server_beside, server_still, AreEventsBeside}
use Rattle.roc_base.specs.declared.node.Shard.{Shard}
use Rattle.roc_law_protocol.specs.declared.event.Kept.{Kept}
use Rattle.roc_law_protocol.specs.declared.event.Kept.TheVariants.{Lost, Sent}
use Rattle.roc_law_protocol.specs.Happens.{IsSentTo}
use Rattle.roc_law_protocol.specs.Forgotten.{Brings, stops_at}
use Rattle.roc_law_protocol.proofs.Stopping.{take_has, take_none}
use Rattle.roc_law_protocol.proofs.Stops.{nothing_sent}
use Rattle.roc_law_protocol.proofs.Rounds.{filter_none}
use Rattle.roc_step.specs.Restarts.{cut_short, cut_reads}
use Rattle.roc_law_world.proofs.ServerSteps.{one_less, reads_of_views, sent_for_transactions, IsIdle, idle}

module _ (plan : Plan) (is_view : TxnId → Bool) where
  module _ (w : World) (t : transactions.World) (h : Holds plan is_view w t) (shard : Shard) (s : ServerState) (v : Viewing) (there : slice_get w.servers shard.0 ≡ Some s) where
    stop_beside : (during own : Option (ℕ × Kept)) → AreEventsBeside w.sent (Some (Stop shard own)) (Some (Stop shard during))
    stop_beside during own = record { comes = λ k m at of e. absurd (no_message k e); stops = λ other kept e. (own, ap (λ (a : Shard). Some (Stop a own)) (same_shard other kept e)) }
      where
        no_message : (k : ℕ) → Some (Stop shard own) ≢ Some (Deliver (suc k))
        no_message k e = cc

        same_shard : (other : Shard) (kept : Option (ℕ × Kept)) → Some (Stop shard during) ≡ Some (Stop other kept) → shard ≡ other
        same_shard other kept e = cc

    -- a step of the server in both worlds, and a tick of it
    again_beside : (u : World) (x : transactions.World) (r : ServerStep) → IsBeside is_view u x → IsBeside is_view (sends u (Server shard) (server.tick_sends r.state)) (transactions.sends x (Server shard) (server.tick_sends r.state))
    again_beside u x r b = beside_sends is_view u x b (Server shard) (server.tick_sends r.state) (server.tick_sends r.state) (all_kept (Server shard) (server.tick_sends r.state) (server_sends.tick_of_transactions plan r.state))

    -- no message of transactions comes
    rests : (own : Option (ℕ × Kept)) (before : World) (r : ServerStep) (q : ReadStep) → before.servers ≡ w.servers → before.coords ≡ w.coords → IsBeside is_view before t → IsIdle s r → AreOfViews q.sends
        → Follows plan is_view w t (Some (Stop shard own)) (restarted before shard.0 r q)
    rests own before r q servers coords b i views =
        let still = server_still plan is_view before t b shard.0 s r q (subst (λ l. slice_get l shard.0 ≡ Some s) (sym servers) there) i.state i.decided
        (kept_envelopes (Server shard) (r.sends ++ q.sends) ∙ ap (envelopes (Server shard)) (ap (λ l. filter of_transaction (l ++ q.sends)) i.sends ∙ filter_none of_transaction q.sends (λ out k. ap not (views out k)))) in
        let here : slice_get t.servers shard.0 ≡ Some s = subst (λ l. slice_get l shard.0 ≡ Some s) (sym h.beside.servers) there in
        let both : IsBeside is_view (at_server before shard.0 r q) (transactions.at_server t shard.0 (answered s [])) = subst (IsBeside is_view (at_server before shard.0 r q)) (sym (nothing_sent t shard.0 s here)) still in
        record {
          event = Some (Stop shard None);
          events = stop_beside None own;
          outcome = theirs.transaction_restarted t shard.0 (answered s []);
          moves = record { state = s; there = here; before = t; step = answered s []; stops = theirs.at_rest; is = refl };
          holds = record {
            beside = subst (λ z. IsBeside is_view (sends (at_server before shard.0 r q) (Server shard) (server.tick_sends r.state)) (transactions.sends (transactions.at_server t shard.0 (answered s [])) (Server shard) (server.tick_sends z))) i.state
                (again_beside (at_server before shard.0 r q) (transactions.at_server t shard.0 (answered s [])) r both);
            coords = subst (λ l. (m : ℕ) (c : CoordState) → slice_get l m ≡ Some c → IsCoordSound is_view c) (sym coords) h.coords;
          };
          components = sym i.components;
          decided = sym i.decided;
          ran = sym (ap (map (theirs.ran_at shard.0)) i.ran);
          taken = none_taken _ _ i.components refl;
        }

    idle_rest : IsIdle s (answered s [])
    idle_rest = record { state = refl; sends = refl; components = refl; decided = refl; ran = refl }

    idle_cut : (many : ℕ) (r : ServerStep) → IsIdle s r → IsIdle s (cut_short many r)
    idle_cut many r i = record { state = i.state; sends = ap (take many) i.sends ∙ take_none many; components = i.components; decided = i.decided; ran = i.ran }

    cut_views : (many : ℕ) (r : ServerStep) (q : ReadStep) → AreOfViews q.sends → AreOfViews (cut_reads many r q).sends
    cut_views many r q views out k = views out (take_has (many - length r.sends) q.sends out k)

    suc_of : (k : ℕ) → 0 < k → suc (k - 1) ≡ k
    suc_of k l = omega (arith, l)

    -- a message is there
    module _ (k : ℕ) (m : Envelope) (sent : IsSentTo w.sent k shard.0 m) where
      abbrev at : ℕ
      at = k - 1

      -- of transactions
      module _ (of : is_of_transaction m ≡ true) where
        abbrev its_other : transactions.World
        its_other = transactions.mark_delivered t (suc (number_among w.sent (k - 1)))

        its_both : IsBeside is_view (mark_delivered w k) its_other
        its_both = subst (λ k. IsBeside is_view (mark_delivered w k) its_other) (suc_of k sent.some) (beside_delivered is_view w t h.beside (k - 1) m sent.there of)

        its : IsSentTo t.sent (suc (number_among w.sent (k - 1))) shard.0 m
        its = record { some = omega arith; there = subst (λ k. slice_get t.sent k ≡ Some m) (sym (one_less (number_among w.sent (k - 1)))) (found_beside is_view w t h.beside (k - 1) m sent.there of); to = sent.to }

        here : slice_get t.servers shard.0 ≡ Some s
        here = subst (λ l. slice_get l shard.0 ≡ Some s) (sym h.beside.servers) there

        lost : (own : Option (ℕ × Kept)) → Follows plan is_view w t (Some (Stop shard own)) (restarted (mark_delivered w k) shard.0 (answered s []) (no_reads v))
        lost own = record {
          event = Some (Stop shard (Some (suc (number_among w.sent (k - 1)), Lost)));
          events = stop_beside (Some (suc (number_among w.sent (k - 1)), Lost)) own;
          outcome = theirs.transaction_restarted its_other shard.0 (answered s []);
          moves = record { state = s; there = here; before = its_other; step = answered s []; stops = theirs.unrecorded (suc (number_among w.sent (k - 1))) m its; is = refl };
          holds = record {
            beside = again_beside (at_server (mark_delivered w k) shard.0 (answered s []) (no_reads v)) (transactions.at_server its_other shard.0 (answered s [])) (answered s [])
                (server_beside plan is_view (mark_delivered w k) its_other its_both shard.0 (answered s []) (no_reads v) refl);
            coords = h.coords;
          };
          components = refl;
          decided = refl;
          ran = refl;
          taken = none_taken _ _ refl refl;
        }

        taken : (own : Option (ℕ × Kept)) (many : ℕ) (r : ServerStep) (q : ReadStep) → server.Handles plan s m.msg r → AnswersReads plan v m.msg r q → Brings (Some (Stop shard own)) k
            → Follows plan is_view w t (Some (Stop shard own)) (restarted (mark_delivered w k) shard.0 (cut_short many r) (cut_reads many r q))
        taken own many r q handles answers brings =
            let ours : AreOfTransactions r.sends = subst (λ (r : ServerStep). AreOfTransactions r.sends) (sym handles.is) (server_sends.message_of_transactions plan s handles.findings m.msg) in
            record {
              event = Some (Stop shard (Some (suc (number_among w.sent (k - 1)), Sent many)));
              events = stop_beside (Some (suc (number_among w.sent (k - 1)), Sent many)) own;
              outcome = theirs.transaction_restarted its_other shard.0 (cut_short many r);
              moves = record { state = s; there = here; before = its_other; step = cut_short many r; stops = theirs.recorded (suc (number_among w.sent (k - 1))) many m r its handles; is = refl };
              holds = record {
                beside = again_beside (at_server (mark_delivered w k) shard.0 (cut_short many r) (cut_reads many r q)) (transactions.at_server its_other shard.0 (cut_short many r)) (cut_short many r)
                    (server_beside plan is_view (mark_delivered w k) its_other its_both shard.0 (cut_short many r) (cut_reads many r q)
                    (sent_for_transactions shard.0 (cut_short many r) (cut_reads many r q) (λ out j. ours out (take_has many r.sends out j)) (cut_views many r q (reads_of_views plan v m.msg r q answers))));
                coords = h.coords;
              };
              components = refl;
              decided = refl;
              ran = refl;
              taken = came_alike _ _ k (suc (number_among w.sent (k - 1))) m brings (stops_at shard (suc (number_among w.sent (k - 1))) many)
                  (get-front (w.sent ++ map (transactions.sent_by (Server shard)) (take many r.sends ++ take (many - length r.sends) q.sends)) _ (k - 1) m (get-front w.sent _ (k - 1) m sent.there))
                  (get-front (t.sent ++ map (transactions.sent_by (Server shard)) (take many r.sends)) _ (suc (number_among w.sent (k - 1)) - 1) m (get-front t.sent _ (suc (number_among w.sent (k - 1)) - 1) m its.there)) refl;
            }

      -- of views: nothing comes of it in the its_other world
      module _ (of : is_of_transaction m ≡ false) where
        its_alone : IsBeside is_view (mark_delivered w k) t
        its_alone = subst (λ k. IsBeside is_view (mark_delivered w k) t) (suc_of k sent.some) (beside_read is_view w t h.beside (k - 1) m sent.there of)

        lost_view : (own : Option (ℕ × Kept)) → Follows plan is_view w t (Some (Stop shard own)) (restarted (mark_delivered w k) shard.0 (answered s []) (no_reads v))
        lost_view own = rests own (mark_delivered w k) (answered s []) (no_reads v) refl refl its_alone idle_rest (λ out j. absurd j)

        taken_view : (own : Option (ℕ × Kept)) (many : ℕ) (r : ServerStep) (q : ReadStep) → server.Handles plan s m.msg r → AnswersReads plan v m.msg r q
            → Follows plan is_view w t (Some (Stop shard own)) (restarted (mark_delivered w k) shard.0 (cut_short many r) (cut_reads many r q))
        taken_view own many r q handles answers =
            let i : IsIdle s r = subst (IsIdle s) (sym handles.is) (idle plan s handles.findings m.msg (not-false (is_of_view m.msg) of)) in
            rests own (mark_delivered w k) (cut_short many r) (cut_reads many r q) refl refl its_alone (idle_cut many r i) (cut_views many r q (reads_of_views plan v m.msg r q answers))

      lost_either : (own : Option (ℕ × Kept)) (b : Bool) → is_of_transaction m ≡ b → Follows plan is_view w t (Some (Stop shard own)) (restarted (mark_delivered w k) shard.0 (answered s []) (no_reads v))
      lost_either own true of = lost of own
      lost_either own false of = lost_view of own

      taken_either : (own : Option (ℕ × Kept)) (many : ℕ) (r : ServerStep) (q : ReadStep) → server.Handles plan s m.msg r → AnswersReads plan v m.msg r q → Brings (Some (Stop shard own)) k → (b : Bool) → is_of_transaction m ≡ b
          → Follows plan is_view w t (Some (Stop shard own)) (restarted (mark_delivered w k) shard.0 (cut_short many r) (cut_reads many r q))
      taken_either own many r q handles answers brings true of = taken of own many r q handles answers brings
      taken_either own many r q handles answers brings false of = taken_view of own many r q handles answers

    pub stops : (own during : Option (ℕ × Kept)) → own ≡ during → (before : World) (step : ServerStep) (reads : ReadStep) → StopsIn plan w shard.0 s v during before step reads → Follows plan is_view w t (Some (Stop shard own)) (restarted before shard.0 step reads)
    stops own during same before step reads at_rest = rests own w (answered s []) (no_reads v) refl refl h.beside idle_rest (λ out j. absurd j)
    stops own during same before step reads (unrecorded k m sent) = lost_either k m sent own (is_of_transaction m) refl
    stops own during same before step reads (recorded k many m r q sent handles answers) = taken_either k m sent own many r q handles answers (subst (λ d. Brings (Some (Stop shard d)) k) (sym same) (stops_at shard k many)) (is_of_transaction m) refl
