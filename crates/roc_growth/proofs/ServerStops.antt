-- A stop of a server keeps the two runs side by side
use Rattle.std.proofs.Common.{◌≡◌, ◌∙◌, ◌⊎◌, inl, append_assoc, ◌<◌, ◌==◌, ℕ, suc, ◌-◌, not, Bool, true, List, [], ◌∷◌, ◌++◌, Option, Some, None, length, map, take, refl, sym, ap, subst, append-nil, arith}
use Rattle.std.proofs.lemmas.Bool.{false≢true}
use Rattle.std.proofs.lemmas.List.{map-append}
use Rattle.std.specs.Prelude.{slice_get, slice_set, filter, if◌then◌else◌}
use Rattle.roc_sequence.specs.Lists.{Has}
use Rattle.roc_sequence.proofs.Members.{has_at, has_one}
use Rattle.roc_base.specs.declared.id.TxnId.{TxnId}
use Rattle.roc_base.specs.declared.node.Node.{Node}
use Rattle.roc_msg.specs.declared.msg.Msg.{Msg}
use Rattle.roc_msg.specs.declared.msg.Msg.TheVariants.{Drained}
use Rattle.roc_msg.specs.declared.outbox.Outgoing.{Outgoing}
use Rattle.roc_plan.specs.Groups.{Plan}
use Rattle.roc_plan.specs.Accepted.{IsAccepted}
use Rattle.roc_step.specs.Reads.{AnswersReads, ReadStep}
use Rattle.roc_step.specs.Restarts as core
use Rattle.roc_step.specs.Renewed.{renewed}
use Rattle.roc_step.specs.State.{answered, ServerStep}
use Rattle.roc_step.specs.Step.{Handles, tick_sends}
use Rattle.roc_audit.specs.Order.{noted}
use Rattle.roc_law_protocol.specs.declared.event.Kept.{Kept}
use Rattle.roc_law_protocol.specs.declared.event.Kept.TheVariants.{Sent}
use Rattle.roc_law_protocol.proofs.Stopping.{take_has, take_none}
use Rattle.roc_law_world.specs.World.{World}
use Rattle.roc_law_world.specs.Happens as happen
use Rattle.roc_epoch.specs.declared.file.File.{File}
use Rattle.roc_epoch.specs.declared.file.File.TheVariants.{First, Second}
use Rattle.roc_epoch.specs.declared.next.Next.{Next}
use Rattle.roc_epoch.specs.Files.{is_between, is_file, own_file, own_plan, IsNextOf}
use Rattle.roc_epoch.proofs.Files.{same_file}
use Rattle.roc_two_files.specs.Sealed.{Sealed, is_of, sealed_by, place_in_file}
use Rattle.roc_two_files.proofs.Networks.{AreNoneBetween, AreBetween}
use Rattle.roc_grown.specs.declared.handled.GrownHandled.TheVariants.{Done}
use Rattle.roc_grown.specs.Server.{GrownServerState, GrownStep, GrownHandles, of_drained, of_switched, of_other, of_own, of_core, foreign_at, skip_at, taken_at, restarted, gone_over, switched_to, switched_sends}
use Rattle.roc_growth.specs.declared.event.Event.TheVariants.{Stop}
use Rattle.roc_growth.specs.World.{GrownWorld, mark_delivered}
use Rattle.roc_growth.specs.Happens.{Outcome, cut_short, IsSentTo, StopsIn, at_rest, unrecorded, recorded, started_again}
use Rattle.roc_growth.specs.Run.{Stepped, AreCoordsOf}
use Rattle.roc_growth.specs.Told.{HasTold, HasSwitched, IsToldRight}
use Rattle.roc_growth.specs.Epochs.{IsAlong}
use Rattle.roc_growth.proofs.Plainly.{take_both}
use Rattle.roc_growth.proofs.Telling.{changed_server, switched_still}
use Rattle.roc_growth.proofs.Placed.{nowhere, placed, aside_step, aside_along}
use Rattle.roc_growth.proofs.OwnServers.{bare, AreSent, are_sent, server_node, IsOwnServer, own_stopped}
use Rattle.roc_growth.proofs.Drains.{kept_more, DrainEnds, foreign, answers, keeps, goes, drain_ends, kept_or_told, many_kept, switched_between}
use Rattle.roc_growth.proofs.Phases.{Laws, IsFresh, IsGlued}
use Rattle.roc_growth.proofs.ServerMessages.{sealed_alike}
use Rattle.roc_growth.proofs.ServerEvents.{own_number, IsOwnWorld, server_by, lost_by, goes_by}

-- the first of these are among them
some_of : (many : ℕ) (all : List Outgoing) (out : Outgoing) → Has out (take many all) → Has out all
some_of many all out h = take_has many all out h

module _ (laws : Laws) (plan : Plan) (next : Option Next) (accepted : IsAccepted plan) (of : IsNextOf plan next) (some : 0 < plan.program.shards) (count : ℕ) (counted : AreCoordsOf next count)
    (steps : List Stepped) (g : GrownWorld) (o : IsGlued plan next count steps (bare g)) (n : ℕ) (s : GrownServerState) (there : slice_get g.servers n ≡ Some s) (during : Option (ℕ × Kept)) (out : Outcome) where
  abbrev me : Node
  me = server_node n

  abbrev step : Stepped
  step = record { event = Some (Stop (record { 0 = n }) during); outcome = out }

  abbrev Glued : Type 0
  Glued = IsGlued plan next count (steps ++ step ∷ []) (bare out.world)

  aside : (f : File) (u : World) → IsAlong f g.sent step (aside_step u)
  aside f u = aside_along f g.sent step u (λ k h. absurd (cc)) (λ k m h. absurd (cc))

  -- what a renewed server sends at a tick
  silent : IsFresh (bare g) o.w → s.switched ≡ true → tick_sends s.core ≡ []
  silent f switched = let was = f.servers n s there in ap tick_sends (was.core ∙ ap (λ b. if b then renewed was.state else was.state) switched)

  -- the world, with all that is sent
  stopped_world : (gone : List ℕ) (r : GrownStep) (b : Bool) → r.state.switched ≡ b → out ≡ started_again (record g { undelivered = gone }) n r → r.decided ≡ []
      → bare out.world ≡ changed_server (bare g) n r.state (map (sealed_by b me) (r.sends ++ tick_sends r.state.core)) g.order
  stopped_world gone r b still is none =
      ap (λ (o : Outcome). bare o.world) is
      ∙ (λ i. record { servers = slice_set g.servers n r.state; coords = g.coords; sent = messages i; undelivered = []; history = g.history; order = noted g.order (none i); looks = g.looks })
    where
      messages : (g.sent ++ map (sealed_by r.state.switched me) r.sends) ++ map (sealed_by r.state.switched me) (tick_sends r.state.core) ≡ g.sent ++ map (sealed_by b me) (r.sends ++ tick_sends r.state.core)
      messages =
          append_assoc g.sent (map (sealed_by r.state.switched me) r.sends) (map (sealed_by r.state.switched me) (tick_sends r.state.core))
          ∙ (ap (λ l. g.sent ++ l) (sym (map-append (sealed_by r.state.switched me) r.sends (tick_sends r.state.core)))
          ∙ ap (λ b. g.sent ++ map (sealed_by b me) (r.sends ++ tick_sends r.state.core)) still)

  -- nothing came of it but what is told between files
  rests_by : (gone : List ℕ) (r : GrownStep) → out ≡ started_again (record g { undelivered = gone }) n r → r.state.core ≡ s.core → r.state.viewing ≡ core.without_reads s.viewing → r.state.switched ≡ s.switched → r.decided ≡ []
      → AreBetween r.sends → ((out : Outgoing) → Has out r.sends → IsToldRight (slice_set g.servers n r.state) g.coords out.msg out.to) → length r.state.drained ≡ length s.drained
      → ((i : ℕ) (w : TxnId) → slice_get r.state.drained i ≡ Some (Some w) → (slice_get s.drained i ≡ Some (Some w)) ⊎ ((w.coord ≡ i) × HasTold g.coords w)) → (s.switched ≡ true → r.state.drained ≡ s.drained) → Glued
  rests_by gone r is same reads still none all right many drained kept =
      server_by laws plan next accepted of some count counted steps g o n s there (Stop (record { 0 = n }) during) out
      (λ p f u i. (
        r.state,
        subst (λ out. IsOwnServer p f u g n s (Stop (record { 0 = n }) during) out r.state) (sym is)
            (own_stopped plan next p f u i.none g i.sent n s there i.here i.keeps i.plan_is i.file_is None u.undelivered gone (answered s.core []) (happen.no_reads s.viewing) happen.at_rest r same reads still none (λ nothing. sends) many drained during),
      ))
      (λ h u. aside First u) lost
    where
      sends : AreSent (slice_set g.servers n r.state) g.coords s.switched me r.sends []
      sends = are_sent (slice_set g.servers n r.state) g.coords s.switched me [] r.sends (λ o h. absurd h) all right

      lost : IsFresh (bare g) o.w → s.switched ≡ true → Glued
      lost f switched =
          lost_by laws plan next accepted of some count counted steps g o n s there (Stop (record { 0 = n }) during) out r.state (r.sends ++ [])
          (subst (λ l. AreSent (slice_set g.servers n r.state) g.coords s.switched me l []) (sym (append-nil r.sends)) sends)
          (stopped_world gone r s.switched still is none ∙ ap (λ l. changed_server (bare g) n r.state (map (sealed_by s.switched me) (r.sends ++ l)) g.order) (ap tick_sends same ∙ silent f switched))
          same (λ z e. reads ∙ ap core.without_reads e) (kept switched) still (aside First) f switched

  -- nothing came of it at all
  nothing_by : (gone : List ℕ) (r : GrownStep) → r ≡ taken_at (restarted s) [] → out ≡ started_again (record g { undelivered = gone }) n r → Glued
  nothing_by gone r e is =
      rests_by gone (taken_at (restarted s) []) (is ∙ ap (started_again (record g { undelivered = gone }) n) e) refl refl refl refl (λ o h. absurd h) (λ o h. absurd h) refl (λ i w h. inl h) (λ h. refl)

  -- ---- where a message came

  module _ (k many : ℕ) (m : Sealed) (sent : IsSentTo g.sent k n m) where
    abbrev gone : List ℕ
    gone = filter (λ n. not (n == k)) g.undelivered

    has_told : (upto : TxnId) → m.message.msg ≡ Drained upto → HasTold g.coords upto
    has_told upto msg = (subst (λ msg. IsToldRight g.servers g.coords msg m.message.to) msg (o.told.messages m (has_at g.sent (k - 1) m sent.there))).3

    cut_nothing : (r : GrownStep) → r.state ≡ s → r.sends ≡ [] → r.components ≡ [] → r.decided ≡ [] → r.ran ≡ [] → cut_short many r ≡ taken_at (restarted s) []
    cut_nothing r state sends components decided ran =
        λ i. record { answer = Done; state = restarted (state i); sends = messages i; components = components i; decided = decided i; ran = ran i }
      where
        messages : take many r.sends ≡ []
        messages = ap (take many) sends ∙ take_none many

    drained_by : (upto : TxnId) → m.message.msg ≡ Drained upto → (r : GrownStep) → DrainEnds s upto next r → out ≡ started_again (mark_delivered g k) n (cut_short many r) → Glued
    drained_by upto msg r (foreign e) is = nothing_by gone (cut_short many r) (ap (cut_short many) e ∙ cut_nothing (foreign_at s) refl refl refl refl refl) is
    drained_by upto msg r (answers switched e) is =
        rests_by gone r2 (is ∙ ap (λ r. started_again (mark_delivered g k) n (cut_short many r)) e) refl refl refl refl
        (λ o h. ap (λ (o : Outgoing). is_between o.msg) (has_one o (switched_to s.core.shard upto) (some_of many (switched_to s.core.shard upto ∷ []) o h)))
        (λ o h. subst (λ (o : Outgoing). IsToldRight (slice_set g.servers n r2.state) g.coords o.msg o.to) (sym (has_one o (switched_to s.core.shard upto) (some_of many (switched_to s.core.shard upto ∷ []) o h)))
        (refl, now, has_told upto msg))
        refl (λ i w h. inl h) (λ h. refl)
      where
        r2 : GrownStep
        r2 = cut_short many (taken_at s (switched_to s.core.shard upto ∷ []))

        now : HasSwitched (slice_set g.servers n r2.state) s.core.shard.0
        now =
            switched_still g.servers n s r2.state there (λ h. h) s.core.shard.0
            (s, subst (λ k. slice_get g.servers k ≡ Some s) (sym (own_number laws plan next accepted of some count counted steps g o n s there)) there, switched)
    drained_by upto msg r (keeps unswitched e) is =
        rests_by gone r2 (is ∙ ap (λ r. started_again (mark_delivered g k) n (cut_short many r)) e) refl refl refl refl
        (λ o h. absurd (take_has many [] o h)) (λ o h. absurd (take_has many [] o h)) (many_kept s upto g.coords (has_told upto msg)) (kept_or_told s upto g.coords (has_told upto msg))
        (λ h. absurd (false≢true (sym unswitched ∙ h)))
      where
        r2 : GrownStep
        r2 = cut_short many (taken_at (kept_more s upto) [])
    drained_by upto msg r (goes nx next_is unswitched all e) is =
        goes_by laws plan next accepted of some count counted steps g o n s there (Stop (record { 0 = n }) during) out nx next_is unswitched upto (has_told upto msg) all r2.state refl refl refl refl (r2.sends ++ [])
        (λ o h. some_of many (switched_sends s.core.shard nx.coords (kept_more s upto).drained) o (subst (Has o) (append-nil r2.sends) h)) world (λ f apart u. aside f u)
      where
        r2 : GrownStep
        r2 = cut_short many (taken_at (gone_over (kept_more s upto)) (switched_sends s.core.shard nx.coords (kept_more s upto).drained))

        world : bare out.world ≡ changed_server (bare g) n r2.state (map (sealed_by s.switched me) (r2.sends ++ [])) g.order
        world =
            stopped_world gone r2 true refl (is ∙ ap (λ r. started_again (mark_delivered g k) n (cut_short many r)) e) refl
            ∙ ap (λ l. changed_server (bare g) n r2.state l g.order)
            (sealed_alike true s.switched me (r2.sends ++ [])
            (λ o h. switched_between s upto nx.coords o (some_of many (switched_sends s.core.shard nx.coords (kept_more s upto).drained) o (subst (Has o) (append-nil r2.sends) h))))

    own_by : during ≡ Some (k, Sent many) → (r : ServerStep) (q : ReadStep) → m.file ≡ own_file s.switched → Handles (own_plan plan next s.switched) s.core m.message.msg r
        → AnswersReads (own_plan plan next s.switched) s.viewing m.message.msg r q → out ≡ started_again (mark_delivered g k) n (cut_short many (of_core s r q)) → Glued
    own_by at_message r q same handles reads is =
        server_by laws plan next accepted of some count counted steps g o n s there (Stop (record { 0 = n }) during) out
        (λ p f u i. (r2.state, subst (λ out. IsOwnServer p f u g n s (Stop (record { 0 = n }) during) out r2.state) (sym is) (own p f u i))) (λ h u. aside First u) (λ f h. absurd (nowhere Second g.sent f.second (k - 1) m sent.there (ap (is_file Second) (same ∙ ap own_file h))))
      where
        r2 : GrownStep
        r2 = cut_short many (of_core s r q)

        own : (p : Plan) (f : File) (u : World) → IsOwnWorld laws plan next accepted of some count counted steps g o n s there p f u
            → IsOwnServer p f u g n s (Stop (record { 0 = n }) during) (started_again (mark_delivered g k) n r2) r2.state
        own p f u i =
            own_stopped plan next p f u i.none g i.sent n s there i.here i.keeps i.plan_is i.file_is (Some (place, Sent many)) (filter (λ n. not (n == place)) u.undelivered) gone (core.cut_short many r) (core.cut_reads many r q)
            (happen.recorded place many m.message r q
            (record { some = (omega arith); there = place_at; to = sent.to })
            (subst (λ p. Handles p s.core m.message.msg r) i.plan_is handles) (subst (λ p. AnswersReads p s.viewing m.message.msg r q) i.plan_is reads))
            r2 refl refl refl refl sends refl (λ i w h. inl h) during
          where
            place : ℕ
            place = suc (place_in_file f g.sent (k - 1))

            is_own : is_of f m ≡ true
            is_own = ap (is_file f) (same ∙ i.file_is) ∙ same_file f

            place_at : slice_get u.sent (place - 1) ≡ Some m.message
            place_at = ap (slice_get u.sent) (one_less (place_in_file f g.sent (k - 1))) ∙ placed f g.sent u i.sent (k - 1) m sent.there is_own
              where
                one_less : (i : ℕ) → suc i - 1 ≡ i
                one_less i = omega arith

            sends : AreNoneBetween ((core.cut_short many r).sends ++ (core.cut_reads many r q).sends) → AreSent (slice_set g.servers n r2.state) g.coords s.switched me r2.sends ((core.cut_short many r).sends ++ (core.cut_reads many r q).sends)
            sends none =
                subst (λ l. AreSent (slice_set g.servers n r2.state) g.coords s.switched me l ((core.cut_short many r).sends ++ (core.cut_reads many r q).sends)) (append-nil cut ∙ sym (take_both many r.sends q.sends))
                (are_sent (slice_set g.servers n r2.state) g.coords s.switched me cut [] none (λ o h. absurd h) (λ o h. absurd h))
              where
                cut : List Outgoing
                cut = (core.cut_short many r).sends ++ (core.cut_reads many r q).sends

    recorded_by : during ≡ Some (k, Sent many) → (r : GrownStep) → GrownHandles plan next s m.file m.message.msg r → out ≡ started_again (mark_delivered g k) n (cut_short many r) → Glued
    recorded_by at_message r h is = go m.message.msg refl r h is
      where
        go : (msg : Msg) → m.message.msg ≡ msg → (r : GrownStep) → GrownHandles plan next s m.file msg r → out ≡ started_again (mark_delivered g k) n (cut_short many r) → Glued
        go _ e _ (of_drained upto r ends) is = drained_by upto e r (subst (DrainEnds s upto next) (sym ends) (drain_ends s upto next)) is
        go _ e _ (of_switched upto shard r ends) is = nothing_by gone (cut_short many r) (ap (cut_short many) ends ∙ cut_nothing (foreign_at s) refl refl refl refl refl) is
        go _ e _ (of_other msg r apart other ends) is = nothing_by gone (cut_short many r) (ap (cut_short many) ends ∙ cut_nothing (skip_at s) refl refl refl refl refl) is
        go _ e _ (of_own msg r q r2 apart same handles reads ends) is =
            own_by at_message r q same (subst (λ msg. Handles (own_plan plan next s.switched) s.core msg r) (sym e) handles) (subst (λ msg. AnswersReads (own_plan plan next s.switched) s.viewing msg r q) (sym e) reads)
            (is ∙ ap (λ r. started_again (mark_delivered g k) n (cut_short many r)) ends)

  pub stopped : (before : GrownWorld) (r : GrownStep) → StopsIn plan next g n s during before r → out ≡ started_again before n r → Glued
  stopped before r stops is = go during refl before r stops is
    where
      go : (d : Option (ℕ × Kept)) → during ≡ d → (before : GrownWorld) (r : GrownStep) → StopsIn plan next g n s d before r → out ≡ started_again before n r → Glued
      go d e before r at_rest is = nothing_by g.undelivered (taken_at (restarted s) []) refl is
      go d e before r (unrecorded k m sent) is = nothing_by (filter (λ n. not (n == k)) g.undelivered) (taken_at (restarted s) []) refl is
      go d e before r (recorded k many m r2 sent handles) is = recorded_by k many m sent e r2 handles is
