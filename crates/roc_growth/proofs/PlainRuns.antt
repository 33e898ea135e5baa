-- A run of two files of which the second never comes is a run of one, step by step
use Rattle.std.proofs.Common.{◌≡◌, ◌∙◌, ℕ, ℤ, ◌-◌, ◌<◌, Bool, true, false, List, [], ◌∷◌, ◌++◌, map, Option, Some, None, refl, sym, ap, subst, append-nil}
use Rattle.std.proofs.lemmas.List.{map-append}
use Rattle.std.specs.Prelude.{slice_get, if◌then◌else◌}
use Rattle.roc_base.specs.declared.id.TxnId.{TxnId}
use Rattle.roc_base.specs.declared.node.Node.{Node}
use Rattle.roc_base.specs.declared.node.Node.TheVariants.{Server, Coord}
use Rattle.roc_base.specs.declared.node.Shard.{Shard}
use Rattle.roc_depgraph.specs.declared.known.KnownList.{KnownList}
use Rattle.roc_component.specs.Components.{HaveSameMembers, IsComponentOrderOf}
use Rattle.roc_msg.specs.declared.msg.Envelope.{Envelope}
use Rattle.roc_plan.specs.Groups.{Plan, is_view_of}
use Rattle.roc_step.specs.declared.handled.Handled.{Handled as ServerHandled}
use Rattle.roc_step.specs.declared.handled.Handled.TheVariants as server_answer
use Rattle.roc_step.specs.Reads.{ReadStep}
use Rattle.roc_step.specs.Restarts as core
use Rattle.roc_step.specs.State.{answered, ServerState, ServerStep, Viewing}
use Rattle.roc_step.specs.Step.{tick_sends}
use Rattle.roc_readonly.specs.Round.{first_round}
use Rattle.roc_coord.specs.declared.handled.Handled.{Handled}
use Rattle.roc_coord.specs.declared.handled.Handled.TheVariants as coord_answer
use Rattle.roc_coord.specs.State.{CoordState, CoordStep}
use Rattle.roc_coord.specs.Step.{after_message}
use Rattle.roc_coord.specs.Submit.{Submission, accepted, accepted_view, next_id, new_transaction, after_submit}
use Rattle.roc_coord.specs.Tick as coord_tick
use Rattle.roc_audit.specs.declared.entry.Entry.TheVariants as entry
use Rattle.roc_law_protocol.specs.Happens.{ran_at, server_seen as their_server_seen, coord_seen as their_coord_seen, answer_entries as their_entries, IsSentTo as IsTheirsTo}
use Rattle.roc_law_protocol.specs.declared.event.Event.{Event as TheirEvent}
use Rattle.roc_law_protocol.specs.declared.event.Event.TheVariants as one
use Rattle.roc_law_protocol.specs.declared.event.Seen.TheVariants as seen_there
use Rattle.roc_law_protocol.specs.declared.event.Kept.{Kept}
use Rattle.roc_law_protocol.proofs.SubmissionEnds.{IsAnySubmission, any_submission_is, unknown, miscounted, spent, busy, taken}
use Rattle.roc_law_world.specs.World.{World}
use Rattle.roc_law_world.specs.World as views
use Rattle.roc_law_world.specs.Happens as views_happen
use Rattle.roc_law_world.specs.Run as views_run
use Rattle.roc_two_files.specs.Sealed.{Sealed}
use Rattle.roc_grown.specs.Server.{GrownServerState, GrownStep, GrownHandles, handled_so, of_core, taken_at}
use Rattle.roc_grown.specs.Coord as grown
use Rattle.roc_grown.specs.Coord.{GrownCoordState, after_grown_message}
use Rattle.roc_growth.specs.declared.event.Event.{Event}
use Rattle.roc_growth.specs.declared.event.Event.TheVariants.{Submit, Deliver, Tick, Stop, Drain}
use Rattle.roc_growth.specs.declared.event.Seen.TheVariants as seen
use Rattle.roc_growth.specs.World.{GrownWorld, sends, mark_delivered, at_coord, at_coord_tick}
use Rattle.roc_growth.specs.Happens.{Outcome, undecided, server_seen, coord_seen, answer_entries, IsSubmissionOf, IsReceived, served, coordinated, IsSentTo, cut_short, StopsIn, at_rest, unrecorded, recorded, started_again, IsStopped, Happens}
use Rattle.roc_growth.specs.Run.{Stepped, Transition, IsGrownRun, at_first, steps_on}
use Rattle.roc_growth.specs.Without.{plain_server, plain_coord, sealed_plain, plain_world, same_event, same_seen, plain_step}
use Rattle.roc_growth.proofs.Plainly.{take_both, from_map, servers_from, plain_first, plain_sends, plain_served, plain_coordinated, plainly, of_plain, coord_plainly, tick_plainly}

-- what comes of an event in the world of one file
abbrev pub plain_outcome : views_happen.Outcome → Outcome
plain_outcome o = record { seen = same_seen o.seen; components = o.components; decided = o.decided; ran = o.ran; world = plain_world o.world }

-- ---- what is seen

pub seen_at_server : (answer : ServerHandled) → server_seen (handled_so answer) ≡ same_seen (their_server_seen answer)
seen_at_server server_answer.Done = refl
seen_at_server server_answer.Gone = refl
seen_at_server (server_answer.Ignored why) = refl

pub seen_at_coord : (answer : Handled) → coord_seen (grown.handled_so answer) ≡ same_seen (their_coord_seen answer)
seen_at_coord coord_answer.Done = refl
seen_at_coord (coord_answer.Answered id reply) = refl
seen_at_coord (coord_answer.Ignored why) = refl

pub told_at_coord : (answer : Handled) → answer_entries (grown.handled_so answer) ≡ their_entries answer
told_at_coord coord_answer.Done = refl
told_at_coord (coord_answer.Answered id reply) = refl
told_at_coord (coord_answer.Ignored why) = refl

-- ---- what comes of it

module _ (w : World) where
  outcome_served : (n : ℕ) (s : ServerState) (v : Viewing) (r : ServerStep) (q : ReadStep) → served (plain_world w) n (of_core (plain_server s v) r q) ≡ plain_outcome (views_happen.served w n r q)
  outcome_served n s v r q =
      let what = seen_at_server r.answer in
      let after = plain_served w n s v r q in
      λ i. record { seen = what i; components = r.components; decided = r.decided; ran = map (ran_at n) r.ran; world = after i }

  outcome_coordinated : (plan : Plan) (n : ℕ) (c : CoordState) (r : CoordStep) → coordinated (plain_world w) n (of_plain plan c r) ≡ plain_outcome (views_happen.coordinated w n r)
  outcome_coordinated plan n c r =
      let what = seen_at_coord r.answer in
      let after = ap (at_coord (plain_world w) n (plain_coord r.state) r.sends) (told_at_coord r.answer) ∙ plain_coordinated w n r.state r.sends (their_entries r.answer) in
      λ i. undecided (what i) (after i)

  outcome_restarted : (n : ℕ) (s : ServerState) (v : Viewing) (r : ServerStep) (q : ReadStep) → started_again (plain_world w) n (of_core (plain_server s v) r q) ≡ plain_outcome (views_happen.restarted w n r q)
  outcome_restarted n s v r q =
      let me : Node = Server (record { 0 = n }) in
      let what = seen_at_server r.answer in
      let after = ap (λ (u : GrownWorld). sends u false me (tick_sends r.state)) (plain_served w n s v r q) ∙ plain_sends (views.at_server w n r q) me (tick_sends r.state) in
      λ i. record { seen = what i; components = r.components; decided = r.decided; ran = map (ran_at n) r.ran; world = after i }

-- ---- events

-- the step is one of the world of one file
abbrev pub IsPlainStep : Plan → World → Option Event → Outcome → Type 0
IsPlainStep plan w e o = (x : views_run.Stepped) × views_run.Transition plan w x.event x.outcome × (◌≡◌ {A = Stepped} (record { event = e; outcome = o }) (plain_step x))

module _ (exists : (known : List KnownList) (M : List TxnId) → (xs : List TxnId) × IsComponentOrderOf known M xs)
    (one_order : (known : List KnownList) (M N xs ys : List TxnId) → HaveSameMembers M N → IsComponentOrderOf known M xs → IsComponentOrderOf known N ys → xs ≡ ys) (plan : Plan) (w : World) where
  -- an outcome that is one there
  stepped : (e : TheirEvent) → (p : views_happen.Outcome) → views_happen.Happens plan w e p → (o : Outcome) → o ≡ plain_outcome p → IsPlainStep plan w (Some (same_event e)) o
  stepped e p h o is = (record { event = Some e; outcome = p }, h, ap (λ (o : Outcome). record { event = Some (same_event e); outcome = o }) is)

  submitted : (n proc : ℕ) (args : List ℤ) (o : Outcome) → Happens plan None (plain_world w) (Submit n proc args) o → IsPlainStep plan w (Some (Submit n proc args)) o
  submitted n proc args o (call, s, there, h) = found (from_map plain_coord w.coords n s there)
    where
      found : (c : CoordState) × (slice_get w.coords n ≡ Some c) × (s ≡ plain_coord c) → IsPlainStep plan w (Some (Submit n proc args)) o
      found (c, at, same) = go (after_submit plan c proc args) refl (any_submission_is plan c proc args) (subst (λ (s : GrownCoordState). IsSubmissionOf (plain_world w) n proc args (grown.after_grown_submit plan None s proc args) o) same h)
        where
          grow : (r : Submission) → after_submit plan c proc args ≡ r → (p : views_happen.Outcome) → views_happen.IsSubmissionOf w n proc args r p → o ≡ plain_outcome p → IsPlainStep plan w (Some (Submit n proc args)) o
          grow r e p k is = stepped (one.Submit n proc args) p (c, at, subst (λ (r : Submission). views_happen.IsSubmissionOf w n proc args r p) (sym e) k) o is

          accepts : (b : Bool)
              → IsSubmissionOf (plain_world w) n proc args (grown.submitted_to_core (plain_coord c) (if b then accepted_view plan c (first_round (next_id c) proc args) else accepted plan c (new_transaction c proc args))) o
              → after_submit plan c proc args ≡ (if b then accepted_view plan c (first_round (next_id c) proc args) else accepted plan c (new_transaction c proc args)) → IsPlainStep plan w (Some (Submit n proc args)) o
          accepts true k e =
              let r = accepted_view plan c (first_round (next_id c) proc args) in
              grow r e (views_happen.undecided (seen_there.Submitted (next_id c)) (views.at_coord w n r.state r.sends (entry.Submitted (next_id c) proc args ∷ []))) refl
              (k ∙ ap (undecided (seen.Submitted (next_id c))) (plain_coordinated w n r.state r.sends (entry.Submitted (next_id c) proc args ∷ [])))
          accepts false k e =
              let r = accepted plan c (new_transaction c proc args) in
              grow r e (views_happen.undecided (seen_there.Submitted (next_id c)) (views.at_coord w n r.state r.sends (entry.Submitted (next_id c) proc args ∷ []))) refl
              (k ∙ ap (undecided (seen.Submitted (next_id c))) (plain_coordinated w n r.state r.sends (entry.Submitted (next_id c) proc args ∷ [])))

          go : (r : Submission) → after_submit plan c proc args ≡ r → IsAnySubmission plan c proc args r → IsSubmissionOf (plain_world w) n proc args (grown.submitted_to_core (plain_coord c) r) o
              → IsPlainStep plan w (Some (Submit n proc args)) o
          go r e (unknown none) k = absurd (none call.0)
          go r e (miscounted f) k = absurd k
          go r e (spent known counted l) k = grow r e (views_happen.undecided seen_there.Spent w) refl k
          go r e (busy known counted l m) k = grow r e (views_happen.undecided seen_there.Busy w) refl k
          go r e (taken known counted l m) k = accepts (is_view_of plan proc) k e

  received : (k : ℕ) (m : Envelope) → (some : 0 < k) → slice_get w.sent (k - 1) ≡ Some m → (to : Node) → m.to ≡ to → (o : Outcome)
      → IsReceived plan None (mark_delivered (plain_world w) k) (sealed_plain m).file m.msg to o → IsPlainStep plan w (Some (Deliver k)) o
  received k m some at (Server shard) to o h = found (servers_from w.servers w.viewing shard.0 h.state h.there)
    where
      found : (s : ServerState) × (v : Viewing) × (slice_get w.servers shard.0 ≡ Some s) × (slice_get w.viewing shard.0 ≡ Some v) × (h.state ≡ plain_server s v) → IsPlainStep plan w (Some (Deliver k)) o
      found (s, v, there, keeps, same) =
          let p = plainly exists one_order plan s v m.msg h.step (subst (λ (g : GrownServerState). GrownHandles plan None g (sealed_plain m).file m.msg h.step) same h.handles) in
          let u = views.mark_delivered w k in
          let q = views_happen.served u shard.0 p.step p.reads in
          stepped (one.Deliver k) q
          (m, some, at, subst (λ to. views_happen.IsReceived plan u m.msg to q) (sym to) (record { state = s; there = there; viewing = v; keeps = keeps; step = p.step; handles = p.handles; reads = p.reads; answers = p.answers; is = refl })) o
          (h.is ∙ (ap (served (plain_world u) shard.0) p.is ∙ outcome_served u shard.0 s v p.step p.reads))
  received k m some at (Coord n) to o (s, there, is) = found (from_map plain_coord w.coords n s there)
    where
      found : (c : CoordState) × (slice_get w.coords n ≡ Some c) × (s ≡ plain_coord c) → IsPlainStep plan w (Some (Deliver k)) o
      found (c, here, same) =
          let u = views.mark_delivered w k in
          let q = views_happen.coordinated u n (after_message plan c m.msg) in
          stepped (one.Deliver k) q (m, some, at, subst (λ to. views_happen.IsReceived plan u m.msg to q) (sym to) (c, here, refl)) o
          (is
          ∙ (ap (λ (s : GrownCoordState). coordinated (plain_world u) n (after_grown_message plan None s (sealed_plain m).file m.msg)) same
          ∙ (ap (coordinated (plain_world u) n) (coord_plainly plan c m.msg) ∙ outcome_coordinated u plan n c (after_message plan c m.msg))))

  -- ---- a stop

  -- the message at which the server stops
  sent_to : (k n : ℕ) (m : Sealed) → IsSentTo (map sealed_plain w.sent) k n m → (e : Envelope) × IsTheirsTo w.sent k n e × (m ≡ sealed_plain e)
  sent_to k n m h = go (from_map sealed_plain w.sent (k - 1) m h.there)
    where
      go : (e : Envelope) × (slice_get w.sent (k - 1) ≡ Some e) × (m ≡ sealed_plain e) → (e : Envelope) × IsTheirsTo w.sent k n e × (m ≡ sealed_plain e)
      go (e, at, is) = (e, record { some = h.some; there = at; to = subst (λ (m : Sealed). m.message.to ≡ Server (record { 0 = n })) is h.to }, is)

  cut_plainly : (s : ServerState) (v : Viewing) (many : ℕ) (r : ServerStep) (q : ReadStep) → cut_short many (of_core (plain_server s v) r q) ≡ of_core (plain_server s v) (core.cut_short many r) (core.cut_reads many r q)
  cut_plainly s v many r q = ap (λ outs. record (cut_short many (of_core (plain_server s v) r q)) { sends = outs }) (take_both many r.sends q.sends)

  -- the world in which it stops, and what came of the message there
  record IsPlainStop (n : ℕ) (s : ServerState) (v : Viewing) (during : Option (ℕ × Kept)) (before : GrownWorld) (step : GrownStep) : Type 0 where
    before_there : World
    same : before ≡ plain_world before_there
    step_there : ServerStep
    reads : ReadStep
    stops : views_happen.StopsIn plan w n s v during before_there step_there reads
    is : step ≡ of_core (plain_server s v) step_there reads

  stops_plainly : (n : ℕ) (s : ServerState) (v : Viewing) (during : Option (ℕ × Kept)) (before : GrownWorld) (step : GrownStep)
      → StopsIn plan None (plain_world w) n (plain_server s v) during before step → IsPlainStop n s v during before step
  stops_plainly n s v during before step at_rest = record { before_there = w; same = refl; step_there = answered s []; reads = views_happen.no_reads v; stops = views_happen.at_rest; is = refl }
  stops_plainly n s v during before step (unrecorded k m sent) =
      let e = sent_to k n m sent in
      record { before_there = views.mark_delivered w k; same = refl; step_there = answered s []; reads = views_happen.no_reads v; stops = views_happen.unrecorded k e.0 e.1; is = refl }
  stops_plainly n s v during before step (recorded k many m g sent handles) =
      let e = sent_to k n m sent in
      let p = plainly exists one_order plan s v e.0.msg g (subst (λ (m : Sealed). GrownHandles plan None (plain_server s v) m.file m.message.msg g) e.2 handles) in
      record {
        before_there = views.mark_delivered w k;
        same = refl;
        step_there = core.cut_short many p.step;
        reads = core.cut_reads many p.step p.reads;
        stops = views_happen.recorded k many e.0 p.step p.reads e.1 p.handles p.answers;
        is = ap (cut_short many) p.is ∙ cut_plainly s v many p.step p.reads;
      }

  stopped : (shard : Shard) (during : Option (ℕ × Kept)) (o : Outcome) → IsStopped plan None (plain_world w) shard.0 during o → IsPlainStep plan w (Some (Stop shard during)) o
  stopped shard during o x = found (servers_from w.servers w.viewing shard.0 x.state x.there)
    where
      found : (s : ServerState) × (v : Viewing) × (slice_get w.servers shard.0 ≡ Some s) × (slice_get w.viewing shard.0 ≡ Some v) × (x.state ≡ plain_server s v) → IsPlainStep plan w (Some (Stop shard during)) o
      found (s, v, there, keeps, same) =
          let p = stops_plainly shard.0 s v during x.before x.step (subst (λ (g : GrownServerState). StopsIn plan None (plain_world w) shard.0 g during x.before x.step) same x.stops) in
          stepped (one.Stop shard during) (views_happen.restarted p.before_there shard.0 p.step_there p.reads)
          (record { state = s; there = there; viewing = v; keeps = keeps; before = p.before_there; step = p.step_there; reads = p.reads; stops = p.stops; is = refl }) o
          (x.is ∙ ((λ i. started_again (p.same i) shard.0 (p.is i)) ∙ outcome_restarted p.before_there shard.0 s v p.step_there p.reads))

  -- ---- any event

  happens_plainly : (e : Event) (o : Outcome) → Happens plan None (plain_world w) e o → IsPlainStep plan w (Some e) o
  happens_plainly (Submit n proc args) o h = submitted n proc args o h
  happens_plainly (Deliver k) o (m, some, there, h) = go (from_map sealed_plain w.sent (k - 1) m there)
    where
      go : (e : Envelope) × (slice_get w.sent (k - 1) ≡ Some e) × (m ≡ sealed_plain e) → IsPlainStep plan w (Some (Deliver k)) o
      go (e, at, same) = received k e some at e.to refl o (subst (λ (m : Sealed). IsReceived plan None (mark_delivered (plain_world w) k) m.file m.message.msg m.message.to o) same h)
  happens_plainly (Tick (Server shard)) o (g, there, is) = found (servers_from w.servers w.viewing shard.0 g there)
    where
      found : (s : ServerState) × (v : Viewing) × (slice_get w.servers shard.0 ≡ Some s) × (slice_get w.viewing shard.0 ≡ Some v) × (g ≡ plain_server s v) → IsPlainStep plan w (Some (Tick (Server shard))) o
      found (s, v, here, keeps, same) =
          let q : ReadStep = record { viewing = v; sends = [] } in
          let r = answered s (tick_sends s) in
          stepped (one.Tick (Server shard)) (views_happen.served w shard.0 r q) (s, v, here, keeps, refl) o
          (is
          ∙ (ap (λ (g : GrownServerState). served (plain_world w) shard.0 (taken_at g (tick_sends g.core))) same
          ∙ (ap (λ outs. served (plain_world w) shard.0 (taken_at (plain_server s v) outs)) (sym (append-nil (tick_sends s))) ∙ outcome_served w shard.0 s v r q)))
  happens_plainly (Tick (Coord n)) o (s, there, is) = found (from_map plain_coord w.coords n s there)
    where
      found : (c : CoordState) × (slice_get w.coords n ≡ Some c) × (s ≡ plain_coord c) → IsPlainStep plan w (Some (Tick (Coord n))) o
      found (c, here, same) =
          stepped (one.Tick (Coord n)) (views_happen.undecided seen_there.Done (views.at_coord_tick w n (coord_tick.tick_sends plan c))) (c, here, refl) o
          (is
          ∙ (ap (λ (s : GrownCoordState). undecided seen.Done (at_coord_tick (plain_world w) n s (grown.grown_tick_sends plan None s))) same
          ∙ (ap (λ outs. undecided seen.Done (at_coord_tick (plain_world w) n (plain_coord c) outs)) (tick_plainly plan c) ∙ ap (undecided seen.Done) (plain_sends w (Coord n) (coord_tick.tick_sends plan c)))))
  happens_plainly (Stop shard during) o x = stopped shard during o x
  happens_plainly (Drain n) o h = absurd h.0

  pub steps_plainly : (e : Option Event) (o : Outcome) → Transition plan None (plain_world w) e o → IsPlainStep plan w e o
  steps_plainly None o h = (record { event = None; outcome = views_happen.undecided seen_there.Done w }, refl, ap (λ (o : Outcome). record { event = None; outcome = o }) h)
  steps_plainly (Some e) o h = happens_plainly e o h

-- ---- runs

module _ (exists : (known : List KnownList) (M : List TxnId) → (xs : List TxnId) × IsComponentOrderOf known M xs)
    (one_order : (known : List KnownList) (M N xs ys : List TxnId) → HaveSameMembers M N → IsComponentOrderOf known M xs → IsComponentOrderOf known N ys → xs ≡ ys) (plan : Plan) (coords : ℕ) where
  pub runs_plainly : (steps : List Stepped) (w : GrownWorld) → IsGrownRun plan None coords steps w
      → (others : List views_run.Stepped) × (v : World) × views_run.IsRun plan coords others v × (steps ≡ map plain_step others) × (w ≡ plain_world v)
  runs_plainly _ _ (at_first c) = ([], views.first_world plan coords, views_run.at_beginning, refl, plain_first plan coords)
  runs_plainly _ _ (steps_on {steps = steps} {w = w} e o run h) = go (runs_plainly steps w run)
    where
      go : (others : List views_run.Stepped) × (v : World) × views_run.IsRun plan coords others v × (steps ≡ map plain_step others) × (w ≡ plain_world v)
          → (others : List views_run.Stepped) × (v : World) × views_run.IsRun plan coords others v × (steps ++ (record { event = e; outcome = o }) ∷ [] ≡ map plain_step others) × (o.world ≡ plain_world v)
      go (others, v, there, same, is) =
          let x = steps_plainly exists one_order plan v e o (subst (λ (w : GrownWorld). Transition plan None w e o) is h) in (
            others ++ x.0 ∷ [],
            x.0.outcome.world,
            views_run.steps_on x.0.event x.0.outcome there x.1,
            (λ i. same i ++ x.2 i ∷ []) ∙ sym (map-append plain_step others (x.0 ∷ [])),
            ap (λ (x : Stepped). x.outcome.world) x.2,
          )
