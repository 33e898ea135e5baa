-- What comes of an event is one, and so is the run of a list of events
use Rattle.std.proofs.Common.{◌≡◌, ℕ, ℤ, ◌-◌, List, [], ◌∷◌, ◌++◌, map, Some, None, Option, Result, Ok, Err, refl, sym, ap, subst, ◌∙◌}
use Rattle.std.proofs.lemmas.List.{map-append}
use Rattle.roc_sequence.proofs.Members.{same_there}
use Rattle.roc_sequence.proofs.Appended.{empty_more, same_more}
use Rattle.roc_base.specs.declared.id.TxnId.{TxnId}
use Rattle.roc_base.specs.declared.node.Node.{Node}
use Rattle.roc_base.specs.declared.node.Node.TheVariants.{Server, Coord}
use Rattle.roc_msg.specs.declared.msg.Msg.{Msg}
use Rattle.roc_msg.specs.declared.msg.Envelope.{Envelope}
use Rattle.roc_msg.specs.declared.outbox.Outgoing.{Outgoing}
use Rattle.roc_plan.specs.Groups.{Plan}
use Rattle.roc_step.specs.Reads.{AnswersReads, ReadStep}
use Rattle.roc_step.specs.State.{answered, ServerState, ServerStep, Viewing}
use Rattle.roc_step.specs.Step as server
use Rattle.roc_step.specs.Step.{Handles}
use Rattle.roc_coord.specs.declared.handled.SubmitFault.{SubmitFault}
use Rattle.roc_coord.specs.declared.handled.SubmitFault.TheVariants as fault
use Rattle.roc_coord.specs.State.{CoordState}
use Rattle.roc_coord.specs.Step.{after_message}
use Rattle.roc_coord.specs.Submit.{after_submit}
use Rattle.roc_coord.specs.Tick as coord
use Rattle.roc_law_protocol.specs.declared.event.Event.{Event}
use Rattle.roc_law_protocol.specs.declared.event.Event.TheVariants.{Submit, Deliver, Tick, Stop}
use Rattle.roc_law_protocol.specs.declared.event.Seen.TheVariants as seen
use Rattle.roc_law_world.specs.World.{World, Beginning, mark_delivered, at_coord_tick}
use Rattle.roc_law_world.specs.Happens.{Outcome, undecided, Submits, IsSubmissionOf, served, coordinated, IsServed, IsReceived, Ticks, Happens, IsStopped, restarted}
use Rattle.roc_law_world.specs.Run.{Stepped, Transition, IsRunFrom, at_beginning, steps_on}
use Rattle.roc_law_world.proofs.Stops.{Stopped, stopped_by}
use Rattle.roc_step.specs.Restarts.{cut_short, cut_reads}
use Rattle.roc_law_protocol.specs.declared.event.Kept.{Kept}
use Rattle.roc_law_protocol.specs.declared.event.Kept.TheVariants.{Lost, Sent}

module _ (plan : Plan) (one : (s : ServerState) (msg : Msg) (r other : ServerStep) → Handles plan s msg r → Handles plan s msg other → r ≡ other)
    (one_read : (v : Viewing) (msg : Msg) (r : ServerStep) (q other : ReadStep) → AnswersReads plan v msg r q → AnswersReads plan v msg r other → q ≡ other) where
  module _ (w : World) where
    one_submission :
        (n proc : ℕ) (args : List ℤ) (after : CoordState) (outs : List Outgoing) (answer : Result TxnId SubmitFault) (o other : Outcome)
        → Submits w n proc args after outs answer o → Submits w n proc args after outs answer other → o ≡ other
    one_submission n proc args after outs (Ok id) o other h k = h ∙ sym k
    one_submission n proc args after outs (Err fault.Spent) o other h k = h ∙ sym k
    one_submission n proc args after outs (Err fault.Busy) o other h k = h ∙ sym k
    one_submission n proc args after outs (Err fault.NoProc) o other h k = absurd h
    one_submission n proc args after outs (Err fault.Args) o other h k = absurd h
    one_submission n proc args after outs (Err fault.NoMemory) o other h k = absurd h

    one_served : (msg : Msg) (n : ℕ) (o other : Outcome) → IsServed plan w msg n o → IsServed plan w msg n other → o ≡ other
    one_served msg n o other a b =
        let state : a.state ≡ b.state = same_there w.servers n a.state b.state a.there b.there in
        let viewing : a.viewing ≡ b.viewing = same_there w.viewing n a.viewing b.viewing a.keeps b.keeps in
        let step : a.step ≡ b.step = one b.state msg a.step b.step (subst (λ (s : ServerState). Handles plan s msg a.step) state a.handles) b.handles in
        let moved : AnswersReads plan b.viewing msg b.step a.reads =
        subst (λ (r : ServerStep). AnswersReads plan b.viewing msg r a.reads) step (subst (λ (v : Viewing). AnswersReads plan v msg a.step a.reads) viewing a.answers) in
        let reads : a.reads ≡ b.reads = one_read b.viewing msg b.step a.reads b.reads moved b.answers in
        a.is ∙ (ap (λ (r : ServerStep). served w n r a.reads) step ∙ (ap (λ (q : ReadStep). served w n b.step q) reads ∙ sym b.is))

    one_delivery : (msg : Msg) (to : Node) (o other : Outcome) → IsReceived plan w msg to o → IsReceived plan w msg to other → o ≡ other
    one_delivery msg (Server shard) o other h k = one_served msg shard.0 o other h k
    one_delivery msg (Coord n) o other (s, there, is) (t, there2, is2) =
        let same : s ≡ t = same_there w.coords n s t there there2 in
        is ∙ (ap (λ (u : CoordState). coordinated w n (after_message plan u msg)) same ∙ sym is2)

    one_tick : (node : Node) (o other : Outcome) → Ticks plan w node o → Ticks plan w node other → o ≡ other
    one_tick (Server shard) o other (s, v, there, keeps, is) (t, x, there2, keeps2, is2) =
        let same : s ≡ t = same_there w.servers shard.0 s t there there2 in
        let kept : v ≡ x = same_there w.viewing shard.0 v x keeps keeps2 in
        is
        ∙ (ap (λ (u : ServerState). served w shard.0 (answered u (server.tick_sends u)) (record { viewing = v; sends = [] })) same
        ∙ (ap (λ (y : Viewing). served w shard.0 (answered t (server.tick_sends t)) (record { viewing = y; sends = [] })) kept ∙ sym is2))
    one_tick (Coord n) o other (s, there, is) (t, there2, is2) =
        let same : s ≡ t = same_there w.coords n s t there there2 in
        is ∙ (ap (λ (u : CoordState). undecided seen.Done (at_coord_tick w n (coord.tick_sends plan u))) same ∙ sym is2)

    one_stop : (n : ℕ) (during : Option (ℕ × Kept)) (o other : Outcome) → IsStopped plan w n during o → IsStopped plan w n during other → o ≡ other
    one_stop n during o other x y =
        let state : x.state ≡ y.state = same_there w.servers n x.state y.state x.there y.there in
        let viewing : x.viewing ≡ y.viewing = same_there w.viewing n x.viewing y.viewing x.keeps y.keeps in
        let mine = subst (λ v. Stopped plan w n y.state v during x.before x.step x.reads) viewing (subst (λ s. Stopped plan w n s x.viewing during x.before x.step x.reads) state (stopped_by plan w n x.state x.viewing during x.before x.step x.reads x.stops)) in
        let ends = go during mine (stopped_by plan w n y.state y.viewing during y.before y.step y.reads y.stops) in
        x.is ∙ ((λ i. restarted (ends.0 i) n (ends.1 i) (ends.2 i)) ∙ sym y.is)
      where
        go : (during : Option (ℕ × Kept)) → Stopped plan w n y.state y.viewing during x.before x.step x.reads → Stopped plan w n y.state y.viewing during y.before y.step y.reads
            → (x.before ≡ y.before) × (x.step ≡ y.step) × (x.reads ≡ y.reads)
        go None a b = (a.0 ∙ sym b.0, a.1 ∙ sym b.1, a.2 ∙ sym b.2)
        go (Some (k, Lost)) a b = (a.0 ∙ sym b.0, a.1 ∙ sym b.1, a.2 ∙ sym b.2)
        go (Some (k, Sent many)) (m, r, q, sent, handles, answers, before, step, reads) (m2, r2, q2, sent2, handles2, answers2, before2, step2, reads2) =
            let message : m ≡ m2 = same_there w.sent (k - 1) m m2 sent.there sent2.there in
            let steps : r ≡ r2 = one y.state m2.msg r r2 (subst (λ (m : Envelope). Handles plan y.state m.msg r) message handles) handles2 in
            let moved : AnswersReads plan y.viewing m2.msg r2 q =
            subst (λ (r : ServerStep). AnswersReads plan y.viewing m2.msg r q) steps (subst (λ (m : Envelope). AnswersReads plan y.viewing m.msg r q) message answers) in
            let read : q ≡ q2 = one_read y.viewing m2.msg r2 q q2 moved answers2 in
            (before ∙ sym before2, step ∙ (ap (cut_short many) steps ∙ sym step2), reads ∙ ((λ i. cut_reads many (steps i) (read i)) ∙ sym reads2))

  pub one_event : (w : World) (e : Event) (o other : Outcome) → Happens plan w e o → Happens plan w e other → o ≡ other
  one_event w (Submit n proc args) o other (s, there, h) (t, there2, k) =
      let same : s ≡ t = same_there w.coords n s t there there2 in
      one_submission w n proc args (after_submit plan t proc args).state (after_submit plan t proc args).sends (after_submit plan t proc args).answer o other
      (subst (λ (u : CoordState). IsSubmissionOf w n proc args (after_submit plan u proc args) o) same h) k
  one_event w (Deliver k) o other (m, some, there, c) (n, some2, there2, d) =
      let same : m ≡ n = same_there w.sent (k - 1) m n there there2 in
      one_delivery (mark_delivered w k) n.msg n.to o other (subst (λ (x : Envelope). IsReceived plan (mark_delivered w k) x.msg x.to o) same c) d
  one_event w (Tick node) o other h k = one_tick w node o other h k
  one_event w (Stop shard during) o other h k = one_stop w shard.0 during o other h k

  pub one_step : (w : World) (e : Option Event) (o other : Outcome) → Transition plan w e o → Transition plan w e other → o ≡ other
  one_step w None o other h k = h ∙ sym k
  one_step w (Some e) o other h k = one_event w e o other h k

  -- ---- runs

  abbrev events : List Stepped → List (Option Event)
  events steps = map (λ s. s.event) steps

  module _ (b : Beginning) (coords : ℕ) where
    pub one_run : {steps others : List Stepped} {w v : World} → IsRunFrom plan b coords steps w → IsRunFrom plan b coords others v → events steps ≡ events others → (steps ≡ others) × (w ≡ v)
    one_run at_beginning at_beginning e = (refl, refl)
    one_run at_beginning (steps_on {steps = ys} f p q h) e = absurd (empty_more (events ys) f (e ∙ map-append (λ (s : Stepped). s.event) ys (record { event = f; outcome = p } ∷ [])))
    one_run (steps_on {steps = xs} d o r h) at_beginning e = absurd (empty_more (events xs) d (sym e ∙ map-append (λ (s : Stepped). s.event) xs (record { event = d; outcome = o } ∷ [])))
    one_run (steps_on {steps = xs} {w = w} d o r h) (steps_on {steps = ys} {w = v} f p q k) e =
        let ends =
        same_more (events xs) (events ys) d f
        (sym (map-append (λ (s : Stepped). s.event) xs (record { event = d; outcome = o } ∷ [])) ∙ e ∙ map-append (λ (s : Stepped). s.event) ys (record { event = f; outcome = p } ∷ [])) in
        go (one_run r q ends.0) ends.1
      where
        go : (xs ≡ ys) × (w ≡ v) → d ≡ f → (xs ++ (record { event = d; outcome = o }) ∷ [] ≡ ys ++ (record { event = f; outcome = p }) ∷ []) × (o.world ≡ p.world)
        go front same =
            let P : World → Option Event → Type 0 = λ u x. Transition plan u x o in
            let moved : Transition plan v f o = subst (P v) same (subst (λ (u : World). P u d) front.1 h) in
            let out : o ≡ p = one_step v f o p moved k in
            let more : List Stepped → Option Event → Outcome → List Stepped = λ zs x y. zs ++ (record { event = x; outcome = y }) ∷ [] in
            ((λ i. more (front.0 i) (same i) (out i)), ap (λ (y : Outcome). y.world) out)
