-- What comes of an event is one, and so is the run of a list of events
use Rattle.std.proofs.Common.{◌≡◌, ◌∙◌, ℕ, ℤ, ◌-◌, List, [], ◌∷◌, ◌++◌, map, Some, None, Option, Result, Ok, Err, refl, sym, ap, subst}
use Rattle.std.proofs.lemmas.Bool.{false≢true}
use Rattle.std.proofs.lemmas.List.{map-append}
use Rattle.roc_sequence.proofs.Members.{same_there}
use Rattle.roc_sequence.proofs.Appended.{empty_more, same_more}
use Rattle.roc_base.specs.declared.id.TxnId.{TxnId}
use Rattle.roc_base.specs.declared.node.Node.{Node}
use Rattle.roc_base.specs.declared.node.Node.TheVariants.{Server, Coord}
use Rattle.roc_msg.specs.declared.msg.Msg.{Msg}
use Rattle.roc_msg.specs.declared.outbox.Outgoing.{Outgoing}
use Rattle.roc_plan.specs.Groups.{Plan}
use Rattle.roc_step.specs.Reads.{AnswersReads, ReadStep}
use Rattle.roc_step.specs.State.{ServerState, ServerStep, Viewing}
use Rattle.roc_step.specs.Step.{Handles}
use Rattle.roc_coord.specs.declared.handled.SubmitFault.TheVariants as fault
use Rattle.roc_law_protocol.specs.declared.event.Kept.{Kept}
use Rattle.roc_law_protocol.specs.declared.event.Kept.TheVariants.{Lost, Sent}
use Rattle.roc_epoch.specs.declared.file.File.{File}
use Rattle.roc_epoch.specs.declared.next.Next.{Next}
use Rattle.roc_epoch.specs.Files.{own_plan}
use Rattle.roc_two_files.specs.Sealed.{Sealed}
use Rattle.roc_grown.specs.declared.handled.GrownFault.{GrownFault}
use Rattle.roc_grown.specs.declared.handled.GrownFault.TheVariants.{Draining, Plain}
use Rattle.roc_grown.specs.Server.{GrownServerState, GrownStep, GrownHandles, of_drained, of_switched, of_other, of_own, of_core, taken_at, restarted, grown_server_tick}
use Rattle.roc_grown.specs.Coord.{GrownCoordState, after_drain, after_grown_submit, after_grown_message, grown_tick_sends}
use Rattle.roc_growth.specs.declared.event.Event.{Event}
use Rattle.roc_growth.specs.declared.event.Event.TheVariants.{Submit, Deliver, Tick, Stop, Drain}
use Rattle.roc_growth.specs.declared.event.Seen.TheVariants as seen
use Rattle.roc_growth.specs.World.{GrownWorld, mark_delivered, at_coord, at_coord_tick}
use Rattle.roc_growth.specs.Happens.{Outcome, undecided, Submits, IsSubmissionOf, served, coordinated, IsServed, IsReceived, Ticks, IsSentTo, cut_short, StopsIn, at_rest, unrecorded, recorded, started_again, IsStopped, Happens}
use Rattle.roc_growth.specs.Run.{Stepped, Transition, IsGrownRun, at_first, steps_on}

module _ (one : (plan : Plan) (s : ServerState) (msg : Msg) (r other : ServerStep) → Handles plan s msg r → Handles plan s msg other → r ≡ other)
    (one_read : (plan : Plan) (v : Viewing) (msg : Msg) (r : ServerStep) (q other : ReadStep) → AnswersReads plan v msg r q → AnswersReads plan v msg r other → q ≡ other)
    (plan : Plan) (next : Option Next) where
  -- ---- a server's step

  one_handled : (s : GrownServerState) (file : File) (msg : Msg) (g h : GrownStep) → GrownHandles plan next s file msg g → GrownHandles plan next s file msg h → g ≡ h
  one_handled s file _ _ _ (of_drained upto g a) (of_drained upto2 h b) = a ∙ sym b
  one_handled s file _ _ _ (of_drained upto g a) (of_other msg2 h between2 other2 b) = absurd (false≢true (sym between2))
  one_handled s file _ _ _ (of_drained upto g a) (of_own msg2 r2 q2 h between2 own2 handles2 answers2 b) = absurd (false≢true (sym between2))
  one_handled s file _ _ _ (of_switched upto shard g a) (of_switched upto2 shard2 h b) = a ∙ sym b
  one_handled s file _ _ _ (of_switched upto shard g a) (of_other msg2 h between2 other2 b) = absurd (false≢true (sym between2))
  one_handled s file _ _ _ (of_switched upto shard g a) (of_own msg2 r2 q2 h between2 own2 handles2 answers2 b) = absurd (false≢true (sym between2))
  one_handled s file _ _ _ (of_other msg g between other a) (of_drained upto2 h b) = absurd (false≢true (sym between))
  one_handled s file _ _ _ (of_other msg g between other a) (of_switched upto2 shard2 h b) = absurd (false≢true (sym between))
  one_handled s file _ _ _ (of_other msg g between other a) (of_other msg2 h between2 other2 b) = a ∙ sym b
  one_handled s file _ _ _ (of_other msg g between other a) (of_own msg2 r q h between2 own handles answers b) = absurd (other own)
  one_handled s file _ _ _ (of_own msg r q g between own handles answers a) (of_drained upto2 h b) = absurd (false≢true (sym between))
  one_handled s file _ _ _ (of_own msg r q g between own handles answers a) (of_switched upto2 shard2 h b) = absurd (false≢true (sym between))
  one_handled s file _ _ _ (of_own msg r q g between own handles answers a) (of_other msg2 h between2 other b) = absurd (other own)
  one_handled s file _ _ _ (of_own msg r q g between own handles answers a) (of_own msg2 r2 q2 h between2 own2 handles2 answers2 b) =
      let p : Plan = own_plan plan next s.switched in
      let steps : r ≡ r2 = one p s.core msg r r2 handles handles2 in
      let reads : q ≡ q2 = one_read p s.viewing msg r2 q q2 (subst (λ (r : ServerStep). AnswersReads p s.viewing msg r q) steps answers) answers2 in
      a ∙ ((λ i. of_core s (steps i) (reads i)) ∙ sym b)

  -- ---- an event

  module _ (w : GrownWorld) where
    one_submission : (n proc : ℕ) (args : List ℤ) (after : GrownCoordState) (outs : List Outgoing) (answer : Result TxnId GrownFault) (o other : Outcome)
        → Submits w n proc args after outs answer o → Submits w n proc args after outs answer other → o ≡ other
    one_submission n proc args after outs (Ok id) o other h k = h ∙ sym k
    one_submission n proc args after outs (Err Draining) o other h k = h ∙ sym k
    one_submission n proc args after outs (Err (Plain fault.NoProc)) o other h k = h ∙ sym k
    one_submission n proc args after outs (Err (Plain fault.Spent)) o other h k = h ∙ sym k
    one_submission n proc args after outs (Err (Plain fault.Busy)) o other h k = h ∙ sym k
    one_submission n proc args after outs (Err (Plain fault.Args)) o other h k = absurd h
    one_submission n proc args after outs (Err (Plain fault.NoMemory)) o other h k = absurd h

    one_served : (file : File) (msg : Msg) (n : ℕ) (o other : Outcome) → IsServed plan next w file msg n o → IsServed plan next w file msg n other → o ≡ other
    one_served file msg n o other a b =
        let state : a.state ≡ b.state = same_there w.servers n a.state b.state a.there b.there in
        let step : a.step ≡ b.step = one_handled b.state file msg a.step b.step (subst (λ (s : GrownServerState). GrownHandles plan next s file msg a.step) state a.handles) b.handles in
        a.is ∙ (ap (λ (r : GrownStep). served w n r) step ∙ sym b.is)

    one_delivery : (file : File) (msg : Msg) (to : Node) (o other : Outcome) → IsReceived plan next w file msg to o → IsReceived plan next w file msg to other → o ≡ other
    one_delivery file msg (Server shard) o other h k = one_served file msg shard.0 o other h k
    one_delivery file msg (Coord n) o other (s, there, is) (t, there2, is2) =
        let same : s ≡ t = same_there w.coords n s t there there2 in
        is ∙ (ap (λ (u : GrownCoordState). coordinated w n (after_grown_message plan next u file msg)) same ∙ sym is2)

    one_tick : (node : Node) (o other : Outcome) → Ticks plan next w node o → Ticks plan next w node other → o ≡ other
    one_tick (Server shard) o other (s, there, is) (t, there2, is2) =
        let same : s ≡ t = same_there w.servers shard.0 s t there there2 in
        is ∙ (ap (λ (u : GrownServerState). served w shard.0 (taken_at u (grown_server_tick u))) same ∙ sym is2)
    one_tick (Coord n) o other (s, there, is) (t, there2, is2) =
        let same : s ≡ t = same_there w.coords n s t there there2 in
        is ∙ (ap (λ (u : GrownCoordState). undecided seen.Done (at_coord_tick w n u (grown_tick_sends plan next u))) same ∙ sym is2)

    -- what a stop is, by what is kept of a message
    abbrev Stopped : (n : ℕ) → GrownServerState → Option (ℕ × Kept) → GrownWorld → GrownStep → Type 0
    Stopped n s None before step = (before ≡ w) × (step ≡ taken_at (restarted s) [])
    Stopped n s (Some (k, Lost)) before step = (before ≡ mark_delivered w k) × (step ≡ taken_at (restarted s) [])
    Stopped n s (Some (k, Sent many)) before step =
        (m : Sealed) × (g : GrownStep) × IsSentTo w.sent k n m × GrownHandles plan next s m.file m.message.msg g × (before ≡ mark_delivered w k) × (step ≡ cut_short many g)

    stopped_by : (n : ℕ) (s : GrownServerState) (during : Option (ℕ × Kept)) (before : GrownWorld) (step : GrownStep) → StopsIn plan next w n s during before step → Stopped n s during before step
    stopped_by n s during before step at_rest = (refl, refl)
    stopped_by n s during before step (unrecorded k m sent) = (refl, refl)
    stopped_by n s during before step (recorded k many m g sent handles) = (m, g, sent, handles, refl, refl)

    one_stop : (n : ℕ) (during : Option (ℕ × Kept)) (o other : Outcome) → IsStopped plan next w n during o → IsStopped plan next w n during other → o ≡ other
    one_stop n during o other x y =
        let state : x.state ≡ y.state = same_there w.servers n x.state y.state x.there y.there in
        let mine = subst (λ s. Stopped n s during x.before x.step) state (stopped_by n x.state during x.before x.step x.stops) in
        let ends = go during mine (stopped_by n y.state during y.before y.step y.stops) in
        x.is ∙ ((λ i. started_again (ends.0 i) n (ends.1 i)) ∙ sym y.is)
      where
        go : (during : Option (ℕ × Kept)) → Stopped n y.state during x.before x.step → Stopped n y.state during y.before y.step → (x.before ≡ y.before) × (x.step ≡ y.step)
        go None a b = (a.0 ∙ sym b.0, a.1 ∙ sym b.1)
        go (Some (k, Lost)) a b = (a.0 ∙ sym b.0, a.1 ∙ sym b.1)
        go (Some (k, Sent many)) (m, g, sent, handles, before, step) (m2, g2, sent2, handles2, before2, step2) =
            let message : m ≡ m2 = same_there w.sent (k - 1) m m2 sent.there sent2.there in
            let steps : g ≡ g2 = one_handled y.state m2.file m2.message.msg g g2 (subst (λ (m : Sealed). GrownHandles plan next y.state m.file m.message.msg g) message handles) handles2 in
            (before ∙ sym before2, step ∙ (ap (cut_short many) steps ∙ sym step2))

  pub one_event : (w : GrownWorld) (e : Event) (o other : Outcome) → Happens plan next w e o → Happens plan next w e other → o ≡ other
  one_event w (Submit n proc args) o other (call, s, there, h) (call2, t, there2, k) =
      let same : s ≡ t = same_there w.coords n s t there there2 in
      let r = after_grown_submit plan next t proc args in
      one_submission w n proc args r.state r.sends r.answer o other (subst (λ (u : GrownCoordState). IsSubmissionOf w n proc args (after_grown_submit plan next u proc args) o) same h) k
  one_event w (Deliver k) o other (m, some, there, c) (n, some2, there2, d) =
      let same : m ≡ n = same_there w.sent (k - 1) m n there there2 in
      one_delivery (mark_delivered w k) n.file n.message.msg n.message.to o other
      (subst (λ (x : Sealed). IsReceived plan next (mark_delivered w k) x.file x.message.msg x.message.to o) same c) d
  one_event w (Tick node) o other h k = one_tick w node o other h k
  one_event w (Stop shard during) o other h k = one_stop w shard.0 during o other h k
  one_event w (Drain n) o other (some, s, there, is) (some2, t, there2, is2) =
      let same : s ≡ t = same_there w.coords n s t there there2 in
      is ∙ (ap (λ (u : GrownCoordState). undecided seen.Done (at_coord w n (after_drain plan u).state (after_drain plan u).sends [])) same ∙ sym is2)

  pub one_step : (w : GrownWorld) (e : Option Event) (o other : Outcome) → Transition plan next w e o → Transition plan next w e other → o ≡ other
  one_step w None o other h k = h ∙ sym k
  one_step w (Some e) o other h k = one_event w e o other h k

  -- ---- runs

  abbrev events : List Stepped → List (Option Event)
  events steps = map (λ s. s.event) steps

  module _ (coords : ℕ) where
    pub one_run : {steps others : List Stepped} {w v : GrownWorld} → IsGrownRun plan next coords steps w → IsGrownRun plan next coords others v → events steps ≡ events others → (steps ≡ others) × (w ≡ v)
    one_run (at_first c) (at_first d) e = (refl, refl)
    one_run (at_first c) (steps_on {steps = ys} f p q h) e = absurd (empty_more (events ys) f (e ∙ map-append (λ (s : Stepped). s.event) ys (record { event = f; outcome = p } ∷ [])))
    one_run (steps_on {steps = xs} d o r h) (at_first c) e = absurd (empty_more (events xs) d (sym e ∙ map-append (λ (s : Stepped). s.event) xs (record { event = d; outcome = o } ∷ [])))
    one_run (steps_on {steps = xs} {w = w} d o r h) (steps_on {steps = ys} {w = v} f p q k) e =
        let ends =
        same_more (events xs) (events ys) d f
        (sym (map-append (λ (s : Stepped). s.event) xs (record { event = d; outcome = o } ∷ [])) ∙ e ∙ map-append (λ (s : Stepped). s.event) ys (record { event = f; outcome = p } ∷ [])) in
        go (one_run r q ends.0) ends.1
      where
        go : (xs ≡ ys) × (w ≡ v) → d ≡ f → (xs ++ (record { event = d; outcome = o }) ∷ [] ≡ ys ++ (record { event = f; outcome = p }) ∷ []) × (o.world ≡ p.world)
        go front same =
            let P : GrownWorld → Option Event → Type 0 = λ u x. Transition plan next u x o in
            let moved : Transition plan next v f o = subst (P v) same (subst (λ (u : GrownWorld). P u d) front.1 h) in
            let out : o ≡ p = one_step v f o p moved k in
            let more : List Stepped → Option Event → Outcome → List Stepped = λ zs x y. zs ++ (record { event = x; outcome = y }) ∷ [] in
            ((λ i. more (front.0 i) (same i) (out i)), ap (λ (y : Outcome). y.world) out)
