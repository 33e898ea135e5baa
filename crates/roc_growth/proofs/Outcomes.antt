-- Each event has an outcome, and what may happen one after another has a run
use Rattle.std.proofs.Common.{◌≡◌, ◌≢◌, ◌∙◌, ◌⊎◌, ℕ, ℤ, ◌-◌, ◌<◌, ◌==◌, not, nat_lt, nat_le, Bool, true, false, List, [], ◌∷◌, ◌++◌, Option, Some, None, Err, length, map, refl, sym, ap, subst, append_assoc, append-nil, inl, inr, arith}
use Rattle.std.proofs.lemmas.Bool.{false≢true, eq-eqb}
use Rattle.std.proofs.lemmas.Bool.Decides.{nat_tests}
use Rattle.std.proofs.lemmas.List.{map-append, get_or_append_left}
use Rattle.std.proofs.lemmas.Option.{slice_get_within}
use Rattle.std.specs.Prelude.{slice_get, slice_index_or, if◌then◌else◌}
use Rattle.roc_sequence.proofs.Holds.{all_has}
use Rattle.roc_sequence.proofs.Members.{has_at}
use Rattle.roc_base.specs.declared.id.TxnId.{TxnId}
use Rattle.roc_base.specs.declared.node.Node.{Node}
use Rattle.roc_base.specs.declared.node.Node.TheVariants.{Server, Coord}
use Rattle.roc_depgraph.specs.declared.known.KnownList.{KnownList}
use Rattle.roc_component.specs.Components.{HaveSameMembers, IsComponentOrderOf}
use Rattle.roc_msg.specs.declared.msg.Msg.{Msg}
use Rattle.roc_msg.specs.declared.msg.Msg.TheVariants.{Drained, Switched}
use Rattle.roc_plan.specs.Groups.{Plan, procedure_of, is_view_of}
use Rattle.roc_program.specs.Program.{Procedure}
use Rattle.roc_program.specs.LookUps.{no_procedure}
use Rattle.roc_readonly.specs.Round.{first_round}
use Rattle.roc_step.specs.Reads.{reads_behind}
use Rattle.roc_coord.specs.declared.handled.SubmitFault.TheVariants as fault
use Rattle.roc_coord.specs.Submit.{most_transactions, most_pending, next_id, new_transaction, refused, refused_or_accepted, accepted, accepted_view, after_submit, Submission}
use Rattle.roc_audit.specs.declared.entry.Entry.TheVariants.{Submitted}
use Rattle.roc_law_protocol.specs.Fits.{IsNode}
use Rattle.roc_law_protocol.specs.declared.event.Kept.{Kept}
use Rattle.roc_law_protocol.specs.declared.event.Kept.TheVariants.{Lost, Sent}
use Rattle.roc_law_protocol.proofs.Findings.{decided_there, handled}
use Rattle.roc_law_protocol.proofs.SubmissionEnds.{IsAnySubmission, any_submission_is, unknown, miscounted, spent, busy, taken}
use Rattle.roc_law_world.specs.Fits.{IsSentHere}
use Rattle.roc_epoch.specs.declared.file.File.{File}
use Rattle.roc_epoch.specs.declared.file.File.TheVariants.{First, Second, Neither}
use Rattle.roc_epoch.specs.declared.next.Next.{Next}
use Rattle.roc_epoch.specs.Files.{is_between, own_file, own_plan, last_plan, IsNextOf}
use Rattle.roc_two_files.specs.Sealed.{Sealed}
use Rattle.roc_grown.specs.declared.handled.GrownFault.TheVariants.{Draining}
use Rattle.roc_grown.specs.Server.{GrownServerState, GrownStep, GrownHandles, of_drained, of_switched, of_other, of_own, of_core, foreign_at, skip_at, after_drained, taken_at, restarted, grown_server_tick}
use Rattle.roc_grown.specs.Coord.{GrownCoordState, after_drain, after_grown_submit, after_grown_message, submitted_to_core, grown_tick_sends}
use Rattle.roc_growth.specs.declared.event.Event.{Event}
use Rattle.roc_growth.specs.declared.event.Event.TheVariants.{Submit, Deliver, Tick, Stop, Drain}
use Rattle.roc_growth.specs.declared.event.Seen.TheVariants as seen
use Rattle.roc_growth.specs.World.{GrownWorld, first_grown_world, mark_delivered, at_coord, at_coord_tick}
use Rattle.roc_growth.specs.Fits.{FitsGrown}
use Rattle.roc_growth.specs.Happens.{Outcome, undecided, IsCallOf, IsSubmissionOf, served, coordinated, IsReceived, Happens, cut_short, StopsIn, at_rest, unrecorded, recorded, started_again}
use Rattle.roc_growth.specs.Run.{Stepped, AreCoordsOf, IsGrownRun, at_first, steps_on, IsEventOf, MayHappen, IsSentIn}
use Rattle.roc_growth.proofs.FitGrown.{kept, run_fits}
use Rattle.roc_law_world.proofs.Outcomes.{there}

-- ---- calls

-- a call of the last file that is one of its own has as many arguments there
calls_alike : (plan : Plan) (next : Option Next) → IsNextOf plan next → (switched : Bool) (proc : ℕ) (args : List ℤ) → IsCallOf (last_plan plan next) proc args
    → proc < length (own_plan plan next switched).program.procedures → length args ≡ (procedure_of (own_plan plan next switched) proc).arguments
calls_alike plan None of switched proc args call known = call.1
calls_alike plan (Some next) of true proc args call known = call.1
calls_alike plan (Some next) of false proc args call known =
    let more = of.1.procedures in
    call.1
    ∙ ap (λ (p : Procedure). p.arguments)
    (ap (λ (ps : List Procedure). slice_index_or ps proc no_procedure) more.1 ∙ get_or_append_left plan.program.procedures more.0 no_procedure proc known)

-- ---- a submission

module _ (plan : Plan) (next : Option Next) (of : IsNextOf plan next) (w : GrownWorld) (n proc : ℕ) (args : List ℤ) (s : GrownCoordState) (call : IsCallOf (last_plan plan next) proc args) where
  submission : (o : Outcome) × IsSubmissionOf w n proc args (after_grown_submit plan next s proc args) o
  submission = drained s.draining
    where
      own : Plan
      own = own_plan plan next s.switched

      kinds : (b : Bool) → (o : Outcome) × IsSubmissionOf w n proc args (submitted_to_core s (if b then accepted_view own s.core (first_round (next_id s.core) proc args) else accepted own s.core (new_transaction s.core proc args))) o
      kinds true =
          let r = accepted_view own s.core (first_round (next_id s.core) proc args) in
          (undecided (seen.Submitted (next_id s.core)) (at_coord w n (record s { core = r.state }) r.sends (Submitted (next_id s.core) proc args ∷ [])), refl)
      kinds false =
          let r = accepted own s.core (new_transaction s.core proc args) in
          (undecided (seen.Submitted (next_id s.core)) (at_coord w n (record s { core = r.state }) r.sends (Submitted (next_id s.core) proc args ∷ [])), refl)

      known_go : proc < length own.program.procedures → (r : Submission) → IsAnySubmission own s.core proc args r → (o : Outcome) × IsSubmissionOf w n proc args (submitted_to_core s r) o
      known_go l r (unknown none) = (undecided seen.NoProc w, refl)
      known_go l r (miscounted e) = absurd (false≢true (sym e ∙ eq-eqb (length args) (procedure_of own proc).arguments (calls_alike plan next of s.switched proc args call l)))
      known_go l r (spent k c m) = (undecided seen.Spent w, refl)
      known_go l r (busy k c m j) = (undecided seen.Busy w, refl)
      known_go l r (taken k c m j) = kinds (is_view_of own proc)

      found : (b : Bool) → nat_lt proc (length own.program.procedures) ≡ b → (o : Outcome) × IsSubmissionOf w n proc args (submitted_to_core s (after_submit own s.core proc args)) o
      found true e = known_go (grind (arith, nat_tests)) (after_submit own s.core proc args) (any_submission_is own s.core proc args)
      found false e = (undecided seen.NoProc w, subst (λ (r : Submission). IsSubmissionOf w n proc args (submitted_to_core s r) (undecided seen.NoProc w)) (sym none) refl)
        where
          none : after_submit own s.core proc args ≡ refused s.core fault.NoProc
          none =
              ap (λ b. refused_or_accepted own s.core proc args (
              if not b then Some fault.NoProc
              else if not (length args == (procedure_of own proc).arguments) then Some fault.Args
              else if nat_le most_transactions s.core.next then Some fault.Spent
              else if nat_le most_pending (length s.core.unanswered) then Some fault.Busy
              else None)) e

      drained : (b : Bool) → (o : Outcome) × IsSubmissionOf w n proc args (if b then record { answer = Err Draining; state = s; sends = [] } else submitted_to_core s (after_submit own s.core proc args)) o
      drained true = (undecided seen.Draining w, refl)
      drained false = found (nat_lt proc (length own.program.procedures)) refl

-- ---- any event

-- what happens may happen
pub event_of : (plan : Plan) (next : Option Next) (w : GrownWorld) (e : Event) (o : Outcome) → Happens plan next w e o → IsEventOf plan next w e
event_of plan next w (Submit n proc args) o (call, s, at, h) = (slice_get_within w.coords n s at, call)
event_of plan next w (Deliver k) o (m, some, at, h) = (some, (let within = slice_get_within w.sent (k - 1) m at in omega arith))
event_of plan next w (Tick (Server shard)) o (s, at, h) = slice_get_within w.servers shard.0 s at
event_of plan next w (Tick (Coord n)) o (s, at, h) = slice_get_within w.coords n s at
event_of plan next w (Stop shard during) o x = (slice_get_within w.servers shard.0 x.state x.there, go during x.before x.step x.stops)
  where
    go : (during : Option (ℕ × Kept)) (before : GrownWorld) (step : GrownStep) → StopsIn plan next w shard.0 x.state during before step → IsSentIn w shard.0 during
    go during before step at_rest = tt
    go during before step (unrecorded k m sent) = (m, sent)
    go during before step (recorded k many m r sent handles) = (m, sent)
event_of plan next w (Drain n) o (some, s, at, h) = (some, slice_get_within w.coords n s at)

-- each node makes something of each message
module _ (exists : (known : List KnownList) (M : List TxnId) → (xs : List TxnId) × IsComponentOrderOf known M xs)
    (one : (known : List KnownList) (M N xs ys : List TxnId) → HaveSameMembers M N → IsComponentOrderOf known M xs → IsComponentOrderOf known N ys → xs ≡ ys) (plan : Plan) (next : Option Next) where
  module _ (s : GrownServerState) (file : File) where
    files : (a b : File) → (a ≡ b) ⊎ (a ≢ b)
    files First First = inl refl
    files First Second = inr (λ e. absurd (cc))
    files First Neither = inr (λ e. absurd (cc))
    files Second First = inr (λ e. absurd (cc))
    files Second Second = inl refl
    files Second Neither = inr (λ e. absurd (cc))
    files Neither First = inr (λ e. absurd (cc))
    files Neither Second = inr (λ e. absurd (cc))
    files Neither Neither = inl refl

    filed : (msg : Msg) → is_between msg ≡ false → (g : GrownStep) × GrownHandles plan next s file msg g
    filed msg between = elim (files file (own_file s.switched)) [
      | inl same ↦
          (let p = own_plan plan next s.switched in
          let r = handled exists one p s.core msg in
          let d = decided_there r.0.state.lists.links in
          let q = reads_behind p d.0 s.viewing msg r.0 in
          (of_core s r.0 q, of_own msg r.0 q (of_core s r.0 q) between same r.1 (record { decided = d.0; found = d.1; is = refl }) refl))
      | inr other ↦ (skip_at s, of_other msg (skip_at s) between other refl)
    ]

    pub server_makes : (msg : Msg) → (g : GrownStep) × GrownHandles plan next s file msg g
    server_makes (Drained upto) = (after_drained next s upto, of_drained upto (after_drained next s upto) refl)
    server_makes (Switched upto shard) = (foreign_at s, of_switched upto shard (foreign_at s) refl)
    server_makes msg = filed msg refl

  received : (w : GrownWorld) (file : File) (msg : Msg) (to : Node) → IsNode (length w.servers) (length w.coords) to → (o : Outcome) × IsReceived plan next w file msg to o
  received w file msg (Server shard) l =
      let s = there w.servers shard.0 l in
      let g = server_makes s.0 file msg in
      (served w shard.0 g.0, record { state = s.0; there = s.1; step = g.0; handles = g.1; is = refl })
  received w file msg (Coord n) l = let s = there w.coords n l in (coordinated w n (after_grown_message plan next s.0 file msg), (s.0, s.1, refl))

  module _ (of : IsNextOf plan next) (w : GrownWorld) (fits : FitsGrown plan next w) where
    happens : (e : Event) → IsEventOf plan next w e → (o : Outcome) × Happens plan next w e o
    happens (Submit n proc args) (l, call) = let s = there w.coords n l in let o = submission plan next of w n proc args s.0 call in (o.0, (call, s.0, s.1, o.1))
    happens (Tick (Server shard)) l = let s = there w.servers shard.0 l in (served w shard.0 (taken_at s.0 (grown_server_tick s.0)), (s.0, s.1, refl))
    happens (Tick (Coord n)) l = let s = there w.coords n l in (undecided seen.Done (at_coord_tick w n s.0 (grown_tick_sends plan next s.0)), (s.0, s.1, refl))
    happens (Stop shard during) (l, sent) =
        let s = there w.servers shard.0 l in
        let x = stops s.0 during sent in
        (started_again x.0 shard.0 x.1, record { state = s.0; there = s.1; before = x.0; step = x.1; stops = x.2; is = refl })
      where
        stops : (s : GrownServerState) (during : Option (ℕ × Kept)) → IsSentIn w shard.0 during → (before : GrownWorld) × (step : GrownStep) × StopsIn plan next w shard.0 s during before step
        stops s None sent = (w, taken_at (restarted s) [], at_rest)
        stops s (Some (k, Lost)) (m, sent) = (mark_delivered w k, taken_at (restarted s) [], unrecorded k m sent)
        stops s (Some (k, Sent many)) (m, sent) = let g = server_makes s m.file m.message.msg in (mark_delivered w k, cut_short many g.0, recorded k many m g.0 sent g.1)
    happens (Deliver k) (some, sent) = delivered (there w.sent (k - 1) (omega arith))
      where
        delivered : (m : Sealed) × (slice_get w.sent (k - 1) ≡ Some m) → (o : Outcome) × Happens plan next w (Deliver k) o
        delivered (m, at) =
            let here = all_has (λ (m : Sealed). IsSentHere (length w.servers) (length w.coords) m.message) m w.sent fits.sent_here (has_at w.sent (k - 1) m at) in
            let o = received (mark_delivered w k) m.file m.message.msg m.message.to here.to in
            (o.0, (m, some, at, o.1))
    happens (Drain n) (some, l) =
        let s = there w.coords n l in
        (undecided seen.Done (at_coord w n (after_drain plan s.0).state (after_drain plan s.0).sends []), (some, s.0, s.1, refl))

    pub outcome : (e : Event) → IsEventOf plan next w e → (o : Outcome) × Happens plan next w e o × FitsGrown plan next o.world
    outcome e event = let o = happens e event in (o.0, o.1, kept plan next of w fits e o.0 o.1)

-- ---- runs

module _ (plan : Plan) (next : Option Next) (of : IsNextOf plan next)
    (outcome : (w : GrownWorld) (e : Event) → FitsGrown plan next w → IsEventOf plan next w e → (o : Outcome) × Happens plan next w e o × FitsGrown plan next o.world)
    (coords : ℕ) (counted : AreCoordsOf next coords) (events : List (Option Event)) (some : 0 < plan.program.shards) (may : MayHappen plan next coords events) where
  -- there is a run of all of them
  abbrev HasRun : Type 0
  HasRun = (steps : List Stepped) × (w : GrownWorld) × IsGrownRun plan next coords steps w × (map (λ s. s.event) steps ≡ events)

  -- one step more
  events_more : (steps : List Stepped) (front : List (Option Event)) (s : Stepped) → map (λ (s : Stepped). s.event) steps ≡ front
      → map (λ (s : Stepped). s.event) (steps ++ s ∷ []) ≡ front ++ s.event ∷ []
  events_more steps front s same = map-append (λ (s : Stepped). s.event) steps (s ∷ []) ∙ ap (λ es. es ++ s.event ∷ []) same

  goes_on : (rest front : List (Option Event)) → events ≡ front ++ rest → (steps : List Stepped) (w : GrownWorld) → IsGrownRun plan next coords steps w → map (λ (s : Stepped). s.event) steps ≡ front → HasRun
  goes_on [] front e steps w r same = (steps, w, r, same ∙ (sym (append-nil front) ∙ sym e))
  goes_on (None ∷ rest) front e steps w r same =
      let o : Outcome = undecided seen.Done w in
      goes_on rest (front ++ None ∷ []) (e ∙ sym (append_assoc front (None ∷ []) rest)) (steps ++ (record { event = None; outcome = o }) ∷ []) w
      (steps_on None o r refl) (events_more steps front (record { event = None; outcome = o }) same)
  goes_on (Some x ∷ rest) front e steps w r same =
      let o = outcome w x (run_fits plan next of coords some steps w r) (may.each front x rest steps w e r same) in
      goes_on rest (front ++ Some x ∷ []) (e ∙ sym (append_assoc front (Some x ∷ []) rest)) (steps ++ (record { event = Some x; outcome = o.0 }) ∷ []) o.0.world (steps_on (Some x) o.0 r o.1)
      (events_more steps front (record { event = Some x; outcome = o.0 }) same)

  pub run_there : HasRun
  run_there = goes_on events [] refl [] (first_grown_world plan coords) (at_first counted) refl
