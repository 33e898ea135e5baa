-- Each event has an outcome, and what may happen one after another has a run
use Rattle.std.proofs.Common.{◌≡◌, ℕ, ℤ, ◌-◌, ◌<◌, Bool, true, false, List, [], ◌∷◌, ◌++◌, Option, Some, None, length, map, refl, sym, ap, ◌∙◌, append_assoc, append-nil, inl, inr, arith}
use Rattle.std.proofs.lemmas.Bool.{false≢true, eq-eqb}
use Rattle.std.proofs.lemmas.List.{map-append}
use Rattle.std.proofs.lemmas.Option.{slice_get_cases, slice_get_within}
use Rattle.std.specs.Prelude.{slice_get, if◌then◌else◌}
use Rattle.roc_sequence.proofs.Holds.{all_has}
use Rattle.roc_sequence.proofs.Members.{has_at}
use Rattle.roc_base.specs.declared.id.TxnId.{TxnId}
use Rattle.roc_base.specs.declared.node.Node.{Node}
use Rattle.roc_base.specs.declared.node.Node.TheVariants.{Server, Coord}
use Rattle.roc_depgraph.specs.declared.known.KnownList.{KnownList}
use Rattle.roc_component.specs.Components.{HaveSameMembers, IsComponentOrderOf}
use Rattle.roc_msg.specs.declared.msg.Envelope.{Envelope}
use Rattle.roc_msg.specs.declared.msg.Msg.{Msg}
use Rattle.roc_plan.specs.Groups.{Plan, procedure_of, is_view_of}
use Rattle.roc_readonly.specs.Round.{first_round}
use Rattle.roc_step.specs.Reads.{reads_behind, ReadStep}
use Rattle.roc_step.specs.State.{answered, ServerState, ServerStep, Viewing}
use Rattle.roc_step.specs.Step as server
use Rattle.roc_coord.specs.State.{CoordState}
use Rattle.roc_coord.specs.Step.{after_message}
use Rattle.roc_coord.specs.Submit.{next_id, new_transaction, accepted, accepted_view, after_submit, Submission}
use Rattle.roc_coord.specs.Tick as coord
use Rattle.roc_audit.specs.declared.entry.Entry.TheVariants.{Submitted}
use Rattle.roc_law_protocol.specs.declared.event.Event.{Event}
use Rattle.roc_law_protocol.specs.declared.event.Event.TheVariants.{Submit, Deliver, Tick, Stop}
use Rattle.roc_law_protocol.specs.declared.event.Seen.TheVariants as seen
use Rattle.roc_law_protocol.specs.Fits.{IsNode}
use Rattle.roc_law_protocol.proofs.Findings.{decided_there, handled}
use Rattle.roc_law_protocol.proofs.SubmissionEnds.{IsAnySubmission, any_submission_is, unknown, miscounted, spent, busy, taken}
use Rattle.roc_law_world.specs.World.{World, Beginning, begun_world, mark_delivered, at_coord, at_coord_tick}
use Rattle.roc_law_world.specs.Fits.{IsSentHere, FitsWorld}
use Rattle.roc_law_world.specs.Happens.{Outcome, undecided, IsSubmissionOf, served, coordinated, IsReceived, Happens, no_reads, StopsIn, at_rest, unrecorded, recorded, restarted}
use Rattle.roc_law_world.specs.Run.{Stepped, IsRunFrom, at_beginning, steps_on, IsEventOf, MayHappenFrom, IsSentIn}
use Rattle.roc_law_world.proofs.FitWorlds.{kept, run_fits}
use Rattle.roc_step.specs.Restarts.{cut_short, cut_reads}
use Rattle.roc_law_protocol.specs.declared.event.Kept.{Kept}
use Rattle.roc_law_protocol.specs.declared.event.Kept.TheVariants.{Lost, Sent}

-- what stands at a place of a list
pub there : {A : Type 0} (xs : List A) (n : ℕ) → n < length xs → (a : A) × (slice_get xs n ≡ Some a)
there xs n l = elim (slice_get_cases xs n).1 [ inl c ↦ (c.0, c.2) | inr c ↦ (let past = c.0 in absurd (omega (arith, past, l))) ]

-- ---- a submission

module _ (plan : Plan) (w : World) (n proc : ℕ) (args : List ℤ) (s : CoordState) where
  submission : proc < length plan.program.procedures → length args ≡ (procedure_of plan proc).arguments → (o : Outcome) × IsSubmissionOf w n proc args (after_submit plan s proc args) o
  submission known counted = go (after_submit plan s proc args) (any_submission_is plan s proc args)
    where
      kinds : (b : Bool) → (o : Outcome) × IsSubmissionOf w n proc args (if b then accepted_view plan s (first_round (next_id s) proc args) else accepted plan s (new_transaction s proc args)) o
      kinds true =
          let r = accepted_view plan s (first_round (next_id s) proc args) in
          (undecided (seen.Submitted (next_id s)) (at_coord w n r.state r.sends (Submitted (next_id s) proc args ∷ [])), refl)
      kinds false = let r = accepted plan s (new_transaction s proc args) in (undecided (seen.Submitted (next_id s)) (at_coord w n r.state r.sends (Submitted (next_id s) proc args ∷ [])), refl)

      go : (r : Submission) → IsAnySubmission plan s proc args r → (o : Outcome) × IsSubmissionOf w n proc args r o
      go r (unknown none) = absurd (none known)
      go r (miscounted e) = absurd (false≢true (sym e ∙ eq-eqb (length args) (procedure_of plan proc).arguments counted))
      go r (spent k c l) = (undecided seen.Spent w, refl)
      go r (busy k c l m) = (undecided seen.Busy w, refl)
      go r (taken k c l m) = kinds (is_view_of plan proc)

  -- and what is submitted fits
  submitted : (o : Outcome) → IsSubmissionOf w n proc args (after_submit plan s proc args) o → (proc < length plan.program.procedures) × (length args ≡ (procedure_of plan proc).arguments)
  submitted o h = go (after_submit plan s proc args) (any_submission_is plan s proc args) h
    where
      go : (r : Submission) → IsAnySubmission plan s proc args r → IsSubmissionOf w n proc args r o → (proc < length plan.program.procedures) × (length args ≡ (procedure_of plan proc).arguments)
      go r (unknown e) h = absurd h
      go r (miscounted e) h = absurd h
      go r (spent known counted l) h = (known, counted)
      go r (busy known counted l m) h = (known, counted)
      go r (taken known counted l m) h = (known, counted)

-- ---- any event

-- what happens may happen
pub event_of : (plan : Plan) (w : World) (e : Event) (o : Outcome) → Happens plan w e o → IsEventOf plan w e
event_of plan w (Submit n proc args) o (s, at, h) = let fit = submitted plan w n proc args s o h in (slice_get_within w.coords n s at, fit.0, fit.1)
event_of plan w (Deliver k) o (m, some, at, h) = (some, (let within = slice_get_within w.sent (k - 1) m at in omega arith))
event_of plan w (Tick (Server shard)) o (s, v, at, keeps, h) = slice_get_within w.servers shard.0 s at
event_of plan w (Tick (Coord n)) o (s, at, h) = slice_get_within w.coords n s at
event_of plan w (Stop shard during) o x = (slice_get_within w.servers shard.0 x.state x.there, go during x.before x.step x.reads x.stops)
  where
    go : (during : Option (ℕ × Kept)) (before : World) (step : ServerStep) (reads : ReadStep) → StopsIn plan w shard.0 x.state x.viewing during before step reads → IsSentIn w shard.0 during
    go during before step reads at_rest = tt
    go during before step reads (unrecorded k m sent) = (m, sent)
    go during before step reads (recorded k many m r q sent handles answers) = (m, sent)

module _ (exists : (known : List KnownList) (M : List TxnId) → (xs : List TxnId) × IsComponentOrderOf known M xs)
    (one : (known : List KnownList) (M N xs ys : List TxnId) → HaveSameMembers M N → IsComponentOrderOf known M xs → IsComponentOrderOf known N ys → xs ≡ ys) (plan : Plan) (w : World) where
  received : length w.viewing ≡ length w.servers → (msg : Msg) (to : Node) → IsNode (length w.servers) (length w.coords) to → (o : Outcome) × IsReceived plan w msg to o
  received each msg (Server shard) l =
      let s = there w.servers shard.0 l in
      let v = there w.viewing shard.0 (omega (arith, each, l)) in
      let r = handled exists one plan s.0 msg in
      let d = decided_there r.0.state.lists.links in
      let q = reads_behind plan d.0 v.0 msg r.0 in (
        served w shard.0 r.0 q,
        record { state = s.0; there = s.1; viewing = v.0; keeps = v.1; step = r.0; handles = r.1; reads = q; answers = record { decided = d.0; found = d.1; is = refl }; is = refl },
      )
  received each msg (Coord n) l = let s = there w.coords n l in (coordinated w n (after_message plan s.0 msg), (s.0, s.1, refl))

module _ (exists : (known : List KnownList) (M : List TxnId) → (xs : List TxnId) × IsComponentOrderOf known M xs)
    (one : (known : List KnownList) (M N xs ys : List TxnId) → HaveSameMembers M N → IsComponentOrderOf known M xs → IsComponentOrderOf known N ys → xs ≡ ys)
    (plan : Plan) (w : World) (fits : FitsWorld plan w) where
  happens : (e : Event) → IsEventOf plan w e → (o : Outcome) × Happens plan w e o
  happens (Submit n proc args) (l, known, counted) = let s = there w.coords n l in let o = submission plan w n proc args s.0 known counted in (o.0, (s.0, s.1, o.1))
  happens (Tick (Server shard)) l =
      let each = fits.each_views in
      let s = there w.servers shard.0 l in
      let v = there w.viewing shard.0 (omega (arith, each, l)) in
      (served w shard.0 (answered s.0 (server.tick_sends s.0)) (record { viewing = v.0; sends = [] }), (s.0, v.0, s.1, v.1, refl))
  happens (Tick (Coord n)) l = let s = there w.coords n l in (undecided seen.Done (at_coord_tick w n (coord.tick_sends plan s.0)), (s.0, s.1, refl))
  happens (Stop shard during) (l, sent) =
      let each = fits.each_views in
      let s = there w.servers shard.0 l in
      let v = there w.viewing shard.0 (omega (arith, each, l)) in
      let x = stops s.0 v.0 during sent in
      (restarted x.0 shard.0 x.1 x.2, record { state = s.0; there = s.1; viewing = v.0; keeps = v.1; before = x.0; step = x.1; reads = x.2; stops = x.3; is = refl })
    where
      stops : (s : ServerState) (v : Viewing) (during : Option (ℕ × Kept)) → IsSentIn w shard.0 during → (before : World) × (step : ServerStep) × (reads : ReadStep) × StopsIn plan w shard.0 s v during before step reads
      stops s v None sent = (w, answered s [], no_reads v, at_rest)
      stops s v (Some (k, Lost)) (m, sent) = (mark_delivered w k, answered s [], no_reads v, unrecorded k m sent)
      stops s v (Some (k, Sent many)) (m, sent) =
          let r = handled exists one plan s m.msg in
          let d = decided_there r.0.state.lists.links in
          let q = reads_behind plan d.0 v m.msg r.0 in
          (mark_delivered w k, cut_short many r.0, cut_reads many r.0 q, recorded k many m r.0 q sent r.1 (record { decided = d.0; found = d.1; is = refl }))
  happens (Deliver k) (some, sent) = delivered (there w.sent (k - 1) (omega arith))
    where
      delivered : (m : Envelope) × (slice_get w.sent (k - 1) ≡ Some m) → (o : Outcome) × Happens plan w (Deliver k) o
      delivered (m, at) =
          let here = all_has (IsSentHere (length w.servers) (length w.coords)) m w.sent fits.sent_here (has_at w.sent (k - 1) m at) in
          let o = received exists one plan (mark_delivered w k) fits.each_views m.msg m.to here.to in
          (o.0, (m, some, at, o.1))

  pub outcome : (e : Event) → IsEventOf plan w e → (o : Outcome) × Happens plan w e o × FitsWorld plan o.world
  outcome e event = let o = happens e event in (o.0, o.1, kept plan w fits e o.0 o.1)

-- ---- runs

module _ (outcome : (plan : Plan) (w : World) (e : Event) → FitsWorld plan w → IsEventOf plan w e → (o : Outcome) × Happens plan w e o × FitsWorld plan o.world)
    (plan : Plan) (b : Beginning) (coords : ℕ) (events : List (Option Event)) (some : 0 < plan.program.shards) (may : MayHappenFrom plan b coords events) where
  -- there is a run of all of them
  abbrev HasRun : Type 0
  HasRun = (steps : List Stepped) × (w : World) × IsRunFrom plan b coords steps w × (map (λ s. s.event) steps ≡ events)

  -- one step more
  events_more : (steps : List Stepped) (front : List (Option Event)) (s : Stepped) → map (λ (s : Stepped). s.event) steps ≡ front
      → map (λ (s : Stepped). s.event) (steps ++ s ∷ []) ≡ front ++ s.event ∷ []
  events_more steps front s same = map-append (λ (s : Stepped). s.event) steps (s ∷ []) ∙ ap (λ es. es ++ s.event ∷ []) same

  grown : (rest front : List (Option Event)) → events ≡ front ++ rest → (steps : List Stepped) (w : World) → IsRunFrom plan b coords steps w → map (λ (s : Stepped). s.event) steps ≡ front → HasRun
  grown [] front e steps w r same = (steps, w, r, same ∙ (sym (append-nil front) ∙ sym e))
  grown (None ∷ rest) front e steps w r same =
      let o : Outcome = undecided seen.Done w in
      grown rest (front ++ None ∷ []) (e ∙ sym (append_assoc front (None ∷ []) rest)) (steps ++ (record { event = None; outcome = o }) ∷ []) w
      (steps_on None o r refl) (events_more steps front (record { event = None; outcome = o }) same)
  grown (Some x ∷ rest) front e steps w r same =
      let o = outcome plan w x (run_fits plan b coords some steps w r) (may.each front x rest steps w e r same) in
      grown rest (front ++ Some x ∷ []) (e ∙ sym (append_assoc front (Some x ∷ []) rest)) (steps ++ (record { event = Some x; outcome = o.0 }) ∷ []) o.0.world (steps_on (Some x) o.0 r o.1)
      (events_more steps front (record { event = Some x; outcome = o.0 }) same)

  pub run_there : HasRun
  run_there = grown events [] refl [] (begun_world plan b coords) at_beginning refl
