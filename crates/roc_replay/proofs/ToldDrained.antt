-- What a coordinator told as drained was sent
use Rattle.std.proofs.Common.{◌≡◌, ◌⊎◌, inl, inr, ℕ, ℤ, zero, suc, ◌+◌, ◌<◌, Bool, true, false, cond, List, [], ◌∷◌, ◌++◌, Option, Some, None, Result, Ok, Err, map, refl, sym, ap, subst, ◌∙◌, arith}
use Rattle.std.specs.Prelude.{slice_get, slice_set, ◌||◌}
use Rattle.std.specs.List.{range_with_len}
use Rattle.roc_sequence.specs.Lists.{Has}
use Rattle.roc_sequence.proofs.Members.{has_left, has_right, has_map, has_at}
use Rattle.roc_base.specs.declared.id.TxnId.{TxnId}
use Rattle.roc_base.specs.declared.node.Node.{Node}
use Rattle.roc_base.specs.declared.node.Node.TheVariants.{Server, Coord}
use Rattle.roc_base.specs.declared.node.Shard.{Shard}
use Rattle.roc_msg.specs.declared.msg.Msg.{Msg}
use Rattle.roc_msg.specs.declared.msg.Msg.TheVariants.{Drained, Switched}
use Rattle.roc_msg.specs.declared.outbox.Outgoing.{Outgoing}
use Rattle.roc_msg.specs.declared.reason.Reason.{Reason}
use Rattle.roc_plan.specs.Groups.{Plan}
use Rattle.roc_coord.specs.declared.handled.Handled.{Handled}
use Rattle.roc_coord.specs.declared.handled.SubmitFault.TheVariants as core_fault
use Rattle.roc_coord.specs.State.{CoordStep}
use Rattle.roc_coord.specs.Step.{after_message}
use Rattle.roc_coord.specs.Submit.{Submission, next_id, after_submit}
use Rattle.roc_law_protocol.proofs.Changed.{get-set_cases}
use Rattle.roc_epoch.specs.declared.file.File.{File}
use Rattle.roc_epoch.specs.declared.next.Next.{Next}
use Rattle.roc_epoch.specs.Files.{is_file, own_file, own_plan}
use Rattle.roc_two_files.specs.Sealed.{Sealed, sealed_by}
use Rattle.roc_grown.specs.declared.handled.GrownAnswer.TheVariants as answer
use Rattle.roc_grown.specs.declared.handled.GrownFault.{GrownFault}
use Rattle.roc_grown.specs.declared.handled.GrownFault.TheVariants.{Draining, Plain}
use Rattle.roc_grown.specs.Coord as coord
use Rattle.roc_grown.specs.Coord.{GrownCoordState, GrownCoordStep, DrainStep, GrownSubmission, drained_to, drained_sends, after_drain, after_grown_submit, after_grown_message, first_grown_coord}
use Rattle.roc_growth.specs.declared.event.Event.{Event}
use Rattle.roc_growth.specs.declared.event.Event.TheVariants as event
use Rattle.roc_growth.specs.World.{GrownWorld, mark_delivered}
use Rattle.roc_growth.specs.Happens.{Outcome, Submits, IsReceived}
use Rattle.roc_growth.specs.Run.{Stepped, Transition, IsGrownRun, at_first, steps_on}
use Rattle.roc_replay.proofs.CoordsKept.{stop_keeps}
use Rattle.roc_replay.proofs.QuietLines.{SendsMore, comes_sends}

-- ---- a step

-- some of what is sent tells u
abbrev Tells : TxnId → List Outgoing → Type 0
Tells u outs = (out : Outgoing) × Has out outs × (out.msg ≡ Drained u)

-- a step's state tells what the one before told, or what is sent tells it
abbrev TellsMore : GrownCoordState → GrownCoordState → List Outgoing → Type 0
TellsMore s after outs = (u : TxnId) → after.upto ≡ Some u → (s.upto ≡ Some u) ⊎ Tells u outs

tells_same : (s after : GrownCoordState) (outs : List Outgoing) → after.upto ≡ s.upto → TellsMore s after outs
tells_same s after outs same u e = inl (sym same ∙ e)

-- there is some shard to be told
some_told : (u : TxnId) (shards : ℕ) → 0 < shards → Has (drained_to u 0) (map (drained_to u) (range_with_len 0 shards))
some_told u zero l = absurd (omega arith)
some_told u (suc n) l = inl refl

module _ (plan : Plan) (some : 0 < plan.program.shards) where
  tells_if_drained : (s : GrownCoordState) → TellsMore s (coord.tell_if_drained plan s).state (coord.tell_if_drained plan s).sends
  tells_if_drained s = go (coord.is_drained s)
    where
      own : TxnId
      own = next_id s.core

      tells : DrainStep
      tells = record { state = coord.telling s; sends = drained_sends plan own }

      rests : DrainStep
      rests = record { state = s; sends = [] }

      go : (b : Bool) → TellsMore s (cond b tells rests).state (cond b tells rests).sends
      go true u e = let same : own ≡ u = cc in inr (drained_to own 0, some_told own plan.program.shards some, ap (λ u. Drained u) same)
      go false u e = inl e

  drain_tells : (s : GrownCoordState) → TellsMore s (after_drain plan s).state (after_drain plan s).sends
  drain_tells s = go s.draining s.switched
    where
      rests : DrainStep
      rests = record { state = s; sends = [] }

      drains : GrownCoordState
      drains = record s { draining = true }

      go : (d b : Bool) → TellsMore s (cond (d || b) rests (coord.tell_if_drained plan drains)).state (cond (d || b) rests (coord.tell_if_drained plan drains)).sends
      go true b u e = inl e
      go false true u e = inl e
      go false false u e = tells_if_drained drains u e

  answer_tells : (s : GrownCoordState) (r : Handled) → TellsMore s (coord.told_behind plan s r).state (coord.told_behind plan s r).sends
  answer_tells s r = go (coord.is_answer r)
    where
      rests : DrainStep
      rests = record { state = s; sends = [] }

      go : (b : Bool) → TellsMore s (cond b (coord.tell_if_drained plan s) rests).state (cond b (coord.tell_if_drained plan s) rests).sends
      go true u e = tells_if_drained s u e
      go false u e = inl e

  core_tells : (s : GrownCoordState) (r : CoordStep) → TellsMore s (coord.of_core plan s r).state (coord.of_core plan s r).sends
  core_tells s r u e =
      let with_core : GrownCoordState = record s { core = r.state } in
      elim (answer_tells with_core r.answer u e) [
        | inl old ↦ inl old
        | inr new ↦ inr (new.0, has_right new.0 r.sends (coord.told_behind plan with_core r.answer).sends new.1, new.2)
      ]

  filed_tells : (next : Option Next) (s : GrownCoordState) (file : File) (msg : Msg) → TellsMore s (coord.after_filed plan next s file msg).state (coord.after_filed plan next s file msg).sends
  filed_tells next s file msg = go (is_file (own_file s.switched) file)
    where
      own : GrownCoordStep
      own = coord.of_core plan s (after_message (own_plan plan next s.switched) s.core msg)

      go : (b : Bool) → TellsMore s (cond b own (coord.unchanged s answer.Skipped)).state (cond b own (coord.unchanged s answer.Skipped)).sends
      go true = core_tells s (after_message (own_plan plan next s.switched) s.core msg)
      go false = tells_same s s [] refl

  switched_upto : (s : GrownCoordState) (upto : TxnId) (shard : Shard) → (coord.after_switched plan s upto shard).state.upto ≡ s.upto
  switched_upto s upto shard = go (coord.switched_refusal plan s upto shard)
    where
      more : GrownCoordState
      more = record s { at = s.at ++ shard ∷ [] }

      over : (b : Bool) → (cond b (coord.gone_over more) more).upto ≡ s.upto
      over true = refl
      over false = refl

      go : (o : Option Reason) → (coord.unless_refused s o (coord.over_if_all plan more)).state.upto ≡ s.upto
      go (Some reason) = refl
      go None = over (coord.have_all_switched plan.program.shards more.at)

  message_tells : (next : Option Next) (s : GrownCoordState) (file : File) (msg : Msg) → TellsMore s (after_grown_message plan next s file msg).state (after_grown_message plan next s file msg).sends
  message_tells next s file (Drained upto) = tells_same s s [] refl
  message_tells next s file (Switched upto shard) =
      tells_same s (after_grown_message plan next s file (Switched upto shard)).state (after_grown_message plan next s file (Switched upto shard)).sends (switched_upto s upto shard)
  message_tells next s file msg = filed_tells next s file msg

  submission_upto : (next : Option Next) (s : GrownCoordState) (proc : ℕ) (args : List ℤ) → (after_grown_submit plan next s proc args).state.upto ≡ s.upto
  submission_upto next s proc args = go s.draining
    where
      core : Submission
      core = after_submit (own_plan plan next s.switched) s.core proc args

      refusal : GrownSubmission
      refusal = record { answer = Err Draining; state = s; sends = [] }

      go : (b : Bool) → (cond b refusal (coord.submitted_to_core s core)).state.upto ≡ s.upto
      go true = refl
      go false = refl

  -- ---- a world

  -- what each coordinator told was sent
  abbrev pub WasSaid : List Sealed → TxnId → Type 0
  WasSaid sent u = (m : Sealed) × Has m sent × (m.message.msg ≡ Drained u)

  abbrev pub AreSaid : List GrownCoordState → List Sealed → Type 0
  AreSaid coords sent = (n : ℕ) (c : GrownCoordState) (u : TxnId) → slice_get coords n ≡ Some c → c.upto ≡ Some u → WasSaid sent u

  said_more : (coords : List GrownCoordState) (sent more : List Sealed) → AreSaid coords sent → AreSaid coords (sent ++ more)
  said_more coords sent more said n c u at told = let m = said n c u at told in (m.0, has_left m.0 sent more m.1, m.2)

  -- where no coordinator changes
  said_still : (w : GrownWorld) (o : Outcome) → AreSaid w.coords w.sent → o.world.coords ≡ w.coords → SendsMore w o.world → AreSaid o.world.coords o.world.sent
  said_still w o said same more =
      subst (λ (coords : List GrownCoordState). AreSaid coords o.world.sent) (sym same) (subst (AreSaid w.coords) (sym more.1) (said_more w.coords w.sent more.0 said))

  -- where one takes a step
  said_coord : (w : GrownWorld) (n : ℕ) (s after : GrownCoordState) (outs : List Outgoing) → AreSaid w.coords w.sent → slice_get w.coords n ≡ Some s → TellsMore s after outs
      → AreSaid (slice_set w.coords n after) (w.sent ++ map (sealed_by after.switched (Coord n)) outs)
  said_coord w n s after outs said there tells k c u at told = elim (get-set_cases w.coords n k s after c there at) [
    | inl here ↦ elim (tells u (ap (λ (c : GrownCoordState). c.upto) (sym here.1) ∙ told)) [
      | inl old ↦ (let m = said n s u there old in (m.0, has_left m.0 w.sent (map (sealed_by after.switched (Coord n)) outs) m.1, m.2))
      | inr new ↦
          (let own = sealed_by after.switched (Coord n) new.0 in
          (own, has_right own w.sent (map (sealed_by after.switched (Coord n)) outs) (has_map (sealed_by after.switched (Coord n)) new.0 outs new.1), new.2))
    ]
    | inr other ↦ (let m = said k c u other.1 told in (m.0, has_left m.0 w.sent (map (sealed_by after.switched (Coord n)) outs) m.1, m.2))
  ]

  abbrev Said : Outcome → Type 0
  Said o = AreSaid o.world.coords o.world.sent

  step_said : (next : Option Next) (w : GrownWorld) → AreSaid w.coords w.sent → (e : Option Event) (o : Outcome) → Transition plan next w e o → Said o
  step_said next w said None o h = said_still w o said (ap (λ (o : Outcome). o.world.coords) h) (comes_sends plan next w None o h)
  step_said next w said (Some (event.Submit n proc args)) o (call, s, there, h) = go r.state r.sends r.answer (tells_same s r.state r.sends (submission_upto next s proc args)) h
    where
      r : GrownSubmission
      r = after_grown_submit plan next s proc args

      go : (state : GrownCoordState) (outs : List Outgoing) (answer : Result TxnId GrownFault) → TellsMore s state outs → Submits w n proc args state outs answer o → Said o
      go state outs (Ok id) tells e = subst Said (sym e) (said_coord w n s state outs said there tells)
      go state outs (Err Draining) tells e = subst Said (sym e) said
      go state outs (Err (Plain core_fault.NoProc)) tells e = subst Said (sym e) said
      go state outs (Err (Plain core_fault.Spent)) tells e = subst Said (sym e) said
      go state outs (Err (Plain core_fault.Busy)) tells e = subst Said (sym e) said
      go state outs (Err (Plain core_fault.Args)) tells e = absurd e
      go state outs (Err (Plain core_fault.NoMemory)) tells e = absurd e
  step_said next w said (Some (event.Deliver k)) o (m, some_number, there, h) = go m.message.to h
    where
      go : (to : Node) → IsReceived plan next (mark_delivered w k) m.file m.message.msg to o → Said o
      go (Server shard) x = subst Said (sym x.is) (said_more w.coords w.sent (map (sealed_by x.step.state.switched (Server shard)) x.step.sends) said)
      go (Coord n) (s, at, e) = subst Said (sym e) (said_coord (mark_delivered w k) n s _ _ said at (message_tells next s m.file m.message.msg))
  step_said next w said (Some (event.Tick (Server shard))) o (s, there, e) =
      said_still w o said (ap (λ (o : Outcome). o.world.coords) e) (comes_sends plan next w (Some (event.Tick (Server shard))) o (s, there, e))
  step_said next w said (Some (event.Tick (Coord n))) o (s, there, e) =
      said_still w o said (ap (λ (o : Outcome). o.world.coords) e) (comes_sends plan next w (Some (event.Tick (Coord n))) o (s, there, e))
  step_said next w said (Some (event.Stop shard during)) o x =
      said_still w o said (ap (λ (o : Outcome). o.world.coords) x.is ∙ stop_keeps plan next w shard.0 x.state during x.before x.step x.stops)
      (comes_sends plan next w (Some (event.Stop shard during)) o x)
  step_said next w said (Some (event.Drain n)) o (grows, s, there, e) =
      subst Said (sym e) (said_coord w n s (after_drain plan s).state (after_drain plan s).sends said there (drain_tells s))

  first_said : (count : ℕ) → AreSaid (map first_grown_coord (range_with_len 0 count)) []
  first_said count n c u at told = absurd (none 0 count (has_at (map first_grown_coord (range_with_len 0 count)) n c at))
    where
      none : (a many : ℕ) → Has c (map first_grown_coord (range_with_len a many)) → ⊥
      none a zero h = h
      none a (suc many) (inl e) = absurd (let is = sym told ∙ ap (λ (c : GrownCoordState). c.upto) e in cc)
      none a (suc many) (inr h) = none (a + 1) many h

  pub run_said : (next : Option Next) (coords : ℕ) (steps : List Stepped) (w : GrownWorld) → IsGrownRun plan next coords steps w → AreSaid w.coords w.sent
  run_said next coords _ _ (at_first counted) = first_said coords
  run_said next coords _ _ (steps_on {steps = steps} {w = w} e o r h) = step_said next w (run_said next coords steps w r) e o h
