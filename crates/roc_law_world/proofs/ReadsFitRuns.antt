-- In every world reads and readoks are of the views that were submitted, with the plan's counts
use Rattle.std.proofs.Common.{◌≡◌, ◌∙◌, inl, inr, ℕ, ℤ, ◌==◌, Bool, true, false, not, List, [], ◌∷◌, ◌++◌, Option, Some, None, map, length, refl, sym, ap, subst}
use Rattle.std.proofs.lemmas.Bool.{eqb-true}
use Rattle.std.specs.Prelude.{slice_get, if◌then◌else◌, nat_lt, nat_le, slice_set}
use Rattle.roc_sequence.specs.Lists.{Has}
use Rattle.roc_sequence.proofs.Members.{has_append, has_left, has_right, has_more, has_at}
use Rattle.roc_base.specs.declared.id.TxnId.{TxnId}
use Rattle.roc_base.specs.declared.node.Node.{Node}
use Rattle.roc_base.specs.declared.node.Node.TheVariants.{Server, Coord}
use Rattle.roc_msg.specs.declared.msg.Envelope.{Envelope}
use Rattle.roc_msg.specs.declared.outbox.Outgoing.{Outgoing}
use Rattle.roc_plan.specs.Groups.{Plan, procedure_of, is_view_of}
use Rattle.roc_plan.specs.Accepted.{IsAccepted}
use Rattle.roc_whole.specs.Serial as whole
use Rattle.roc_step.specs.State.{ServerState, ServerStep, Viewing, answered}
use Rattle.roc_step.specs.Step as server
use Rattle.roc_coord.specs.declared.handled.SubmitFault.{SubmitFault}
use Rattle.roc_coord.specs.declared.handled.SubmitFault.TheVariants as fault
use Rattle.roc_coord.specs.State.{CoordState}
use Rattle.roc_coord.specs.Step.{after_message}
use Rattle.roc_coord.specs.Submit.{next_id, new_transaction, accepted, accepted_view, refusal_of, refused_or_accepted, after_submit, most_transactions, most_pending}
use Rattle.roc_coord.specs.Tick as coord
use Rattle.roc_readonly.specs.declared.view.View.{View}
use Rattle.roc_readonly.specs.Round.{first_round, reads_of}
use Rattle.roc_audit.specs.declared.entry.Entry.{Entry}
use Rattle.roc_audit.specs.declared.entry.Entry.TheVariants.{Submitted}
use Rattle.roc_law_protocol.specs.Beginnings as protocol
use Rattle.roc_law_protocol.specs.declared.event.Event.{Event}
use Rattle.roc_law_protocol.specs.declared.event.Event.TheVariants.{Submit, Deliver, Tick, Stop}
use Rattle.roc_law_protocol.specs.World.{sent_by}
use Rattle.roc_law_protocol.proofs.AskedFor.{run_asked}
use Rattle.roc_law_protocol.proofs.Firsts.{found_at}
use Rattle.roc_law_world.specs.World.{World, Beginning, begun_world, begun_viewing, mark_delivered, at_coord, at_server}
use Rattle.roc_law_world.specs.Happens.{Outcome, IsSubmissionOf, IsServed, IsReceived, served}
use Rattle.roc_law_world.specs.Run.{Stepped, Transition, IsRunFrom, at_beginning, steps_on}
use Rattle.roc_law_world.proofs.Coordinators.{IsCoordSound}
use Rattle.roc_law_world.proofs.ReadsFit.{IsReadAt, MessageFits, ViewFits, ReadsFit, AllFit, all_of_transactions, sent_fit, round_fits, served_fits, message_fits, tick_fits}
use Rattle.roc_law_world.proofs.Runs.{beside, grows}
use Rattle.roc_law_world.proofs.ServerSends as server_sends
use Rattle.roc_law_world.proofs.AsideSteps.{starts_kept}
use Rattle.roc_law_world.proofs.ViewMeans.{TellsCalls, is_view_id}
use Rattle.roc_law_world.proofs.ViewWitness.{calls_tell_views}
use Rattle.roc_law_world.proofs.Stops.{by_losing, Loses, less}
use Rattle.roc_law_protocol.specs.Happens.{IsSentTo, ran_at}
use Rattle.roc_step.specs.Reads.{AnswersReads, ReadStep}
use Rattle.roc_law_protocol.proofs.Changed.{get-set_here, get-set_cases}

module _ (plan : Plan) (calls : TxnId → whole.Call) where
  -- each server has its number
  abbrev pub Numbers : World → Type 0
  Numbers w = (n : ℕ) (s : ServerState) → slice_get w.servers n ≡ Some s → s.shard.0 ≡ n

  -- more is sent
  more_messages : (w : World) (from : Node) (outs : List Outgoing) → ((m : Envelope) → Has m w.sent → MessageFits plan calls m.msg m.to) → AllFit plan calls outs
      → (m : Envelope) → Has m (w.sent ++ map (sent_by from) outs) → MessageFits plan calls m.msg m.to
  more_messages w from outs old new m h = elim (has_append m w.sent (map (sent_by from) outs) h) [ inl k ↦ old m k | inr k ↦ sent_fit plan calls from outs new m k ]

  both_fit : (xs ys : List Outgoing) → AllFit plan calls xs → AllFit plan calls ys → AllFit plan calls (xs ++ ys)
  both_fit xs ys a b out h = elim (has_append out xs ys h) [ inl k ↦ a out k | inr k ↦ b out k ]

  module _ (w : World) (o : ReadsFit plan calls w) where
    -- a coordinator has other views, and sends
    at_coord_fits : (n : ℕ) (s after : CoordState) (outs : List Outgoing) → slice_get w.coords n ≡ Some s → ((v : View) → Has v after.views → ViewFits plan calls v) → AllFit plan calls outs
        → (told : List Entry) → ReadsFit plan calls (at_coord w n after outs told)
    at_coord_fits n s after outs there views sends told =
        record {
          messages = more_messages w (Coord n) outs o.messages sends;
          kept = o.kept;
          views = λ k c at v h. elim (get-set_cases w.coords n k s after c there at) [
            | inl e ↦ views v (subst (λ (c : CoordState). Has v c.views) e.1 h)
            | inr e ↦ o.views k c e.1 v h
          ];
        }

    submits_fit : (n : ℕ) (s : CoordState) → slice_get w.coords n ≡ Some s → (proc : ℕ) (args : List ℤ) (u : Outcome) → TellsCalls calls u.world.history
        → IsSubmissionOf w n proc args (after_submit plan s proc args) u → ReadsFit plan calls u.world
    submits_fit n s there proc args u tells h = go (refusal_of plan s proc args) refl h
      where
        counted : refusal_of plan s proc args ≡ None → length args ≡ (procedure_of plan proc).arguments
        counted e = procedure (nat_lt proc (length plan.program.procedures)) e
          where
            arguments : (b : Bool) → (length args == (procedure_of plan proc).arguments) ≡ b
                → (if not b then Some fault.Args else if nat_le most_transactions s.next then Some fault.Spent
                else if nat_le most_pending (length s.unanswered) then Some fault.Busy else None) ≡ None
                → length args ≡ (procedure_of plan proc).arguments
            arguments true f g = eqb-true (length args) (procedure_of plan proc).arguments f
            arguments false f g = absurd (cc)

            procedure : (b : Bool)
                → (if not b then Some fault.NoProc else if not (length args == (procedure_of plan proc).arguments) then Some fault.Args
                else if nat_le most_transactions s.next then Some fault.Spent else if nat_le most_pending (length s.unanswered) then Some fault.Busy else None) ≡ None
                → length args ≡ (procedure_of plan proc).arguments
            procedure true g = arguments (length args == (procedure_of plan proc).arguments) refl g
            procedure false g = absurd (cc)

        kinds : refusal_of plan s proc args ≡ None → (b : Bool) → is_view_of plan proc ≡ b
            → IsSubmissionOf w n proc args (if b then accepted_view plan s (first_round (next_id s) proc args) else accepted plan s (new_transaction s proc args)) u
            → ReadsFit plan calls u.world
        kinds e true viewed k =
            let told = tells (next_id s) proc args (subst (λ (u : Outcome). Has (Submitted (next_id s) proc args) u.world.history) (sym k)
            (has_right (Submitted (next_id s) proc args) w.history (Submitted (next_id s) proc args ∷ []) (inl refl))) in
            let fits : ViewFits plan calls (first_round (next_id s) proc args) = record { view = viewed; counted = counted e; procedure = told.0; arguments = told.1 } in
            subst (λ (u : Outcome). ReadsFit plan calls u.world) (sym k)
            (at_coord_fits n s (accepted_view plan s (first_round (next_id s) proc args)).state (reads_of plan (first_round (next_id s) proc args)) there
            (λ x j. elim (has_more x (first_round (next_id s) proc args) s.views j) [ inl i ↦ o.views n s there x i | inr e ↦ subst (ViewFits plan calls) (sym e) fits ])
            (round_fits plan calls (first_round (next_id s) proc args) fits) (Submitted (next_id s) proc args ∷ []))
        kinds e false plain k =
            subst (λ (u : Outcome). ReadsFit plan calls u.world) (sym k)
            (at_coord_fits n s (accepted plan s (new_transaction s proc args)).state (accepted plan s (new_transaction s proc args)).sends there (o.views n s there)
            (all_of_transactions plan calls (accepted plan s (new_transaction s proc args)).sends (starts_kept plan (new_transaction s proc args))) (Submitted (next_id s) proc args ∷ []))

        go : (r : Option SubmitFault) → refusal_of plan s proc args ≡ r → IsSubmissionOf w n proc args (refused_or_accepted plan s proc args r) u → ReadsFit plan calls u.world
        go None e k = kinds e (is_view_of plan proc) refl k
        go (Some fault.Spent) e k = subst (λ (u : Outcome). ReadsFit plan calls u.world) (sym k) o
        go (Some fault.Busy) e k = subst (λ (u : Outcome). ReadsFit plan calls u.world) (sym k) o
        go (Some fault.NoProc) e k = absurd k
        go (Some fault.Args) e k = absurd k
        go (Some fault.NoMemory) e k = absurd k

    serves_fit : (accepted : IsAccepted plan) (k : ℕ) (m : Envelope) → Has m w.sent → (n : ℕ) → m.to ≡ Server (record { 0 = n }) → (u : Outcome)
        → Numbers u.world → IsServed plan (mark_delivered w k) m.msg n u → ReadsFit plan calls u.world
    serves_fit accepted k m has n to u numbers x =
        let r = x.step in
        let number : r.state.shard.0 ≡ n = subst (λ (u : Outcome). Numbers u.world) x.is numbers n r.state (get-set_here w.servers n x.state r.state x.there) in
        let f = served_fits plan calls accepted n x.viewing m.msg m.to (o.messages m has) to (o.kept n x.viewing x.keeps) r number x.reads x.answers in
        let ours = subst (λ (r : ServerStep). AllFit plan calls r.sends) (sym x.handles.is)
        (all_of_transactions plan calls _ (server_sends.message_of_transactions plan x.state x.handles.findings m.msg)) in
        subst (λ (u : Outcome). ReadsFit plan calls u.world) (sym x.is) (record {
          messages = more_messages (mark_delivered w k) (Server (record { 0 = n })) (r.sends ++ x.reads.sends) o.messages (both_fit r.sends x.reads.sends ours f.sends);
          kept = λ j z at q h. elim (get-set_cases w.viewing n j x.viewing x.reads.viewing z x.keeps at) [
            | inl e ↦ subst (IsReadAt plan calls q.id q.proc q.group q.args) e.0 (f.kept q (subst (λ (z : Viewing). Has q z.reads) e.1 h))
            | inr e ↦ o.kept j z e.1 q h
          ];
          views = o.views;
        })

    step_fits : (accepted : IsAccepted plan) (sounds : (n : ℕ) (s : CoordState) → slice_get w.coords n ≡ Some s → IsCoordSound (is_view_id plan calls) s) (e : Option Event) (u : Outcome)
        → TellsCalls calls u.world.history → Numbers u.world → Transition plan w e u → ReadsFit plan calls u.world
    step_fits accepted sounds None u tells numbers h = subst (λ (u : Outcome). ReadsFit plan calls u.world) (sym h) o
    step_fits accepted sounds (Some (Submit n proc args)) u tells numbers h = submits_fit n h.0 h.1 proc args u tells h.2
    step_fits accepted sounds (Some (Deliver k)) u tells numbers (m, some, there, h) = go m.to refl h
      where
        has : Has m w.sent
        has = has_at w.sent _ m there

        go : (to : Node) → m.to ≡ to → IsReceived plan (mark_delivered w k) m.msg to u → ReadsFit plan calls u.world
        go (Server shard) to x = serves_fit accepted k m has shard.0 to u numbers x
        go (Coord n) to (s, at, e) =
            let f = message_fits plan calls (is_view_id plan calls) s (sounds n s at) (o.views n s at) m.msg in
            let r = after_message plan s m.msg in
            subst (λ (u : Outcome). ReadsFit plan calls u.world) (sym e)
            (record {
              messages = more_messages (mark_delivered w k) (Coord n) r.sends o.messages f.sends;
              kept = o.kept;
              views = λ j c there v h. elim (get-set_cases w.coords n j s r.state c at there) [
                | inl e ↦ f.views v (subst (λ (c : CoordState). Has v c.views) e.1 h)
                | inr e ↦ o.views j c e.1 v h
              ];
            })
    step_fits accepted sounds (Some (Tick (Server shard))) u tells numbers (s, v, there, keeps, e) =
        let ours = all_of_transactions plan calls (server.tick_sends s) (server_sends.tick_of_transactions plan s) in
        subst (λ (u : Outcome). ReadsFit plan calls u.world) (sym e)
        (record {
          messages = more_messages w (Server (record { 0 = shard.0 })) (server.tick_sends s ++ []) o.messages (both_fit (server.tick_sends s) [] ours (λ out h. absurd h));
          kept = λ j z at q h. elim (get-set_cases w.viewing shard.0 j v v z keeps at) [
            | inl e ↦ o.kept j z (subst (λ j. slice_get w.viewing j ≡ Some z) e.0 (keeps ∙ ap Some (sym e.1))) q h
            | inr e ↦ o.kept j z e.1 q h
          ];
          views = o.views;
        })
    step_fits accepted sounds (Some (Tick (Coord n))) u tells numbers (s, there, e) =
        subst (λ (u : Outcome). ReadsFit plan calls u.world) (sym e)
        (record {
          messages = more_messages w (Coord n) (coord.tick_sends plan s) o.messages (tick_fits plan calls (is_view_id plan calls) s (sounds n s there) (o.views n s there));
          kept = o.kept;
          views = o.views;
        })
    step_fits accepted sounds (Some (Stop shard during)) u tells numbers x =
        by_losing plan w shard.0 during u x (ReadsFit plan calls) o (λ k m sent. record { messages = o.messages; kept = o.kept; views = o.views }) take lose again
      where
        take : (k : ℕ) (m : Envelope) (s : ServerState) (v : Viewing) (r : ServerStep) (q : ReadStep) → IsSentTo w.sent k shard.0 m → slice_get w.servers shard.0 ≡ Some s → slice_get w.viewing shard.0 ≡ Some v → server.Handles plan s m.msg r
            → AnswersReads plan v m.msg r q → u.world.servers ≡ slice_set w.servers shard.0 r.state → u.ran ≡ map (ran_at shard.0) r.ran → ReadsFit plan calls (at_server (mark_delivered w k) shard.0 r q)
        take k m s v r q sent there keeps handles answers servers ran =
            serves_fit accepted k m (has_at w.sent _ m sent.there) shard.0 sent.to (served (mark_delivered w k) shard.0 r q) (subst (λ l. (n : ℕ) (s : ServerState) → slice_get l n ≡ Some s → s.shard.0 ≡ n) servers numbers)
            (record { state = s; there = there; viewing = v; keeps = keeps; step = r; handles = handles; reads = q; answers = answers; is = refl })

        lose : (u : World) (sent : List Envelope) (undelivered : List ℕ) (viewing : List Viewing) → Loses u sent viewing → ReadsFit plan calls u → ReadsFit plan calls (less u sent undelivered viewing)
        lose u sent undelivered viewing l o =
            record {
              messages = λ m h. o.messages m (l.sent m h);
              kept = λ j z at q h. (let y = l.viewing j z at in o.kept j y.0 y.1 q (y.3 q h));
              views = o.views;
            }

        again : (w : World) (s : ServerState) (v : Viewing) → ReadsFit plan calls w → slice_get w.servers shard.0 ≡ Some s → slice_get w.viewing shard.0 ≡ Some v
            → ReadsFit plan calls (at_server w shard.0 (answered s (server.tick_sends s)) (record { viewing = v; sends = [] }))
        again w s v o there keeps =
            let ours = all_of_transactions plan calls (server.tick_sends s) (server_sends.tick_of_transactions plan s) in
            record {
              messages = more_messages w (Server (record { 0 = shard.0 })) (server.tick_sends s ++ []) o.messages (both_fit (server.tick_sends s) [] ours (λ out h. absurd h));
              kept = λ j z at q h. elim (get-set_cases w.viewing shard.0 j v v z keeps at) [
                | inl e ↦ o.kept j z (subst (λ j. slice_get w.viewing j ≡ Some z) e.0 (keeps ∙ ap Some (sym e.1))) q h
                | inr e ↦ o.kept j z e.1 q h
              ];
              views = o.views;
            }

  module _ (b : Beginning) (coords : ℕ) (accepted : IsAccepted plan) where
    begun_fits : ReadsFit plan calls (begun_world plan b coords)
    begun_fits =
        record {
          messages = λ m h. absurd h;
          kept = λ n z at q h. absurd (subst (λ (z : Viewing). Has q z.reads) (found_at (begun_viewing b) 0 plan.program.shards n z at) h);
          views = λ n c at v h. absurd (subst (λ (c : CoordState). Has v c.views) (found_at (protocol.begun_coord b.of_transactions) 0 coords n c at) h);
        }

    -- servers have their numbers
    pub numbers_in_runs : (steps : List Stepped) (w : World) → IsRunFrom plan b coords steps w → TellsCalls calls w.history → Numbers w
    numbers_in_runs steps w run tells n s there =
        let x = beside plan b coords (is_view_id plan calls) steps w run (calls_tell_views plan calls w.history tells) in
        (run_asked plan b.of_transactions coords x.others x.world x.run).numbers n s (subst (λ l. slice_get l n ≡ Some s) (sym x.holds.beside.servers) there)

    -- in every world of a run
    pub reads_fit_in_runs : (steps : List Stepped) (w : World) → IsRunFrom plan b coords steps w → TellsCalls calls w.history → ReadsFit plan calls w
    reads_fit_in_runs steps w at_beginning tells = begun_fits
    reads_fit_in_runs steps w (steps_on {steps = front} {w = v} e o r h) tells =
        let g = grows plan v e o h in
        let before : TellsCalls calls v.history = λ t p a k. subst (TellsCalls calls) g.is tells t p a (has_left (Submitted t p a) v.history g.more k) in
        let sounds = (beside plan b coords (is_view_id plan calls) front v r (calls_tell_views plan calls v.history before)).holds.coords in
        step_fits v (reads_fit_in_runs front v r before) accepted sounds e o tells (numbers_in_runs _ _ (steps_on e o r h) tells) h
