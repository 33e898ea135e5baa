-- Of a coordinator that a run does not have, nothing is heard in it but what its beginning has
use Rattle.std.proofs.Common.{◌≡◌, ◌≢◌, ◌∙◌, inl, inr, ℕ, ℤ, ◌+◌, ◌-◌, ◌≤◌, Bool, true, false, List, [], ◌++◌, Option, Some, None, map, length, sym, subst, arith}
use Rattle.std.proofs.lemmas.List.{length-set}
use Rattle.std.proofs.lemmas.Option.{slice_get_within}
use Rattle.std.specs.Prelude.{slice_get, if◌then◌else◌}
use Rattle.roc_sequence.specs.Lists.{Has}
use Rattle.roc_sequence.proofs.Members.{has_append, from_has_map, has_at}
use Rattle.roc_base.specs.declared.id.TxnId.{TxnId}
use Rattle.roc_base.specs.declared.node.Node.{Node}
use Rattle.roc_base.specs.declared.node.Node.TheVariants.{Server, Coord}
use Rattle.roc_msg.specs.declared.msg.Envelope.{Envelope}
use Rattle.roc_msg.specs.declared.outbox.Outgoing.{Outgoing}
use Rattle.roc_plan.specs.Groups.{Plan, is_view_of}
use Rattle.roc_step.specs.Below.{is_ended}
use Rattle.roc_step.specs.Reads.{AnswersReads, ReadStep}
use Rattle.roc_step.specs.State.{answered, ServerState, ServerStep, Viewing}
use Rattle.roc_step.specs.Step as server
use Rattle.roc_readonly.specs.Round.{first_round}
use Rattle.roc_coord.specs.State.{CoordState}
use Rattle.roc_coord.specs.Step.{after_message}
use Rattle.roc_coord.specs.Submit.{Submission, next_id, new_transaction, accepted, accepted_view, after_submit}
use Rattle.roc_coord.specs.Tick as coord
use Rattle.roc_audit.specs.declared.entry.Entry.{Entry}
use Rattle.roc_law_protocol.specs.Beginnings as protocol
use Rattle.roc_law_protocol.specs.Beginnings.{IsBeginning}
use Rattle.roc_law_protocol.specs.declared.event.Event.{Event}
use Rattle.roc_law_protocol.specs.declared.event.Event.TheVariants.{Submit, Deliver, Tick, Stop}
use Rattle.roc_law_protocol.specs.Happens.{answer_entries}
use Rattle.roc_law_protocol.specs.World.{sent_by}
use Rattle.roc_law_protocol.proofs.Firsts.{found_at}
use Rattle.roc_law_protocol.proofs.SubmissionEnds.{IsAnySubmission, unknown, miscounted, spent, busy, taken, any_submission_is}
use Rattle.roc_law_protocol.proofs.Submissions.{keeps_number}
use Rattle.roc_law_world.specs.World.{World, Beginning, begun_world, mark_delivered, at_server, at_coord}
use Rattle.roc_law_world.specs.Happens.{Outcome, IsSubmissionOf, IsServed, IsReceived}
use Rattle.roc_law_world.specs.Run.{Stepped, Transition, IsRunFrom, at_beginning, steps_on}
use Rattle.roc_law_world.proofs.CoordMarks.{new_starts_none, reads_none, tells_marks, tick_tells}
use Rattle.roc_law_world.proofs.KeptReads.{told_is}
use Rattle.roc_law_world.proofs.Numbered.{IsNumbered, numbered}
use Rattle.roc_law_world.proofs.SameNodes.{run_count}
use Rattle.roc_law_world.proofs.ServerMarks.{IsAbove, KeepsMarks, keeps_marks, tick_marks}
use Rattle.roc_law_world.proofs.Stops.{Loses, less, by_losing}
use Rattle.roc_law_protocol.proofs.Changed.{get-set_cases}

module _ (t : TxnId) where
  -- the coordinator of t is not there, and no watermark above t is told or was heard
  pub record IsUnheard (w : World) : Type 0 where
    pub away : length w.coords ≤ t.coord
    pub told : (m : Envelope) → Has m w.sent → ¬ IsAbove m.msg t
    pub heard : (n : ℕ) (s : ServerState) → slice_get w.servers n ≡ Some s → ¬ (is_ended s.below t ≡ true)

  none_new : (from : Node) (outs : List Outgoing) → ((out : Outgoing) → Has out outs → ¬ IsAbove out.msg t) → (m : Envelope) → Has m (map (sent_by from) outs) → ¬ IsAbove m.msg t
  none_new from outs none m h = let p = from_has_map (sent_by from) m outs h in subst (λ (m : Envelope). ¬ IsAbove m.msg t) (sym p.2) (none p.0 p.1)

  -- ---- a node takes a step

  by_server : (w : World) → IsUnheard w → (n : ℕ) (s : ServerState) (r : ServerStep) (q : ReadStep) → slice_get w.servers n ≡ Some s → ¬ (is_ended r.state.below t ≡ true)
      → ((out : Outgoing) → Has out (r.sends ++ q.sends) → ¬ IsAbove out.msg t) → IsUnheard (at_server w n r q)
  by_server w o n s r q there unheard none =
      record {
        away = o.away;
        told = λ m h. elim (has_append m w.sent (map (sent_by (Server (record { 0 = n }))) (r.sends ++ q.sends)) h) [
          | inl old ↦ o.told m old
          | inr new ↦ none_new (Server (record { 0 = n })) (r.sends ++ q.sends) none m new
        ];
        heard = λ i y at h. elim (get-set_cases w.servers n i s r.state y there at) [
          | inl here ↦ unheard (subst (λ (y : ServerState). is_ended y.below t ≡ true) here.1 h)
          | inr other ↦ o.heard i y other.1 h
        ];
      }

  by_coord : (w : World) → IsUnheard w → (n : ℕ) (after : CoordState) (outs : List Outgoing) (told : List Entry) → ((out : Outgoing) → Has out outs → ¬ IsAbove out.msg t)
      → IsUnheard (at_coord w n after outs told)
  by_coord w o n after outs told none =
      record {
        away = subst (λ k. k ≤ t.coord) (sym (length-set w.coords n after)) o.away;
        told = λ m h. elim (has_append m w.sent (map (sent_by (Coord n)) outs) h) [ inl old ↦ o.told m old | inr new ↦ none_new (Coord n) outs none m new ];
        heard = o.heard;
      }

  ticked : (plan : Plan) (w : World) → IsUnheard w → (n : ℕ) (s : ServerState) (v : Viewing) → slice_get w.servers n ≡ Some s
      → IsUnheard (at_server w n (answered s (server.tick_sends s)) (record { viewing = v; sends = [] }))
  ticked plan w o n s v there =
      by_server w o n s (answered s (server.tick_sends s)) (record { viewing = v; sends = [] }) there (o.heard n s there)
      (λ out h. elim (has_append out (server.tick_sends s) [] h) [ inl j ↦ tick_marks plan s out j t | inr j ↦ absurd j ])

  -- less is told where messages are lost
  lost : (w : World) (sent : List Envelope) (undelivered : List ℕ) (viewing : List Viewing) → Loses w sent viewing → IsUnheard w → IsUnheard (less w sent undelivered viewing)
  lost w sent undelivered viewing l o = record { away = o.away; told = λ m h. o.told m (l.sent m h); heard = o.heard }

  module _ (plan : Plan) (w : World) (o : IsUnheard w) (numbers : IsNumbered w) where
    come : (k : ℕ) → IsUnheard (mark_delivered w k)
    come k = record { away = o.away; told = o.told; heard = o.heard }

    -- who is there is another
    another : (n : ℕ) (s : CoordState) → slice_get w.coords n ≡ Some s → t.coord ≢ n
    another n s there e = let l = slice_get_within w.coords n s there in let a = o.away in omega (arith, e, l, a)

    -- a message is taken
    takes : (k : ℕ) (m : Envelope) → Has m w.sent → (n : ℕ) (s : ServerState) (v : Viewing) (r : ServerStep) (q : ReadStep) → slice_get w.servers n ≡ Some s → server.Handles plan s m.msg r → AnswersReads plan v m.msg r q
        → IsUnheard (at_server (mark_delivered w k) n r q)
    takes k m has n s v r q there handles answers =
        let marks = subst (KeepsMarks s m.msg) (sym handles.is) (keeps_marks plan s handles.findings m.msg) in
        by_server (mark_delivered w k) (come k) n s r q there (λ h. elim (marks.ended t h) [ inl old ↦ o.heard n s there old | inr above ↦ o.told m has above ])
        (λ out h above. elim (has_append out r.sends q.sends h) [
          | inl j ↦ o.heard n s there (marks.told out j t above)
          | inr j ↦ (let p = told_is plan v m.msg r q answers out j in subst (λ (out : Outgoing). IsAbove out.msg t) p.2 above)
        ])

    served : (k : ℕ) (m : Envelope) → Has m w.sent → (n : ℕ) (u : Outcome) → IsServed plan (mark_delivered w k) m.msg n u → IsUnheard u.world
    served k m has n u x = subst (λ (u : Outcome). IsUnheard u.world) (sym x.is) (takes k m has n x.state x.viewing x.step x.reads x.there x.handles x.answers)

    received : (k : ℕ) (m : Envelope) → Has m w.sent → (to : Node) (u : Outcome) → IsReceived plan (mark_delivered w k) m.msg to u → IsUnheard u.world
    received k m has (Server shard) u x = served k m has shard.0 u x
    received k m has (Coord n) u (s, there, is) =
        let r = after_message plan s m.msg in
        subst (λ (u : Outcome). IsUnheard u.world) (sym is)
        (by_coord (mark_delivered w k) (come k) n r.state r.sends (answer_entries r.answer)
        (λ out h above. another n s there (((tells_marks plan s m.msg).told out h t above).0 ∙ ((keeps_number plan s m.msg).number ∙ numbers.numbers n s there))))

    submits : (n : ℕ) (s : CoordState) (proc : ℕ) (args : List ℤ) (u : Outcome) → IsSubmissionOf w n proc args (after_submit plan s proc args) u → IsUnheard u.world
    submits n s proc args u h = go (after_submit plan s proc args) (any_submission_is plan s proc args) h
      where
        kinds : (b : Bool) → IsSubmissionOf w n proc args (if b then accepted_view plan s (first_round (next_id s) proc args) else accepted plan s (new_transaction s proc args)) u → IsUnheard u.world
        kinds true k =
            let r = accepted_view plan s (first_round (next_id s) proc args) in
            subst (λ (u : Outcome). IsUnheard u.world) (sym k) (by_coord w o n r.state r.sends _ (λ out h. reads_none plan (first_round (next_id s) proc args) out h t))
        kinds false k =
            let r = accepted plan s (new_transaction s proc args) in
            subst (λ (u : Outcome). IsUnheard u.world) (sym k) (by_coord w o n r.state r.sends _ (λ out h. new_starts_none plan (new_transaction s proc args) out h t))

        go : (r : Submission) → IsAnySubmission plan s proc args r → IsSubmissionOf w n proc args r u → IsUnheard u.world
        go r (unknown none) k = absurd k
        go r (miscounted e) k = absurd k
        go r (spent there counted l) k = subst (λ (u : Outcome). IsUnheard u.world) (sym k) o
        go r (busy there counted l m) k = subst (λ (u : Outcome). IsUnheard u.world) (sym k) o
        go r (taken there counted l m) k = kinds (is_view_of plan proc) k

    unheard_on : (e : Option Event) (u : Outcome) → Transition plan w e u → IsUnheard u.world
    unheard_on None u h = subst (λ (u : Outcome). IsUnheard u.world) (sym h) o
    unheard_on (Some (Submit n proc args)) u (s, there, h) = submits n s proc args u h
    unheard_on (Some (Deliver k)) u (m, some, stands, h) = received k m (has_at w.sent (k - 1) m stands) m.to u h
    unheard_on (Some (Tick (Server shard))) u (s, v, there, keeps, is) = subst (λ (u : Outcome). IsUnheard u.world) (sym is) (ticked plan w o shard.0 s v there)
    unheard_on (Some (Tick (Coord n))) u (s, there, is) =
        subst (λ (u : Outcome). IsUnheard u.world) (sym is) (record {
          away = o.away;
          told = λ m h. elim (has_append m w.sent (map (sent_by (Coord n)) (coord.tick_sends plan s)) h) [
            | inl old ↦ o.told m old
            | inr new ↦
                none_new (Coord n) (coord.tick_sends plan s) (λ out j above. another n s there ((tick_tells plan s out j t above).0 ∙ numbers.numbers n s there)) m new
          ];
          heard = o.heard;
        })
    unheard_on (Some (Stop shard during)) u x =
        by_losing plan w shard.0 during u x IsUnheard o (λ k m sent. come k)
        (λ k m s v r q sent there keeps handles answers servers ran. takes k m (has_at w.sent (k - 1) m sent.there) shard.0 s v r q there handles answers) lost (λ v s z p there keeps. ticked plan v p shard.0 s z there)

  -- ---- runs

  module _ (plan : Plan) (b : Beginning) (begins : IsBeginning plan b.of_transactions) (coords : ℕ) (late : b.of_transactions.nexts t.coord ≤ t.seq) where
    begun_unheard : coords ≤ t.coord → IsUnheard (begun_world plan b coords)
    begun_unheard away =
        record {
          away = subst (λ k. k ≤ t.coord) (sym (run_count plan b coords [] (begun_world plan b coords) at_beginning)) away;
          told = λ m h. absurd h;
          heard = λ n s at h.
              (let is = found_at (protocol.begun_server b.of_transactions) 0 plan.program.shards n s at in
              let low = begins.ended (0 + n) t (subst (λ (s : ServerState). is_ended s.below t ≡ true) is h) in
              omega (arith, low, late));
        }

    unheard_run : (steps : List Stepped) (w : World) → IsRunFrom plan b coords steps w → coords ≤ t.coord → IsUnheard w
    unheard_run _ _ at_beginning away = begun_unheard away
    unheard_run _ _ (steps_on {steps = steps} {w = w} e o r h) away = unheard_on plan w (unheard_run steps w r away) (numbered plan b coords steps w r) e o h

    pub run_unheard : (steps : List Stepped) (w : World) → IsRunFrom plan b coords steps w → length w.coords ≤ t.coord → IsUnheard w
    run_unheard steps w run away = unheard_run steps w run (subst (λ k. k ≤ t.coord) (run_count plan b coords steps w run) away)
