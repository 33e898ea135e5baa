-- Where the plan has no procedure, nothing is sent but watermarks
use Rattle.std.proofs.Common.{◌≡◌, ◌∙◌, ℕ, ◌<◌, ◌-◌, Bool, true, false, not, List, [], ◌++◌, Option, Some, None, length, map, refl, sym, ap, subst, arith, inl, inr}
use Rattle.std.specs.Prelude.{slice_get, if◌then◌else◌}
use Rattle.std.specs.List.{filter, range_with_len}
use Rattle.std.proofs.Common.{◌==◌, append-nil}
use Rattle.roc_sequence.specs.Places.{is_listed}
use Rattle.roc_base.specs.TxnId.{is_txn}
use Rattle.roc_sequence.specs.Lists.{Has}
use Rattle.roc_sequence.proofs.Members.{has_append, from_has_map, has_at}
use Rattle.roc_base.specs.declared.id.TxnId.{TxnId}
use Rattle.roc_base.specs.declared.node.Node.{Node}
use Rattle.roc_base.specs.declared.node.Node.TheVariants.{Server, Coord}
use Rattle.roc_msg.specs.declared.msg.Envelope.{Envelope}
use Rattle.roc_msg.specs.declared.msg.Msg.{Msg}
use Rattle.roc_msg.specs.declared.msg.Msg.TheVariants.{Ended, Read}
use Rattle.roc_msg.specs.declared.outbox.Outgoing.{Outgoing}
use Rattle.roc_plan.specs.Groups.{Plan}
use Rattle.roc_step.specs.declared.handled.Handled.{Handled}
use Rattle.roc_step.specs.declared.kept_read.KeptRead.{KeptRead}
use Rattle.roc_depgraph.specs.Deps.{is_known}
use Rattle.roc_step.specs.Forgets.{over}
use Rattle.roc_step.specs.Asking.{fetch_from}
use Rattle.roc_step.specs.Lists.{after_ended}
use Rattle.roc_step.specs.Step as server
use Rattle.roc_step.specs.State.{answered, hearing, ServerState, ServerStep, Viewing}
use Rattle.roc_step.specs.Runs.{accesses_of}
use Rattle.roc_step.specs.Reads.{ReadStep, with_accesses, is_taken, answering, reads_with, AnswersReads}
use Rattle.roc_coord.specs.State.{CoordState}
use Rattle.roc_coord.specs.Submit.{after_submit, Submission}
use Rattle.roc_coord.specs.Marks.{watermark, ended_to, ended_sends}
use Rattle.roc_law_protocol.specs.World.{sent_by}
use Rattle.roc_law_protocol.specs.declared.event.Event.{Event}
use Rattle.roc_law_protocol.specs.declared.event.Event.TheVariants.{Submit, Deliver, Tick, Stop}
use Rattle.roc_law_protocol.proofs.Firsts.{found_at}
use Rattle.roc_law_protocol.specs.Beginnings as protocol
use Rattle.roc_law_protocol.proofs.SubmissionEnds.{IsAnySubmission, any_submission_is, unknown, miscounted, spent, busy, taken}
use Rattle.roc_audit.specs.declared.entry.Entry.{Entry}
use Rattle.roc_law_world.specs.World.{World, Beginning, begun_viewing, mark_delivered, at_server}
use Rattle.roc_law_world.specs.Happens.{Outcome, IsSubmissionOf, IsReceived}
use Rattle.roc_law_world.specs.Run.{Stepped, Transition, IsRunFrom, at_beginning, steps_on}
use Rattle.roc_law_world.proofs.AnsweringRuns.{told_in_runs}
use Rattle.roc_law_world.proofs.Stops.{Loses, less, by_losing}
use Rattle.roc_law_world.proofs.WovenOrder.{is_view, tells_them}
use Rattle.roc_two_files.specs.Home.{GoesHome}
use Rattle.roc_two_files.specs.Left.{AreDrained}
use Rattle.roc_two_files.proofs.Drains.{nobody}
use Rattle.roc_two_files.proofs.Late.{run_late}
use Rattle.roc_two_files.proofs.Resting.{deliveries_rest, ticks_rest}
use Rattle.roc_law_protocol.proofs.Changed.{get-set_cases}

abbrev pub IsEnded : Msg → Type 0
IsEnded (Ended coord mark) = Unit {0}
IsEnded msg = ⊥

-- each message is a watermark, no read is kept, and no server waits for a list
pub record HasNoViews (w : World) : Type 0 where
  pub messages : (m : Envelope) → Has m w.sent → IsEnded m.msg
  pub asked : (n : ℕ) (s : ServerState) → slice_get w.servers n ≡ Some s → s.lists.waiting.asked ≡ []
  pub reads : (n : ℕ) (v : Viewing) → slice_get w.viewing n ≡ Some v → v.reads ≡ []

reads_without : (msg : Msg) (a : Handled) (reads : List KeptRead) → IsEnded msg → reads_with msg a reads ≡ reads
reads_without (Read id round proc group args) a reads e = absurd e
reads_without msg a reads e = refl

home : (history : List Entry) (msg : Msg) (to : Node) → IsEnded msg → GoesHome history msg to
home history (Ended coord mark) to e = tt
home history msg to e = absurd e

endeds : (plan : Plan) (s : CoordState) (out : Outgoing) → Has out (ended_sends plan s) → IsEnded out.msg
endeds plan s out h = go (watermark s == 0) h
  where
    go : (b : Bool) → Has out (if b then [] else map (ended_to s) (range_with_len 0 plan.program.shards)) → IsEnded out.msg
    go true h = absurd h
    go false h = let q = from_has_map (ended_to s) out (range_with_len 0 plan.program.shards) h in subst (λ (out : Outgoing). IsEnded out.msg) (sym q.2) tt

-- a server that hears a watermark sends nothing
hears : (plan : Plan) (s : ServerState) (f : server.Findings) (msg : Msg) → IsEnded msg → s.lists.waiting.asked ≡ [] → (r : ServerStep) → r ≡ server.after_message plan s f msg
    → (r.sends ≡ []) × (r.state.lists.waiting.asked ≡ [])
hears plan s f (Ended coord mark) e none r is = subst (λ (r : ServerStep). (r.sends ≡ []) × (r.state.lists.waiting.asked ≡ [])) (sym is) (refl, still)
  where
    gone : TxnId → Bool
    gone t = is_listed is_txn (over (hearing s coord mark).below s.lists.taken) t

    still : (after_ended s coord mark).state.lists.waiting.asked ≡ []
    still = ap (filter (λ a. not (gone a.id))) none
hears plan s f msg e none r is = absurd e

module _ (plan : Plan) (none : length plan.program.procedures ≡ 0) (b : Beginning) (coords : ℕ) where
  no_proc : (p : ℕ) → ¬ (p < length plan.program.procedures)
  no_proc p l = absurd (omega (arith, none, l))

  -- so nothing is ever unanswered
  drained : (steps : List Stepped) (w : World) → IsRunFrom plan b coords steps w → AreDrained w.coords
  drained steps w run n c there =
      nobody c.unanswered
      (λ t h. let s = ((told_in_runs plan b coords (is_view plan b coords steps w run) steps w run (tells_them plan b coords steps w run)).unanswered n c there t h).1 in
      no_proc s.0 ((run_late plan b coords steps w run).known t s.0 s.1 s.2).0)

  sends_none : (w : World) → HasNoViews w → (from : Node) (outs : List Outgoing) → ((out : Outgoing) → Has out outs → IsEnded out.msg)
      → (m : Envelope) → Has m (w.sent ++ map (sent_by from) outs) → IsEnded m.msg
  sends_none w o from outs plain m h = elim (has_append m w.sent (map (sent_by from) outs) h) [
    | inl k ↦ o.messages m k
    | inr k ↦ (let q = from_has_map (sent_by from) m outs k in subst (λ (m : Envelope). IsEnded m.msg) (sym q.2) (plain q.0 q.1))
  ]

  -- a server takes a watermark
  takes : (w : World) → HasNoViews w → (k : ℕ) (msg : Msg) → IsEnded msg → (n : ℕ) (s : ServerState) (v : Viewing) (r : ServerStep) (q : ReadStep)
      → slice_get w.servers n ≡ Some s → slice_get w.viewing n ≡ Some v → server.Handles plan s msg r → AnswersReads plan v msg r q → HasNoViews (at_server (mark_delivered w k) n r q)
  takes w o k msg plain n s v r q there keeps handles answers =
      record {
        messages = sends_none w o (Server (record { 0 = n })) (r.sends ++ q.sends)
            (λ out i. elim (has_append out r.sends q.sends i) [
              | inl j ↦ absurd (subst (Has out) silent.0 j)
              | inr j ↦ absurd (subst (Has out) nothing.0 j)
            ]);
        asked = λ j x at. elim (get-set_cases w.servers n j s r.state x there at) [
          | inl e ↦ ap (λ (s : ServerState). s.lists.waiting.asked) e.1 ∙ silent.1
          | inr e ↦ o.asked j x e.1
        ];
        reads = λ j x at. elim (get-set_cases w.viewing n j v q.viewing x keeps at) [
          | inl e ↦ ap (λ (v : Viewing). v.reads) e.1 ∙ nothing.1
          | inr e ↦ o.reads j x e.1
        ];
      }
    where
      silent : (r.sends ≡ []) × (r.state.lists.waiting.asked ≡ [])
      silent = hears plan s handles.findings msg plain (o.asked n s there) r handles.is

      same : reads_with msg r.answer v.reads ≡ []
      same = reads_without msg r.answer v.reads plain ∙ o.reads n v keeps

      nothing : (q.sends ≡ []) × (q.viewing.reads ≡ [])
      nothing = subst (λ (q : ReadStep). (q.sends ≡ []) × (q.viewing.reads ≡ [])) (sym answers.is) (of (is_taken r.answer))
        where
          taken : List KeptRead → ReadStep
          taken reads = answering plan answers.decided r.state (with_accesses v.versions (accesses_of r.ran)) reads

          of : (b : Bool)
              → ((if b then taken (reads_with msg r.answer v.reads) else record { viewing = v; sends = [] }).sends ≡ [])
              × ((if b then taken (reads_with msg r.answer v.reads) else record { viewing = v; sends = [] }).viewing.reads ≡ [])
          of true = (ap (λ rs. (taken rs).sends) same, ap (λ rs. (taken rs).viewing.reads) same)
          of false = (refl, o.reads n v keeps)

  -- a server's tick sends nothing
  ticks : (w : World) → HasNoViews w → (n : ℕ) (s : ServerState) (v : Viewing) → slice_get w.servers n ≡ Some s → slice_get w.viewing n ≡ Some v
      → HasNoViews (at_server w n (answered s (server.tick_sends s)) (record { viewing = v; sends = [] }))
  ticks w o n s v there keeps =
      record {
        messages = λ m i. o.messages m (subst (Has m) quiet i);
        asked = λ j x at. elim (get-set_cases w.servers n j s s x there at) [
          | inl e ↦ ap (λ (s : ServerState). s.lists.waiting.asked) e.1 ∙ o.asked n s there
          | inr e ↦ o.asked j x e.1
        ];
        reads = λ j x at. elim (get-set_cases w.viewing n j v v x keeps at) [
          | inl e ↦ ap (λ (v : Viewing). v.reads) e.1 ∙ o.reads n v keeps
          | inr e ↦ o.reads j x e.1
        ];
      }
    where
      quiet : w.sent ++ map (sent_by (Server (record { 0 = n }))) (server.tick_sends s ++ []) ≡ w.sent
      quiet =
          ap (λ outs. w.sent ++ map (sent_by (Server (record { 0 = n }))) (outs ++ [])) (ap (λ l. map (fetch_from s.shard) (filter (λ a. not (is_known s.lists.known a.id)) l)) (o.asked n s there))
          ∙ append-nil w.sent

  -- with fewer messages and reads there are none either
  loses : (w : World) (sent : List Envelope) (undelivered : List ℕ) (viewing : List Viewing) → Loses w sent viewing → HasNoViews w → HasNoViews (less w sent undelivered viewing)
  loses w sent undelivered viewing l o =
      record {
        messages = λ m h. o.messages m (l.sent m h);
        asked = o.asked;
        reads = λ n z at. (let y = l.viewing n z at in nobody z.reads (λ x h. subst (Has x) (o.reads n y.0 y.1) (y.3 x h)));
      }

  step : (steps : List Stepped) (w : World) → IsRunFrom plan b coords steps w → HasNoViews w → (e : Option Event) (u : Outcome) → Transition plan w e u → HasNoViews u.world
  step steps w run o None u h = subst (λ (u : Outcome). HasNoViews u.world) (sym h) o
  step steps w run o (Some (Submit n proc args)) u (s, there, h) = go (after_submit plan s proc args) (any_submission_is plan s proc args) h
    where
      go : (r : Submission) → IsAnySubmission plan s proc args r → IsSubmissionOf w n proc args r u → HasNoViews u.world
      go r (unknown lacks) k = absurd k
      go r (miscounted e) k = absurd k
      go r (spent known counted l) k = absurd (no_proc proc known)
      go r (busy known counted l m) k = absurd (no_proc proc known)
      go r (taken known counted l m) k = absurd (no_proc proc known)
  step steps w run o (Some (Deliver k)) u (m, some, there, h) = go m.to refl h
    where
      go : (to : Node) → m.to ≡ to → IsReceived plan (mark_delivered w k) m.msg to u → HasNoViews u.world
      go (Server shard) to g =
          subst (λ (u : Outcome). HasNoViews u.world) (sym g.is)
          (takes w o k m.msg (o.messages m (has_at w.sent (k - 1) m there)) shard.0 g.state g.viewing g.step g.reads g.there g.keeps g.handles g.answers)
      go (Coord n) to g =
          let r = deliveries_rest plan b coords steps w run (drained steps w run) k m n u there to (m, some, there, subst (λ to. IsReceived plan (mark_delivered w k) m.msg to u) (sym to) g) in
          subst (λ (u : Outcome). HasNoViews u.world) (sym r.1) (record { messages = o.messages; asked = o.asked; reads = o.reads })
  step steps w run o (Some (Tick (Server shard))) u (s, v, there, keeps, e) = subst (λ (u : Outcome). HasNoViews u.world) (sym e) (ticks w o shard.0 s v there keeps)
  step steps w run o (Some (Tick (Coord n))) u h =
      let r = ticks_rest plan b coords steps w run (drained steps w run) n u h in
      subst (λ (u : Outcome). HasNoViews u.world) (sym r.2) (record { messages = sends_none w o (Coord n) (ended_sends plan r.0) (endeds plan r.0); asked = o.asked; reads = o.reads })
  step steps w run o (Some (Stop shard during)) u x =
      by_losing plan w shard.0 during u x HasNoViews o (λ k m sent. record { messages = o.messages; asked = o.asked; reads = o.reads })
      (λ k m s v r q sent there keeps handles answers servers ran. takes w o k m.msg (o.messages m (has_at w.sent (k - 1) m sent.there)) shard.0 s v r q there keeps handles answers)
      loses (λ v s z p there keeps. ticks v p shard.0 s z there keeps)

  pub no_views : (steps : List Stepped) (w : World) → IsRunFrom plan b coords steps w → HasNoViews w
  no_views steps w at_beginning =
      record {
        messages = λ m h. absurd h;
        asked = λ n s at. ap (λ (s : ServerState). s.lists.waiting.asked) (found_at (protocol.begun_server b.of_transactions) 0 plan.program.shards n s at);
        reads = λ n v at. ap (λ (v : Viewing). v.reads) (found_at (begun_viewing b) 0 plan.program.shards n v at);
      }
  no_views steps w (steps_on {w = v} e o r h) = step _ v r (no_views _ v r) e o h

  -- so whatever is in the network is a watermark
  pub bare_home : (steps : List Stepped) (w : World) → IsRunFrom plan b coords steps w → (m : Envelope) → Has m w.sent → GoesHome w.history m.msg m.to
  bare_home steps w run m h = home w.history m.msg m.to ((no_views steps w run).messages m h)
