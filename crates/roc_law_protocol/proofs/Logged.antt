-- A world that a log explains, and what a step of a node makes of both
use Rattle.std.proofs.Common.{◌≡◌, ◌≢◌, ℕ, ℤ, ◌<◌, not, List, [], ◌∷◌, ◌++◌, Some, map, refl, sym, ap, subst, ◌∙◌, ◌⊎◌, inl, inr, arith, append-nil}
use Rattle.std.proofs.lemmas.Bool.{cases_eq}
use Rattle.std.specs.Prelude.{slice_get, slice_set, flat_map}
use Rattle.roc_sequence.specs.Lists.{Has}
use Rattle.roc_sequence.specs.Places.{IsListed, IsListedBefore, is_listed}
use Rattle.roc_sequence.proofs.Members.{has_append, has_one, has_right, from_has_map}
use Rattle.roc_sequence.proofs.Places.{listed_or_not}
use Rattle.roc_sequence.proofs.Appended.{before_front, before_new, listed_either}
use Rattle.roc_sequence.proofs.Filtered.{from_listed_filter}
use Rattle.roc_base.specs.declared.id.TxnId.{TxnId}
use Rattle.roc_base.specs.declared.node.Node.{Node}
use Rattle.roc_base.specs.declared.node.Node.TheVariants.{Server, Coord}
use Rattle.roc_base.specs.TxnId.{is_txn}
use Rattle.roc_base.specs.Equalities.{is_txn-true}
use Rattle.roc_msg.specs.declared.msg.Msg.{Msg}
use Rattle.roc_msg.specs.declared.msg.Msg.TheVariants.{Start, Read, ReadOk}
use Rattle.roc_msg.specs.declared.msg.Envelope.{Envelope}
use Rattle.roc_msg.specs.declared.outbox.Outgoing.{Outgoing}
use Rattle.roc_plan.specs.Groups.{Plan}
use Rattle.roc_whole.specs.Serial as whole
use Rattle.roc_law_orders.specs.Behaviour.{TxnGroup}
use Rattle.roc_law_log.specs.Scheme.{Scheme}
use Rattle.roc_law_log.specs.Log.{Log}
use Rattle.roc_law_log.specs.Steps.{LogSteps, no_steps, new_in}
use Rattle.roc_law_log.specs.Invariants.{LogInvariants, LogGrows}
use Rattle.roc_step.specs.declared.started.StartedGroup.{StartedGroup}
use Rattle.roc_step.specs.State.{answered, ServerState, ServerStep}
use Rattle.roc_step.specs.Step as server
use Rattle.roc_coord.specs.declared.handled.Handled.{Handled}
use Rattle.roc_coord.specs.declared.handled.Handled.TheVariants as answer
use Rattle.roc_coord.specs.declared.transaction.Transaction.{Transaction}
use Rattle.roc_coord.specs.State.{CoordState}
use Rattle.roc_coord.specs.Step.{after_message}
use Rattle.roc_coord.specs.Submit.{next_id, new_transaction, accepted}
use Rattle.roc_audit.specs.declared.entry.Entry.{Entry}
use Rattle.roc_audit.specs.declared.entry.Entry.TheVariants.{Submitted, Answered}
use Rattle.roc_audit.specs.History.{WasSubmitted, WasAnswered, IsAnsweredBefore}
use Rattle.roc_audit.specs.Order.{noted}
use Rattle.roc_audit.proofs.Histories.{submitted_front, before_cases, answered_by_before}
use Rattle.roc_law_protocol.specs.PlanAssumptions.{IsSchemeOf}
use Rattle.roc_law_protocol.specs.Beginnings.{Beginning}
use Rattle.roc_law_protocol.specs.Aside.{transaction_tick_sends}
use Rattle.roc_law_protocol.specs.World.{World, sent_by, mark_delivered, at_coord}
use Rattle.roc_law_protocol.specs.declared.event.Seen.TheVariants as seen
use Rattle.roc_law_protocol.specs.Happens.{RanAt, ran_at, served, undecided, Outcome, answer_entries, IsReceived, Ticks}
use Rattle.roc_law_protocol.specs.Inner.Given.{LogLaws}
use Rattle.roc_law_protocol.proofs.Means.{IsOther, run_of, entry_run, RanMeans, Began, Means, WorldMeans}
use Rattle.roc_law_protocol.proofs.Changed.{get-set_here, get-set_cases, comes_means}
use Rattle.roc_law_protocol.proofs.Explains.{IsExplained}
use Rattle.roc_law_protocol.proofs.Decisions.{decided_are}
use Rattle.roc_law_protocol.proofs.Flattened.{listed_in}
use Rattle.roc_law_protocol.proofs.TakesOn.{Takes, takes_nothing, servers_step}
use Rattle.roc_law_protocol.proofs.KeepsTaken.{AreApart}
use Rattle.roc_law_protocol.proofs.Served.{StartsAre, message_explained, tick_explained}
use Rattle.roc_law_protocol.proofs.NoStarts.{no_starts, no_starts_at_tick}
use Rattle.roc_law_protocol.proofs.Coordinated.{IsCoordinated, message_coordinated, tick_coordinated, submission_coordinated}
use Rattle.roc_law_protocol.proofs.KeptAside.{IsKeptAside}
use Rattle.roc_law_protocol.proofs.AsideSteps.{aside_coordinated}
use Rattle.roc_law_protocol.proofs.Submissions.{AreSubmissions, no_submission, unused}
use Rattle.roc_law_protocol.proofs.AcceptedSubmissions.{Submitting, is_refused, is_accepted}

-- what is asked is what was submitted, by its id; and nothing is asked by an id that was used for no submission
pub record Agrees (asked : TxnId → whole.Call) (w : World) : Type 0 where
  pub proc : (t : TxnId) (p : ℕ) (a : List ℤ) → Has (Submitted t p a) w.history → p ≡ (asked t).procedure
  pub args : (t : TxnId) (p : ℕ) (a : List ℤ) → Has (Submitted t p a) w.history → a ≡ (asked t).arguments
  pub id : (t : TxnId) (p : ℕ) (a : List ℤ) → Has (Submitted t p a) w.history → (asked t).id ≡ t
  pub used : (t : TxnId) (c : CoordState) → slice_get w.coords t.coord ≡ Some c → t.seq < c.next → (asked t).id ≡ t → WasSubmitted w.history t

-- of any shard, and of that of a node
abbrev pub Anywhere : ℕ → Type 0
Anywhere n = Unit {0}

abbrev pub IsOf : Node → ℕ → Type 0
IsOf to n = to ≡ Server (record { 0 = n })

module _ (plan : Plan) (asked : TxnId → whole.Call) (S : Scheme) (start : Beginning) (is : IsSchemeOf plan asked S) (laws : LogLaws S start.store) where
  pub record IsLogged (w : World) (log : Log) : Type 0 where
    pub means : WorldMeans plan asked S start log w
    -- what started, is pending or is to be started was submitted
    pub began : (r : TxnGroup) → Began plan asked S start log r → WasSubmitted w.history r.txn
    pub starts : (m : Envelope) → Has m w.sent → StartsAre (WasSubmitted w.history) m.msg
    pub pending : (n : ℕ) (c : CoordState) → slice_get w.coords n ≡ Some c → (x : Transaction) → Has x c.pending → WasSubmitted w.history x.id
    -- who was answered before another's submission stands before it
    pub in_time : (t u : TxnId) → IsAnsweredBefore w.history t u → IsListed is_txn w.order u → IsListedBefore is_txn w.order t u
    -- what was submitted is a transaction of the run
    pub called : (t : TxnId) → WasSubmitted w.history t → ¬ IsOther asked start t

  -- from a log to a later one these groups run
  pub record RunsOn (log later : Log) (ran : List RanAt) : Type 0 where
    pub steps : LogSteps S start.store log later
    pub grows : LogGrows S start.store log later
    pub groups : later.past.ran ≡ log.past.ran ++ map (λ r. entry_run r.group) ran
    pub each : (r : RanAt) → Has r ran → RanMeans plan asked S start later r

  -- none do
  pub rests : (log : Log) → LogInvariants S start.store log → RunsOn log log []
  rests log i = record { steps = no_steps; grows = laws.grows log log i no_steps; groups = sym (append-nil log.past.ran); each = λ r h. absurd h }

  -- the log goes on with what comes of an event
  abbrev pub GoesOn : World → Log → (Of : ℕ → Type 0) → Outcome → Type 0
  GoesOn w log Of v = (later : Log) × IsLogged v.world later × RunsOn log later v.ran × Takes S start w v.world log later Of v.components

  -- the order has only submitted ones
  pub ordered_submitted : (w : World) (log : Log) → IsLogged w log → (t : TxnId) → IsListed is_txn w.order t → WasSubmitted w.history t
  ordered_submitted w log o t h =
      let i = laws.holds log o.means.reached in
      o.began (run_of t 0) (i.whole t (subst (λ l. IsListed is_txn l t) o.means.order h) 0 ((is.groups t 0).1 (is.some t)))

  starts_later : (h more : List Entry) (m : Msg) → StartsAre (WasSubmitted h) m → StartsAre (WasSubmitted (h ++ more)) m
  starts_later h more (Start id proc group args inputs) k = submitted_front h more id k
  starts_later h more (Read id round proc group args) k = absurd k
  starts_later h more (ReadOk id round group shard versions outs) k = absurd k
  starts_later h more msg k = tt

  pub starts_after : (h : List Entry) (sent : List Envelope) (from : Node) (outs : List Outgoing) → ((m : Envelope) → Has m sent → StartsAre (WasSubmitted h) m.msg) → ((out : Outgoing) → Has out outs → StartsAre (WasSubmitted h) out.msg) → (m : Envelope) → Has m (sent ++ map (sent_by from) outs) → StartsAre (WasSubmitted h) m.msg
  starts_after h sent from outs f g m k = elim (has_append m sent (map (sent_by from) outs) k) [
    | inl j ↦ f m j
    | inr j ↦ (let q = from_has_map (sent_by from) m outs j in subst (λ (m : Envelope). StartsAre (WasSubmitted h) m.msg) (sym q.2) (g q.0 q.1))
  ]

  -- ---- a step of a server

  module _ (w : World) (log : Log) (o : IsLogged w log) where
    i : LogInvariants S start.store log
    i = laws.holds log o.means.reached

    answered_listed : (t : TxnId) (reply : List ℤ) → WasAnswered w.history t reply → IsListed is_txn w.order t
    answered_listed t reply h = subst (λ l. IsListed is_txn l t) (sym o.means.order) (o.means.answered t reply h).throughout.in_order

    -- and so is what began
    pub begun_called : (r : TxnGroup) → Began plan asked S start log r → ¬ IsOther asked start r.txn
    begun_called r h = o.called r.txn (o.began r h)

    -- ---- a step of a server

    pub served_logged : (Of : ℕ → Type 0) (n : ℕ) → Of n → (s : ServerState) (there : slice_get w.servers n ≡ Some s) (r : ServerStep)
        → IsExplained plan asked S start is laws log w o.means n s there (WasSubmitted w.history) begun_called r → r.decided ≡ flat_map (λ c. c) r.components → ((out : Outgoing) → Has out r.sends → StartsAre (WasSubmitted w.history) out.msg)
        → GoesOn w log Of (served w n r)
    served_logged Of n of s there r x one none = (
      x.log,
      record {
        means = x.means;
        began = λ q h. elim (x.began q h) [ inl k ↦ o.began q k | inr k ↦ k ];
        starts = starts_after w.history w.sent (Server (record { 0 = n })) r.sends o.starts none;
        pending = o.pending;
        in_time = λ t u b l. later t u b (listed_or_not is_txn w.order u);
        called = o.called;
      },
      record {
        steps = x.steps;
        grows = g;
        groups = x.ran ∙ ap (λ l. log.past.ran ++ l) (told r.ran);
        each = λ q h. (let e = from_has_map (ran_at n) q r.ran h in subst (RanMeans plan asked S start x.log) (sym e.2) (x.each e.0 e.1));
      },
      record {
        shard = n;
        takes = record { are_decided = x.components; took = λ m t h. taken m t h (cases_eq n m); starts_none = x.starts_none; answers = λ k h. x.answers };
        of = λ k h. of;
        servers = servers_step w n s r there x.keeps;
      },
    )
      where
        taken : (m : ℕ) (t : TxnId) → IsListed is_txn (x.log.decided m) t → (n ≡ m) ⊎ (n ≢ m) → IsListed is_txn (log.decided m) t ⊎ ((n ≡ m) × (k : List TxnId) × Has k r.components × Has t k)
        taken m t h (inr other) = inl (subst (λ l. IsListed is_txn l t) (x.elsewhere m other) h)
        taken m t h (inl same) = elim (listed_either is_txn (log.decided n) (new_in (log.decided n) r.decided) t (subst (λ l. IsListed is_txn l t) x.decides (subst (λ m. IsListed is_txn (x.log.decided m) t) (sym same) h))) [
          | inl k ↦ inl (subst (λ m. IsListed is_txn (log.decided m) t) same k)
          | inr k ↦
              (let f = from_listed_filter is_txn is_txn-true (λ t. not (is_listed is_txn (log.decided n) t)) r.decided t k.1 in
              let q = listed_in r.components t (subst (λ l. IsListed is_txn l t) one f.1) in
              inr (same, q.0, q.1, q.2))
        ]

        g : LogGrows S start.store log x.log
        g = laws.grows log x.log i x.steps

        told : (es : List StartedGroup) → map entry_run es ≡ map (λ r. entry_run r.group) (map (ran_at n) es)
        told [] = refl
        told (e ∷ es) = ap (λ l. entry_run e ∷ l) (told es)

        grown : noted w.order r.decided ≡ w.order ++ g.order.0
        grown = x.means.order ∙ (g.order.1 ∙ ap (λ l. l ++ g.order.0) (sym o.means.order))

        later : (t u : TxnId) → IsAnsweredBefore w.history t u → IsListed is_txn w.order u ⊎ (¬ IsListed is_txn w.order u) → IsListedBefore is_txn (noted w.order r.decided) t u
        later t u b (inl l) = subst (λ l. IsListedBefore is_txn l t u) (sym grown) (before_front is_txn w.order g.order.0 t u (o.in_time t u b l))
        later t u b (inr l) =
            let a = answered_by_before w.history t u b in
            subst (λ l. IsListedBefore is_txn l t u) (sym grown) (before_new is_txn w.order g.order.0 t u (answered_listed t a.0 a.1) l)

    -- ---- a step of a coordinator

    pub apart : (s : ServerState) → slice_get w.servers 0 ≡ Some s → AreApart s.lists.taken
    apart s h = (o.means.servers 0 s h).taken.one

    coordinated_logged : (Of : ℕ → Type 0) (n : ℕ) (s : CoordState) (there : slice_get w.coords n ≡ Some s) (after : CoordState) (outs : List Outgoing) (tells : List Entry)
        → (x : IsCoordinated plan asked S start is laws log i w o.means n s there (WasSubmitted (w.history ++ tells)) (λ x h. submitted_front w.history tells x.id (o.pending n s there x h)) after outs tells)
        → ((t u : TxnId) → IsAnsweredBefore (w.history ++ tells) t u → IsListed is_txn w.order u → IsListedBefore is_txn w.order t u)
        → ((t : TxnId) → WasSubmitted (w.history ++ tells) t → ¬ IsOther asked start t)
        → (later : Log) × IsLogged (at_coord w n after outs tells) later × RunsOn log later [] × Takes S start w (at_coord w n after outs tells) log later Of []
    coordinated_logged Of n s there after outs tells x time called = (
      x.log,
      record {
        means = x.means;
        began = λ r h. submitted_front w.history tells r.txn (o.began r (x.began r h));
        starts = starts_after (w.history ++ tells) w.sent (Coord n) outs (λ m h. starts_later w.history tells m.msg (o.starts m h)) x.starts;
        pending = λ m c e y h. elim (get-set_cases w.coords n m s after c there e) [
          | inl k ↦ x.pending y (subst (λ (c : CoordState). Has y c.pending) k.1 h)
          | inr k ↦ submitted_front w.history tells y.id (o.pending m c k.1 y h)
        ];
        in_time = time;
        called = called;
      },
      record { steps = x.steps; grows = laws.grows log x.log i x.steps; groups = x.ran ∙ sym (append-nil log.past.ran); each = λ r h. absurd h },
      takes_nothing S start w (at_coord w n after outs tells) log x.log Of refl apart x.decided,
    )

    -- where nothing is submitted, and where something is
    called_still : (tells : List Entry) → ((t : TxnId) (p : ℕ) (a : List ℤ) → ¬ Has (Submitted t p a) tells) → (t : TxnId) → WasSubmitted (w.history ++ tells) t → ¬ IsOther asked start t
    called_still tells none t (p, a, h) = elim (has_append (Submitted t p a) w.history tells h) [ inl k ↦ o.called t (p, a, k) | inr k ↦ absurd (none t p a k) ]

    called_more : (n : ℕ) (s : CoordState) → slice_get w.coords n ≡ Some s → (proc : ℕ) (args : List ℤ) → (asked (next_id s)).id ≡ next_id s
        → (t : TxnId) → WasSubmitted (w.history ++ Submitted (next_id s) proc args ∷ []) t → ¬ IsOther asked start t
    called_more n s there proc args own t (p, a, h) = elim (has_append (Submitted t p a) w.history (Submitted (next_id s) proc args ∷ []) h) [
      | inl k ↦ o.called t (p, a, k)
      | inr k ↦
          (let e = has_one (Submitted t p a) (Submitted (next_id s) proc args) k in
          let same : t ≡ next_id s = cc in
          let late = (o.means.coords n s there).onward in
          subst (λ (t : TxnId). ¬ IsOther asked start t) (sym same) (λ other. elim other [ inl early ↦ absurd (omega arith) | inr none ↦ none own ]))
    ]

    -- an answer at the end is before no submission
    answers_last : (a : Handled) (t u : TxnId) → IsAnsweredBefore (w.history ++ answer_entries a) t u → IsAnsweredBefore w.history t u
    answers_last a t u b = elim (before_cases w.history (answer_entries a) t u b) [
      | inl k ↦ k
      | inr k ↦ elim k [ inl m ↦ absurd (none a u m.2) | inr m ↦ absurd (nobody a t u m) ]
    ]
      where
        none : (a : Handled) (u : TxnId) → ¬ WasSubmitted (answer_entries a) u
        none (answer.Answered id reply) u (p, x, inl e) = absurd (cc)
        none (answer.Answered id reply) u (p, x, inr e) = e
        none answer.Done u (p, x, e) = e
        none (answer.Ignored why) u (p, x, e) = e

        nobody : (a : Handled) (t u : TxnId) → ¬ IsAnsweredBefore (answer_entries a) t u
        nobody (answer.Answered id reply) t u (inl (r, e, s)) = s.2
        nobody (answer.Answered id reply) t u (inr b) = b
        nobody answer.Done t u b = b
        nobody (answer.Ignored why) t u b = b

    -- ---- any event

    pub comes_logged : (k : ℕ) → IsLogged (mark_delivered w k) log
    comes_logged k = record { means = comes_means plan asked S start is log w k o.means; began = o.began; starts = o.starts; pending = o.pending; in_time = o.in_time; called = o.called }

    pub tick_logged : (node : Node) (v : Outcome) → Ticks plan w node v → GoesOn w log Anywhere v
    tick_logged (Server shard) v (s, there, e) = subst (GoesOn w log Anywhere) (sym e)
        (served_logged Anywhere shard.0 tt s there (answered s (server.tick_sends s)) (tick_explained plan asked S start is laws log w o.means shard.0 s there (WasSubmitted w.history) begun_called) refl (no_starts_at_tick plan s (WasSubmitted w.history)))
    tick_logged (Coord n) v (s, there, e) = subst (GoesOn w log Anywhere) (sym e)
        (coordinated_logged Anywhere n s there s (transaction_tick_sends plan s) [] (tick_coordinated plan asked S start is laws log i w o.means n s there (WasSubmitted (w.history ++ [])) (λ x h. submitted_front w.history [] x.id (o.pending n s there x h))) (λ t u b. o.in_time t u (subst (λ h. IsAnsweredBefore h t u) (append-nil w.history) b)) (called_still [] (λ t p a h. h)))

    pub receive_logged : (m : Msg) (to : Node) (v : Outcome) → Means plan asked S start log m to → StartsAre (WasSubmitted w.history) m → IsReceived plan w m to v → GoesOn w log (IsOf to) v
    receive_logged m (Server shard) v k f (s, r, there, step, e) = subst (GoesOn w log (IsOf (Server shard))) (sym e)
        (served_logged (IsOf (Server shard)) shard.0 refl s there r (message_explained plan asked S start is laws log w o.means shard.0 s there (WasSubmitted w.history) begun_called m r step k f) (decided_are plan s m r step)
        (subst (λ (r : ServerStep). (out : Outgoing) → Has out r.sends → StartsAre (WasSubmitted w.history) out.msg) (sym step.is) (no_starts plan s (WasSubmitted w.history) step.findings m)))
    receive_logged m (Coord n) v k f (s, there, e) =
        let a = (after_message plan s m).answer in
        subst (GoesOn w log (IsOf (Coord n))) (sym e)
        (coordinated_logged (IsOf (Coord n)) n s there (after_message plan s m).state (after_message plan s m).sends (answer_entries a)
        (message_coordinated plan asked S start is laws log i w o.means n s there (WasSubmitted (w.history ++ answer_entries a)) (λ x h. submitted_front w.history (answer_entries a) x.id (o.pending n s there x h)) m (Coord n) k)
        (λ t u b l. o.in_time t u (answers_last a t u b) l)
        (called_still (answer_entries a) (no_submission a)))

    pub aside_logged : AreSubmissions plan w.history w.coords → (n : ℕ) (s : CoordState) → slice_get w.coords n ≡ Some s → (after : CoordState) (outs : List Outgoing) → IsKeptAside plan s after outs → Agrees asked (at_coord w n after outs [])
        → GoesOn w log Anywhere (undecided seen.Done (at_coord w n after outs []))
    aside_logged a n s there after outs k agrees =
        coordinated_logged Anywhere n s there after outs []
        (aside_coordinated plan asked S start is laws log i w o.means n s there (WasSubmitted (w.history ++ [])) (λ x h. submitted_front w.history [] x.id (o.pending n s there x h)) after outs k
        (λ e. inr (λ own. let was = agrees.used (next_id s) after (subst (λ m. slice_get (slice_set w.coords n after) m ≡ Some after) (sym (a.numbers n s there)) (get-set_here w.coords n s after there)) (omega (arith, e)) own in
        unused plan w.history w.coords a n s there was.0 was.1 (subst (Has (Submitted (next_id s) was.0 was.1)) (append-nil w.history) was.2))))
        (λ t u b. o.in_time t u (subst (λ h. IsAnsweredBefore h t u) (append-nil w.history) b)) (called_still [] (λ t p a h. h))

    pub submit_logged : AreSubmissions plan w.history w.coords → (n proc : ℕ) (args : List ℤ) (s : CoordState) → slice_get w.coords n ≡ Some s → (v : Outcome) → Submitting plan w n proc args s v → Agrees asked v.world → (later : Log) × IsLogged v.world later × RunsOn log later [] × Takes S start w v.world log later Anywhere []
    submit_logged a n proc args s there v (is_refused e) agrees = subst (λ (v : World). (later : Log) × IsLogged v later × RunsOn log later [] × Takes S start w v log later Anywhere []) (sym e) (log, o, rests log i, takes_nothing S start w w log log Anywhere refl apart (λ m. refl))
    submit_logged a n proc args s there v (is_accepted known counted e) agrees =
        let more = Submitted (next_id s) proc args ∷ [] in
        let mine : Has (Submitted (next_id s) proc args) (w.history ++ more) = has_right (Submitted (next_id s) proc args) w.history more (inl refl) in
        let g : Agrees asked (at_coord w n (accepted plan s (new_transaction s proc args)).state (accepted plan s (new_transaction s proc args)).sends more) = subst (Agrees asked) e agrees in
        let x = new_transaction s proc args in
        subst (λ (v : World). (later : Log) × IsLogged v later × RunsOn log later [] × Takes S start w v log later Anywhere []) (sym e)
        (coordinated_logged Anywhere n s there (accepted plan s x).state (accepted plan s x).sends more
        (submission_coordinated plan asked S start is laws log i w o.means n s there (WasSubmitted (w.history ++ more)) (λ y h. submitted_front w.history more y.id (o.pending n s there y h)) proc args more (none (next_id s) proc args) (g.proc (next_id s) proc args mine) (g.args (next_id s) proc args mine) (proc, args, mine))
        (λ t u b l. time t u l (before_cases w.history more t u b))
        (called_more n s there proc args (g.id (next_id s) proc args mine)))
      where
        none : (id : TxnId) (proc : ℕ) (args : List ℤ) (t : TxnId) (reply : List ℤ) → ¬ Has (Answered t reply) (Submitted id proc args ∷ [])
        none id proc args t reply (inl e) = absurd (cc)
        none id proc args t reply (inr e) = e

        time : (t u : TxnId) → IsListed is_txn w.order u
            → IsAnsweredBefore w.history t u ⊎ (((reply : List ℤ) × WasAnswered w.history t reply × WasSubmitted (Submitted (next_id s) proc args ∷ []) u) ⊎ IsAnsweredBefore (Submitted (next_id s) proc args ∷ []) t u)
            → IsListedBefore is_txn w.order t u
        time t u l (inl b) = o.in_time t u b l
        time t u l (inr (inl (reply, was, (p, x, h)))) =
            let e = has_one (Submitted u p x) (Submitted (next_id s) proc args) h in
            let same : u ≡ next_id s = cc in
            let q = ordered_submitted w log o u l in
            absurd (unused plan w.history w.coords a n s there q.0 q.1 (subst (λ u. Has (Submitted u q.0 q.1) w.history) same q.2))
        time t u l (inr (inr (inl (reply, e, was)))) = absurd (was.2)
        time t u l (inr (inr (inr b))) = absurd b
