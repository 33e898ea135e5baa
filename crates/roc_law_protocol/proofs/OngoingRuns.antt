-- In every world each submitted transaction is answered or goes on, and what was delivered to a coordinator was taken
use Rattle.std.proofs.Common.{◌≡◌, ◌≢◌, ℕ, ℤ, suc, ◌-◌, ◌<◌, true, List, [], ◌∷◌, ◌++◌, Option, Some, None, length, refl, sym, ap, subst, ◌∙◌, inl, inr, arith}
use Rattle.std.specs.Prelude.{slice_get, slice_set}
use Rattle.roc_merge_groups.proofs.Elements.{has_range}
use Rattle.roc_sequence.specs.Lists.{Has}
use Rattle.roc_sequence.proofs.Members.{has_one, has_right, has_at}
use Rattle.roc_base.specs.declared.id.TxnId.{TxnId}
use Rattle.roc_base.specs.declared.node.Node.{Node}
use Rattle.roc_base.specs.declared.node.Node.TheVariants.{Server, Coord}
use Rattle.roc_base.specs.declared.node.Shard.{Shard}
use Rattle.roc_msg.specs.declared.msg.Msg.{Msg}
use Rattle.roc_msg.specs.declared.msg.Msg.TheVariants.{Start, StartOk, ReadOk}
use Rattle.roc_msg.specs.declared.msg.Envelope.{Envelope}
use Rattle.roc_msg.specs.declared.outbox.Outgoing.{Outgoing}
use Rattle.roc_plan.specs.Groups.{Plan, groups_of}
use Rattle.roc_whole.specs.Serial as whole
use Rattle.roc_law_log.specs.Scheme.{Scheme}
use Rattle.roc_law_log.specs.Log.{Log}
use Rattle.roc_law_log.specs.Invariants.{LogInvariants}
use Rattle.roc_step.specs.State.{answered, ServerStep, ServerState}
use Rattle.roc_step.specs.Step as server
use Rattle.roc_coord.specs.declared.transaction.Transaction.{Transaction}
use Rattle.roc_coord.specs.State.{CoordState}
use Rattle.roc_coord.specs.Starts.{group_numbers, with_starts, all_started}
use Rattle.roc_coord.specs.Step.{after_message}
use Rattle.roc_coord.specs.Submit.{next_id, new_transaction, accepted}
use Rattle.roc_audit.specs.declared.entry.Entry.{Entry}
use Rattle.roc_audit.specs.declared.entry.Entry.TheVariants.{Submitted, Answered}
use Rattle.roc_law_protocol.specs.Aside.{transaction_tick_sends}
use Rattle.roc_law_protocol.specs.declared.event.Event.{Event}
use Rattle.roc_law_protocol.specs.declared.event.Event.TheVariants.{Submit, Deliver, Tick, Stop}
use Rattle.roc_law_protocol.specs.PlanAssumptions.{IsSchemeOf}
use Rattle.roc_law_protocol.specs.Beginnings.{Beginning, IsBeginning, begun_coord}
use Rattle.roc_law_protocol.specs.World.{World, mark_delivered, at_server, at_coord}
use Rattle.roc_law_protocol.specs.Happens.{Outcome, answer_entries, IsReceived, IsSentTo}
use Rattle.roc_law_protocol.specs.Run.{Stepped}
use Rattle.roc_law_protocol.specs.Beside.{Moves, IsRunBeside, beside_begins, beside_goes_on}
use Rattle.roc_law_protocol.specs.Quiet.{WasDelivered}
use Rattle.roc_law_protocol.specs.Inner.Given.{LogLaws, StoreLaws}
use Rattle.roc_law_protocol.proofs.Means.{run_of, Means}
use Rattle.roc_law_protocol.proofs.Changed.{get-set_here}
use Rattle.roc_law_protocol.proofs.Replies.{few_place}
use Rattle.roc_law_protocol.proofs.Rounds.{told}
use Rattle.roc_law_protocol.proofs.Coordinators.{below_number}
use Rattle.roc_law_protocol.proofs.Coordinated.{message_coordinated, tick_coordinated, submission_coordinated}
use Rattle.roc_law_protocol.proofs.Served.{StartsAre}
use Rattle.roc_law_protocol.proofs.NoStarts.{no_starts, no_starts_at_tick}
use Rattle.roc_law_protocol.proofs.Submissions.{AreSubmissions, no_submission, unused}
use Rattle.roc_law_protocol.proofs.Firsts.{found_at}
use Rattle.roc_law_protocol.proofs.AcceptedSubmissions.{Submitting, is_refused, is_accepted, submitting, submissions_from}
use Rattle.roc_law_protocol.proofs.Logged.{comes_logged, Agrees, IsLogged}
use Rattle.roc_law_protocol.proofs.Onward.{agrees_before}
use Rattle.roc_law_protocol.proofs.Witness.{run_logged}
use Rattle.roc_law_protocol.proofs.KeptAside.{IsKeptAside, kept_aside}
use Rattle.roc_law_protocol.proofs.Networks.{IsNetworked}
use Rattle.roc_law_protocol.proofs.Finals.{run_networked, comes_networked}
use Rattle.roc_law_protocol.proofs.Pending.{IsPending}
use Rattle.roc_law_protocol.proofs.PendingRuns.{run_pending}
use Rattle.roc_law_protocol.proofs.Staleness.{message_stale}
use Rattle.roc_law_protocol.proofs.Taken.{IsTakenBy, message_taken}
use Rattle.roc_law_protocol.proofs.OutstandingSteps.{Proceeds, IsOfGroup, same, message_goes_on, submission_goes_on, same_aside}
use Rattle.roc_law_protocol.proofs.Undelivered.{delivered_before, delivered_or_comes}
use Rattle.roc_law_protocol.proofs.Ongoing.{IsOngoing, served_ongoing, answered_submitted, still_taken, not_answered, coordinated_ongoing}
use Rattle.roc_step.specs.Restarts.{cut_short}
use Rattle.roc_law_protocol.proofs.Stops.{by_stop}
use Rattle.roc_law_protocol.proofs.Stopping.{take_has}

-- what was delivered to a coordinator was taken
pub record AreTaken (w : World) : Type 0 where
  pub each :
      (k number : ℕ) (m : Envelope) (c : CoordState) → slice_get w.sent k ≡ Some m → WasDelivered w (suc k) → m.to ≡ Coord number
      → slice_get w.coords number ≡ Some c → IsTakenBy c.pending m.msg

-- a coordinator's step, where what was delivered is taken then
coordinated_taken : (w : World) (n : ℕ) (after : CoordState) (outs : List Outgoing) (tells : List Entry)
    → ((k number : ℕ) (m : Envelope) (c : CoordState) → slice_get w.sent k ≡ Some m → WasDelivered w (suc k) → m.to ≡ Coord number → slice_get (slice_set w.coords n after) number ≡ Some c → IsTakenBy c.pending m.msg)
    → AreTaken (at_coord w n after outs tells)
coordinated_taken w n after outs tells old = record { each = λ k number m c e d to f. (let q = delivered_before w (Coord n) outs k m e d in old k number m c q.0 q.1 to f) }

-- a server's step, where what was delivered to coordinators was taken
served_taken : (w : World) (n : ℕ) (r : ServerStep)
    → ((k number : ℕ) (m : Envelope) (c : CoordState) → slice_get w.sent k ≡ Some m → WasDelivered w (suc k) → m.to ≡ Coord number → slice_get w.coords number ≡ Some c → IsTakenBy c.pending m.msg)
    → AreTaken (at_server w n r)
served_taken w n r old = record { each = λ k number m c e d to f. (let q = delivered_before w (Server (record { 0 = n })) r.sends k m e d in old k number m c q.0 q.1 to f) }

-- message k came: what was delivered is it, or was delivered before
came : (w : World) (k : ℕ) (m : Envelope) → 0 < k → slice_get w.sent (k - 1) ≡ Some m → (place : ℕ) (b : Envelope) → slice_get w.sent place ≡ Some b → WasDelivered (mark_delivered w k) (suc place)
    → (P : Envelope → Type 0) → P m → (WasDelivered w (suc place) → P b) → P b
came w k m some there place b e d P now before = elim (delivered_or_comes w k (suc place) d) [
  | inl f ↦
      (let at : k - 1 ≡ place = omega arith in
      let x = subst (λ at. slice_get w.sent at ≡ Some m) at there in
      let same_message : m ≡ b = cc in
      subst P same_message now)
  | inr g ↦ before g
]

module _ (plan : Plan) (asked : TxnId → whole.Call) (S : Scheme) (start : Beginning) (is : IsSchemeOf plan asked S) (laws : LogLaws S start.store) where
  module _ (w : World) (log : Log) (l : IsLogged plan asked S start is laws w log) (subs : AreSubmissions plan w.history w.coords) (o : IsPending plan w) (g : IsOngoing plan w) where
    i : LogInvariants S start.store log
    i = laws.holds log l.means.reached

    -- a startok is of a group of its procedure
    of_group : (n : ℕ) (s : CoordState) → slice_get w.coords n ≡ Some s → (msg : Msg) → Means plan asked S start log msg (Coord n) → IsOfGroup plan s.pending msg
    of_group n s there (StartOk id group shard bound outs edges facts) m = (
      subst (λ n. n < 64) (sym m.1) (few_place plan asked S start is log i (run_of id group)),
      λ x h e.
          (let below = (is.groups id group).0 (i.are_groups (run_of id group) m.0.began) in
          below_number plan asked S start is log i x (told plan asked S start is log i x ((l.means.coords n s there).pending x h)) group
          (subst (λ t. group < length (groups_of plan (asked t).procedure)) (sym e) below)),
    )
    of_group n s there (Start id proc group args inputs) m = tt
    of_group n s there (ReadOk id round group shard versions outs) m = m
    of_group n s there msg m = tt

    module _ (n : ℕ) (s : CoordState) (there : slice_get w.coords n ≡ Some s) where
      is_whole : (x : Transaction) → Has x s.pending → (a : Shard) → Has a x.asked → all_started plan x ≡ true
      is_whole x h a k = (((l.means.coords n s there).pending x h).asked_whole a k).0

      not_of : (t : TxnId) (reply : List ℤ) → Has (Answered t reply) w.history → (x : Transaction) → Has x s.pending → x.id ≢ t
      not_of = not_answered plan asked S start is laws w log l subs o g n s there

      -- ---- a tick

      tick_goes : Proceeds plan w.sent (Coord n) s s (transaction_tick_sends plan s) []
      tick_goes = same plan w.sent (Coord n) s (o.once n s there) (g.holds n s there) is_whole (transaction_tick_sends plan s)

      tick_ongoing : IsOngoing plan (at_coord w n s (transaction_tick_sends plan s) [])
      tick_ongoing =
          coordinated_ongoing plan asked S start is laws w log l subs o g n s there s (transaction_tick_sends plan s) [] tick_goes (λ t proc args h. absurd h)
          (λ t reply h. (tick_coordinated plan asked S start is laws log i w l.means n s there (λ u. u ≢ t) (not_of t reply h)).starts)

      -- ---- aside

      module _ (after : CoordState) (outs : List Outgoing) (k : IsKeptAside plan s after outs) where
        aside_goes : Proceeds plan w.sent (Coord n) s after outs []
        aside_goes = same_aside plan w.sent (Coord n) s (o.once n s there) (g.holds n s there) is_whole after k.pending outs

        aside_ongoing : IsOngoing plan (at_coord w n after outs [])
        aside_ongoing =
            coordinated_ongoing plan asked S start is laws w log l subs o g n s there after outs [] aside_goes (λ t proc args h. absurd h)
            (λ t reply h out j. subst (λ (out : Outgoing). StartsAre (λ u. u ≢ t) out.msg) (sym (k.marks out j).is) tt)

      -- ---- a message

      message_goes : (msg : Msg) → Means plan asked S start log msg (Coord n) → Proceeds plan w.sent (Coord n) s (after_message plan s msg).state (after_message plan s msg).sends (answer_entries (after_message plan s msg).answer)
      message_goes msg m = message_goes_on plan w.sent (Coord n) s (o.once n s there) (g.holds n s there) is_whole msg (of_group n s there msg m)

      message_ongoing : (msg : Msg) → Means plan asked S start log msg (Coord n) → IsOngoing plan (at_coord w n (after_message plan s msg).state (after_message plan s msg).sends (answer_entries (after_message plan s msg).answer))
      message_ongoing msg m =
          coordinated_ongoing plan asked S start is laws w log l subs o g n s there (after_message plan s msg).state (after_message plan s msg).sends (answer_entries (after_message plan s msg).answer) (message_goes msg m)
          (λ t proc args h. absurd (no_submission (after_message plan s msg).answer t proc args h))
          (λ t reply h. (message_coordinated plan asked S start is laws log i w l.means n s there (λ u. u ≢ t) (not_of t reply h) msg (Coord n) m).starts)

      -- ---- a submission

      module _ (proc : ℕ) (args : List ℤ) (p : proc ≡ (asked (next_id s)).procedure) (a : args ≡ (asked (next_id s)).arguments) where
        abbrev tells : List Entry
        tells = Submitted (next_id s) proc args ∷ []

        no_answer : (t : TxnId) (reply : List ℤ) → ¬ Has (Answered t reply) tells
        no_answer t reply (inl e) = absurd (cc)
        no_answer t reply (inr h) = h

        number : Has 0 (group_numbers plan proc)
        number = let some = subst (λ proc. 0 < length (groups_of plan proc)) (sym p) (is.some (next_id s)) in has_range 0 (length (groups_of plan proc)) 0 (omega arith) (omega arith)

        submission_goes : Proceeds plan w.sent (Coord n) s (accepted plan s (new_transaction s proc args)).state (accepted plan s (new_transaction s proc args)).sends tells
        submission_goes = submission_goes_on plan w.sent (Coord n) s (o.once n s there) (g.holds n s there) is_whole proc args 0 number tells no_answer

        submission_ongoing : IsOngoing plan (at_coord w n (accepted plan s (new_transaction s proc args)).state (accepted plan s (new_transaction s proc args)).sends tells)
        submission_ongoing =
            coordinated_ongoing plan asked S start is laws w log l subs o g n s there (accepted plan s (new_transaction s proc args)).state (accepted plan s (new_transaction s proc args)).sends tells submission_goes new
            (λ t reply h. (submission_coordinated plan asked S start is laws log i w l.means n s there (λ u. u ≢ t) (not_of t reply h) proc args tells no_answer p a (fresh t reply h)).starts)
          where
            new : (t : TxnId) (q : ℕ) (x : List ℤ) → Has (Submitted t q x) tells → (t.coord ≡ n) × (y : Transaction) × Has y (accepted plan s (new_transaction s proc args)).state.pending × (y.id ≡ t)
            new t q x h =
                let k : Submitted t q x ≡ Submitted (next_id s) proc args = has_one (Submitted t q x) (Submitted (next_id s) proc args) h in
                let same_id : t ≡ next_id s = cc in (
                  ap (λ (t : TxnId). t.coord) same_id ∙ subs.numbers n s there,
                  with_starts plan (new_transaction s proc args),
                  has_right (with_starts plan (new_transaction s proc args)) s.pending (with_starts plan (new_transaction s proc args) ∷ []) (inl refl),
                  sym same_id,
                )

            fresh : (t : TxnId) (reply : List ℤ) → Has (Answered t reply) w.history → next_id s ≢ t
            fresh t reply h e = let q = answered_submitted plan asked S start is laws w log l t reply h in absurd (unused plan w.history w.coords subs n s there q.0 q.1 (subst (λ t. Has (Submitted t q.0 q.1) w.history) (sym e) q.2))

  -- ---- worlds

  -- what holds in a world
  abbrev Goes : World → Type 0
  Goes w = IsOngoing plan w × AreTaken w

  module _ (w : World) (log : Log) (l : IsLogged plan asked S start is laws w log) (nw : IsNetworked plan asked S start is laws w) (subs : AreSubmissions plan w.history w.coords) (o : IsPending plan w) (g : IsOngoing plan w) (a : AreTaken w) where
    -- where no message came
    kept_taken : (n : ℕ) (s after : CoordState) (outs : List Outgoing) (tells : List Entry) → slice_get w.coords n ≡ Some s → Proceeds plan w.sent (Coord n) s after outs tells → AreTaken (at_coord w n after outs tells)
    kept_taken n s after outs tells there k =
        coordinated_taken w n after outs tells
        (λ j number m c e d to f. still_taken plan asked S start is laws w log l subs o n s there after k.before m (has_at w.sent j m e) number c (λ b h. a.each j number m b e d to h) f)

    submit_ongoing : (n proc : ℕ) (args : List ℤ) (s : CoordState) → slice_get w.coords n ≡ Some s → (v : Outcome) → Submitting plan w n proc args s v → Agrees asked v.world → Goes v.world
    submit_ongoing n proc args s there v (is_refused e) fits = subst Goes (sym e) (g, a)
    submit_ongoing n proc args s there v (is_accepted known counted e) fits =
        let more = Submitted (next_id s) proc args ∷ [] in
        let r = accepted plan s (new_transaction s proc args) in
        let f : Agrees asked (at_coord w n r.state r.sends more) = subst (Agrees asked) e fits in
        let mine : Has (Submitted (next_id s) proc args) (w.history ++ more) = has_right (Submitted (next_id s) proc args) w.history more (inl refl) in
        let p = f.proc (next_id s) proc args mine in
        let x = f.args (next_id s) proc args mine in
        subst Goes (sym e) (
          submission_ongoing w log l subs o g n s there proc args p x,
          kept_taken n s (accepted plan s (new_transaction s proc args)).state (accepted plan s (new_transaction s proc args)).sends more there (submission_goes w log l subs o g n s there proc args p x),
        )

    tick_all : (node : Node) (v : Outcome) → Moves plan w (Some (Tick node)) v → Goes v.world
    tick_all (Server shard) v (s, there, e) = subst (λ (v : Outcome). Goes v.world) (sym e) (
      served_ongoing plan w g shard.0 (answered s (server.tick_sends s)) (λ t. no_starts_at_tick plan s (λ u. u ≢ t)),
      served_taken w shard.0 (answered s (server.tick_sends s)) a.each,
    )
    tick_all (Coord n) v (s, there, e) = subst (λ (v : Outcome). Goes v.world) (sym e) (
      tick_ongoing w log l subs o g n s there,
      kept_taken n s s (transaction_tick_sends plan s) [] there (tick_goes w log l subs o g n s there),
    )

    -- ---- a delivery

    module _ (k : ℕ) (m : Envelope) (some : 0 < k) (there : slice_get w.sent (k - 1) ≡ Some m) where
      abbrev u : World
      u = mark_delivered w k

      on_way : IsLogged plan asked S start is laws u log
      on_way = comes_logged plan asked S start is laws w log l k

      pending : IsPending plan u
      pending = record { own = o.own; once = o.once; starts = o.starts; lists = o.lists; servers = o.servers }

      ongoing : IsOngoing plan u
      ongoing = record { submitted = g.submitted; holds = g.holds; gone = g.gone; out = λ t reply h. record { each = (g.out t reply h).each } }

      has : Has m w.sent
      has = has_at w.sent (k - 1) m there

      receive_all : (to : Node) → m.to ≡ to → (v : Outcome) → IsReceived plan u m.msg to v → Goes v.world
      receive_all (Server shard) to v (s, r, at, step, e) = subst (λ (v : Outcome). Goes v.world) (sym e) (
        served_ongoing plan u ongoing shard.0 r (λ t. subst (λ (r : ServerStep). (out : Outgoing) → Has out r.sends → StartsAre (λ u. u ≢ t) out.msg) (sym step.is) (no_starts plan s (λ u. u ≢ t) step.findings m.msg)),
        served_taken u shard.0 r
            (λ j number b c f d back h. came w k m some there j b f d (λ b. b.to ≡ Coord number → IsTakenBy c.pending b.msg) (λ x. absurd (let y = to in cc)) (λ d x. a.each j number b c f d x h) back),
      )
      receive_all (Coord n) to v (s, at, e) =
          let means = subst (Means plan asked S start log m.msg) to (l.means.messages m has) in
          let after = (after_message plan s m.msg).state in
          let goes = message_goes u log on_way subs pending ongoing n s at m.msg means in
          let taken = message_taken plan s (o.once n s at) m.msg (message_stale plan asked S start is laws u log on_way (comes_networked plan asked S start is laws w log l nw k) pending ongoing.gone n s at m has to) in
          subst (λ (v : Outcome). Goes v.world) (sym e) (
            message_ongoing u log on_way subs pending ongoing n s at m.msg means,
            coordinated_taken u n after (after_message plan s m.msg).sends (answer_entries (after_message plan s m.msg).answer)
                (λ j number b c f d back h.
                came w k m some there j b f d (λ b. b.to ≡ Coord number → IsTakenBy c.pending b.msg)
                (λ x. here n s after at number c (let y = to in cc) h m.msg taken)
                (λ d x. still_taken plan asked S start is laws u log on_way subs pending n s at after goes.before b (has_at w.sent j b f) number c (λ b2 h2. a.each j number b b2 f d x h2) h)
                back),
          )
        where
          here : (n : ℕ) (s after : CoordState) → slice_get w.coords n ≡ Some s → (number : ℕ) (c : CoordState) → n ≡ number → slice_get (slice_set w.coords n after) number ≡ Some c → (msg : Msg) → IsTakenBy after.pending msg → IsTakenBy c.pending msg
          here n s after at number c same h msg k =
              let x = get-set_here w.coords n s after at in
              let y = subst (λ number. slice_get (slice_set w.coords n after) number ≡ Some c) (sym same) h in
              let one : after ≡ c = cc in
              subst (λ (c : CoordState). IsTakenBy c.pending msg) one k

    step_ongoing : (e : Option Event) (v : Outcome) → Moves plan w e v → Agrees asked v.world → Goes v.world
    step_ongoing None v (inl h) fits = subst (λ (v : Outcome). Goes v.world) (sym h) (g, a)
    step_ongoing None v (inr x) fits =
        let k = kept_aside plan x.before x.after x.sends x.does in
        subst (λ (v : Outcome). Goes v.world) (sym x.is) (
          aside_ongoing w log l subs o g x.number x.before x.there x.after x.sends k,
          kept_taken x.number x.before x.after x.sends [] x.there (aside_goes w log l subs o g x.number x.before x.there x.after x.sends k),
        )
    step_ongoing (Some (Submit n proc args)) v (s, there, h) fits = submit_ongoing n proc args s there v (submitting plan w n proc args s v h) fits
    step_ongoing (Some (Deliver k)) v (m, some, there, h) fits = receive_all k m some there m.to refl v h
    step_ongoing (Some (Tick node)) v h fits = tick_all node v h
    step_ongoing (Some (Stop shard during)) v x fits = by_stop plan w shard.0 Goes (g, a) come cut again during v x
      where
        come : (k : ℕ) (m : Envelope) → IsSentTo w.sent k shard.0 m → Goes (mark_delivered w k)
        come k m sent = (
          record { submitted = g.submitted; holds = g.holds; gone = g.gone; out = λ t reply h. record { each = (g.out t reply h).each } },
          record { each = λ j number b c f d back h. came w k m sent.some sent.there j b f d (λ b. b.to ≡ Coord number → IsTakenBy c.pending b.msg) (λ x. absurd (let y = sent.to in cc)) (λ d x. a.each j number b c f d x h) back },
        )

        cut : (k many : ℕ) (m : Envelope) (s : ServerState) (r : ServerStep) → IsSentTo w.sent k shard.0 m → slice_get w.servers shard.0 ≡ Some s → server.Handles plan s m.msg r → Goes (at_server (mark_delivered w k) shard.0 (cut_short many r))
        cut k many m s r sent at step = (
          served_ongoing plan (mark_delivered w k) (come k m sent).0 shard.0 (cut_short many r) (λ t out h. subst (λ (r : ServerStep). (out : Outgoing) → Has out r.sends → StartsAre (λ u. u ≢ t) out.msg) (sym step.is) (no_starts plan s (λ u. u ≢ t) step.findings m.msg) out (take_has many r.sends out h)),
          served_taken (mark_delivered w k) shard.0 (cut_short many r) (come k m sent).1.each,
        )

        again : (v : World) (s : ServerState) → Goes v → slice_get v.servers shard.0 ≡ Some s → Goes (at_server v shard.0 (answered s (server.tick_sends s)))
        again v s p there = (served_ongoing plan v p.0 shard.0 (answered s (server.tick_sends s)) (λ t. no_starts_at_tick plan s (λ u. u ≢ t)), served_taken v shard.0 (answered s (server.tick_sends s)) p.1.each)

  module _ (stores : StoreLaws) (begins : IsBeginning plan start) where
    -- every world of every run
    pub run_ongoing : (coords : ℕ) (steps : List Stepped) (w : World) → IsRunBeside plan start coords steps w → Agrees asked w → Goes w
    run_ongoing coords steps w beside_begins fits = (
      record {
        submitted = λ t proc args h. absurd h;
        holds = λ n c e x h. elim (subst (λ (c : CoordState). Has x c.pending) (found_at (begun_coord start) 0 coords n c e) h) [ ];
        gone = λ t reply h. absurd h;
        out = λ t reply h. absurd h;
      },
      record { each = λ k number m c e. absurd (cc) },
    )
    run_ongoing coords steps w (beside_goes_on {w = v} e o r h) fits =
        let before = agrees_before plan v (submissions_from plan start coords _ v r) asked e o h fits in
        let lg = run_logged plan asked S start is laws stores begins coords _ v r before in
        let earlier = run_ongoing coords _ v r before in
        step_ongoing v lg.0 lg.1 (run_networked plan asked S start is laws stores begins coords _ v r before) (submissions_from plan start coords _ v r) (run_pending plan asked S start is laws stores begins coords _ v r before) earlier.0 earlier.1 e o h fits
