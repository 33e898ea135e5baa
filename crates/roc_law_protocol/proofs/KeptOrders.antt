-- The order keeps what ran, and any order that keeps it explains the replies
use Rattle.std.proofs.Common.{◌≡◌, ℕ, ℤ, List, Option, Some, None, sym, subst, ◌∙◌, inl, inr, arith}
use Rattle.std.proofs.lemmas.Bool.{cases_eq}
use Rattle.std.specs.Prelude.{slice_get, slice_set}
use Rattle.roc_sequence.specs.Lists.{Has}
use Rattle.roc_sequence.specs.Places.{IsListed, IsListedBefore}
use Rattle.roc_sequence.proofs.Members.{has_append, from_has_map}
use Rattle.roc_base.specs.declared.id.TxnId.{TxnId}
use Rattle.roc_base.specs.declared.node.Node.{Node}
use Rattle.roc_base.specs.declared.node.Node.TheVariants.{Server, Coord}
use Rattle.roc_base.specs.TxnId.{is_txn}
use Rattle.roc_plan.specs.Groups.{Plan}
use Rattle.roc_law_log.specs.Scheme.{Scheme, IsSoundScheme}
use Rattle.roc_law_log.specs.Kept.{KeepsRan}
use Rattle.roc_step.specs.State.{ServerState}
use Rattle.roc_audit.specs.History.{WasAnswered, IsAnsweredBefore}
use Rattle.roc_law_protocol.specs.Aside.{after_transaction}
use Rattle.roc_audit.specs.Witness.{serial_reply_from, IsSerialWitnessFrom}
use Rattle.roc_law_protocol.specs.declared.event.Event.{Event}
use Rattle.roc_law_protocol.specs.declared.event.Event.TheVariants.{Submit, Deliver, Tick, Stop}
use Rattle.roc_law_protocol.specs.PlanAssumptions.{HasSchemesFrom}
use Rattle.roc_law_protocol.specs.Beginnings.{Beginning, IsBeginning}
use Rattle.roc_law_protocol.specs.World.{World, mark_delivered}
use Rattle.roc_law_protocol.specs.Happens.{RanAt, ran_at, Outcome, IsReceived}
use Rattle.roc_law_protocol.specs.Run.{Stepped}
use Rattle.roc_law_protocol.specs.Beside.{Moves, IsRunBeside, beside_begins, beside_goes_on}
use Rattle.roc_law_protocol.specs.Kept.{ran_in, KeepsWhatRan}
use Rattle.roc_law_protocol.specs.Inner.Given.{LogLaws, SerialLaws, StoreLaws}
use Rattle.roc_law_protocol.proofs.Changed.{get-set_here, get-set_other}
use Rattle.roc_law_protocol.proofs.Idle.{run_idle}
use Rattle.roc_law_protocol.proofs.AcceptedSubmissions.{Submitting, is_refused, is_accepted, submitting}
use Rattle.roc_law_protocol.proofs.Logged.{ordered_submitted}
use Rattle.roc_law_protocol.proofs.TakesOn.{submission_none}
use Rattle.roc_law_protocol.proofs.Stops.{by_stop, stop_takes}
use Rattle.roc_law_protocol.proofs.Witness.{ran_more, replies}
use Rattle.roc_law_protocol.proofs.WhatRan.{from_log, to_log}
use Rattle.roc_law_protocol.proofs.Serial as serial
use Rattle.roc_law_protocol.proofs.Transactions.{transaction_or_none}

-- ---- what ran has its server

abbrev HasServer : World → ℕ → Type 0
HasServer w n = (s : ServerState) × (slice_get w.servers n ≡ Some s)

set_there : (xs : List ServerState) (at n : ℕ) (a b c : ServerState) → slice_get xs at ≡ Some a → slice_get xs n ≡ Some c → (s : ServerState) × (slice_get (slice_set xs at b) n ≡ Some s)
set_there xs at n a b c e h = elim (cases_eq at n) [
  | inl same ↦ (b, subst (λ n. slice_get (slice_set xs at b) n ≡ Some b) same (get-set_here xs at a b e))
  | inr other ↦ (c, get-set_other xs at n b other ∙ h)
]

server_stays : (plan : Plan) (w : World) (e : Option Event) (o : Outcome) → Moves plan w e o → (n : ℕ) → HasServer w n → HasServer o.world n
server_stays plan w None o (inl c) n h = subst (λ (o : Outcome). HasServer o.world n) (sym c) h
server_stays plan w None o (inr x) n h = subst (λ (o : Outcome). HasServer o.world n) (sym x.is) h
server_stays plan w (Some (Submit k proc args)) o (s, there, c) n h = go (submitting plan w k proc args s o c)
  where
    go : Submitting plan w k proc args s o → HasServer o.world n
    go (is_refused e) = subst (λ (v : World). HasServer v n) (sym e) h
    go (is_accepted known counted e) = subst (λ (v : World). HasServer v n) (sym e) h
server_stays plan w (Some (Deliver k)) o (m, some, there, c) n h = go m.to c
  where
    go : (to : Node) → IsReceived plan (mark_delivered w k) m.msg to o → HasServer o.world n
    go (Server shard) (s, r, at, step, e) = subst (λ (o : Outcome). HasServer o.world n) (sym e) (set_there w.servers shard.0 n s r.state h.0 at h.1)
    go (Coord k) (s, at, e) = subst (λ (o : Outcome). HasServer o.world n) (sym e) h
server_stays plan w (Some (Tick (Server shard))) o (s, there, e) n h = subst (λ (o : Outcome). HasServer o.world n) (sym e) (set_there w.servers shard.0 n s s h.0 there h.1)
server_stays plan w (Some (Tick (Coord k))) o (s, there, e) n h = subst (λ (o : Outcome). HasServer o.world n) (sym e) h
server_stays plan w (Some (Stop shard during)) o x n h =
    by_stop plan w shard.0 (λ v. HasServer v n) h (λ k m sent. h) (λ k many m s r sent there handles. set_there w.servers shard.0 n s r.state h.0 there h.1) (λ v s p there. set_there v.servers shard.0 n s s p.0 there p.1) during o x

ran_here : (plan : Plan) (w : World) (e : Option Event) (o : Outcome) → Moves plan w e o → (q : RanAt) → Has q o.ran → HasServer w q.shard
ran_here plan w None o (inl c) q h = absurd (subst (λ (o : Outcome). Has q o.ran) c h)
ran_here plan w None o (inr x) q h = absurd (subst (λ (o : Outcome). Has q o.ran) x.is h)
ran_here plan w (Some (Submit k proc args)) o (s, there, c) q h =
    absurd (subst (Has q) ((submission_none w k proc args (after_transaction plan s proc args).state (after_transaction plan s proc args).sends (after_transaction plan s proc args).answer o c).0) h)
ran_here plan w (Some (Deliver k)) o (m, some, there, c) q h = go m.to c
  where
    go : (to : Node) → IsReceived plan (mark_delivered w k) m.msg to o → HasServer w q.shard
    go (Server shard) (s, r, at, step, e) =
        let x = from_has_map (ran_at shard.0) q r.ran (subst (λ (o : Outcome). Has q o.ran) e h) in
        (s, subst (λ (q : RanAt). slice_get w.servers q.shard ≡ Some s) (sym x.2) at)
    go (Coord k) (s, at, e) = absurd (subst (λ (o : Outcome). Has q o.ran) e h)
ran_here plan w (Some (Tick (Server shard))) o (s, there, e) q h = absurd (subst (λ (o : Outcome). Has q o.ran) e h)
ran_here plan w (Some (Tick (Coord k))) o (s, there, e) q h = absurd (subst (λ (o : Outcome). Has q o.ran) e h)
ran_here plan w (Some (Stop shard during)) o x q h = elim (stop_takes plan w shard.0 during o x) [
  | inl none ↦ absurd (subst (Has q) none.1 h)
  | inr c ↦
      (let y = from_has_map (ran_at shard.0) q c.step.ran (subst (λ (o : Outcome). Has q o.ran) c.is h) in
      (c.state, subst (λ (q : RanAt). slice_get w.servers q.shard ≡ Some c.state) (sym y.2) c.there))
]

ran_there : (plan : Plan) (start : Beginning) (coords : ℕ) (steps : List Stepped) (w : World) → IsRunBeside plan start coords steps w → (q : RanAt) → Has q (ran_in steps) → HasServer w q.shard
ran_there plan start coords steps w beside_begins q h = absurd h
ran_there plan start coords steps w (beside_goes_on {steps = front} {w = v} e o r c) q h =
    elim (has_append q (ran_in front) o.ran (subst (Has q) (ran_more front (record { event = e; outcome = o })) h)) [
      | inl k ↦ server_stays plan v e o c q.shard (ran_there plan start coords front v r q k)
      | inr k ↦ server_stays plan v e o c q.shard (ran_here plan v e o c q k)
    ]

-- ---- orders

module _ (plan : Plan) (start : Beginning) (begins : IsBeginning plan start) (schemes : HasSchemesFrom plan start.store) (laws : (S : Scheme) → IsSoundScheme S → LogLaws S start.store) (serials : (S : Scheme) → IsSoundScheme S → SerialLaws S start.store) (stores : StoreLaws) (coords : ℕ) (steps : List Stepped) (w : World) (run : IsRunBeside plan start coords steps w) where
  pub order_keeps : KeepsWhatRan plan steps w w.order
  order_keeps = elim (transaction_or_none plan) [
    | inl some ↦
        (let asked = serial.asked plan start begins schemes laws stores coords steps w run some in
        let S = serial.S plan start begins schemes laws stores coords steps w run some in
        let sound = serial.sound plan start begins schemes laws stores coords steps w run some in
        let l = serial.logged plan start begins schemes laws stores coords steps w run some in
        subst (KeepsWhatRan plan steps w) (sym l.1.means.order)
        (from_log plan asked S start (serial.is plan start begins schemes laws stores coords steps w run some) (laws S sound) steps w l.0 l.1 l.2 l.0.order ((serials S sound).order l.0 l.1.means.reached)))
    | inr none ↦
        subst (KeepsWhatRan plan steps w) (sym (run_idle plan none start begins coords steps w run).order)
        (record {
          once = tt;
          from = λ t h. absurd (omega (arith, h));
          all = λ t h. subst (λ l. IsListed is_txn l t) (run_idle plan none start begins coords steps w run).order h;
          ran_first = λ q r b c. absurd (let h = c.first in omega (arith, h));
          ran_alone = λ q e h y c. absurd (let h = c.first in omega (arith, h));
        })
  ]

  pub kept_replies : (O : List TxnId) → KeepsWhatRan plan steps w O → (t : TxnId) (reply : List ℤ) → WasAnswered w.history t reply → serial_reply_from plan.program start.store w.history O t ≡ Some reply
  kept_replies O k t reply h = elim (transaction_or_none plan) [
    | inl some ↦
        (let asked = serial.asked plan start begins schemes laws stores coords steps w run some in
        let S = serial.S plan start begins schemes laws stores coords steps w run some in
        let is = serial.is plan start begins schemes laws stores coords steps w run some in
        let sound = serial.sound plan start begins schemes laws stores coords steps w run some in
        let l = serial.logged plan start begins schemes laws stores coords steps w run some in
        let known = serial.known plan start begins schemes laws stores coords steps w run some in
        let submissions = serial.submissions plan start begins schemes laws stores coords steps w run some in
        let keeps : KeepsRan S start.store l.0 O = to_log plan asked S start is (laws S sound) steps w l.0 l.1 l.2 (ran_there plan start coords steps w run) O k in
        replies plan asked S start is (laws S sound) (serials S sound) w l.0 l.1 O keeps (serial.calls plan some.0 w submissions)
        (λ u listed. schemes.replies asked known O keeps.once (λ u m. serial.ids plan some.0 w submissions u (ordered_submitted plan asked S start is (laws S sound) w l.0 l.1 u (subst (λ l. IsListed is_txn l u) (sym l.1.means.order) (keeps.from u m)))) u listed) t reply h)
    | inr none ↦ absurd (subst (Has _) (run_idle plan none start begins coords steps w run).history h)
  ]

  pub kept_witness : (O : List TxnId) → KeepsWhatRan plan steps w O → IsSerialWitnessFrom plan.program start.store w.history w.order
      → ((t u : TxnId) → IsAnsweredBefore w.history t u → IsListed is_txn O u → IsListedBefore is_txn O t u) → IsSerialWitnessFrom plan.program start.store w.history O
  kept_witness O k s time =
      record {
        once = k.once;
        submitted = λ t h. s.submitted t (k.from t h);
        answered = λ t reply h. k.all t (s.answered t reply h);
        replies = kept_replies O k;
        real_time = time;
      }
