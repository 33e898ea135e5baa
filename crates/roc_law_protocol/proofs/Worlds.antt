-- Each event leads from a world that a log explains to one that a later log explains
use Rattle.std.proofs.Common.{◌≡◌, ℕ, ◌-◌, List, [], Option, Some, None, map, refl, sym, ap, subst, ◌∙◌, inl, inr}
use Rattle.std.specs.Prelude.{slice_get}
use Rattle.roc_sequence.specs.Lists.{Has}
use Rattle.roc_sequence.proofs.Members.{has_at}
use Rattle.roc_base.specs.declared.id.TxnId.{TxnId}
use Rattle.roc_base.specs.declared.node.Node.{Node}
use Rattle.roc_base.specs.declared.node.Node.TheVariants.{Server}
use Rattle.roc_base.specs.declared.node.Shard.{Shard}
use Rattle.roc_msg.specs.declared.msg.Envelope.{Envelope}
use Rattle.roc_msg.specs.declared.outbox.Outgoing.{Outgoing}
use Rattle.roc_plan.specs.Groups.{Plan}
use Rattle.roc_whole.specs.Serial as whole
use Rattle.roc_law_log.specs.Scheme.{Scheme}
use Rattle.roc_law_log.specs.Log.{Log}
use Rattle.roc_step.specs.State.{answered, ServerState, ServerStep}
use Rattle.roc_step.specs.Step as server
use Rattle.roc_audit.specs.History.{WasSubmitted}
use Rattle.roc_law_protocol.specs.declared.event.Event.{Event}
use Rattle.roc_law_protocol.specs.declared.event.Event.TheVariants.{Submit, Deliver, Tick, Stop}
use Rattle.roc_law_protocol.specs.declared.event.Kept.{Kept}
use Rattle.roc_law_protocol.specs.declared.event.Kept.TheVariants.{Sent}
use Rattle.roc_step.specs.Restarts.{cut_short}
use Rattle.roc_law_protocol.specs.Forgotten.{Brings, delivers, stops_at}
use Rattle.roc_law_protocol.specs.PlanAssumptions.{IsSchemeOf}
use Rattle.roc_law_protocol.specs.Beginnings.{Beginning}
use Rattle.roc_law_protocol.specs.Aside.{after_transaction}
use Rattle.roc_law_protocol.specs.World.{World, sent_by, mark_delivered, at_server}
use Rattle.roc_law_protocol.specs.declared.event.Seen.TheVariants as seen
use Rattle.roc_law_protocol.specs.Happens.{served, undecided, Outcome, IsSentTo, TransactionStopsIn, at_rest, unrecorded, recorded, transaction_restarted, IsTransactionStop}
use Rattle.roc_law_protocol.specs.Beside.{Moves}
use Rattle.roc_law_protocol.specs.Inner.Given.{LogLaws}
use Rattle.roc_law_protocol.proofs.Means.{Means}
use Rattle.roc_law_protocol.proofs.Changed.{get-front, get-set_here}
use Rattle.roc_law_protocol.proofs.Decisions.{decided_are}
use Rattle.roc_law_protocol.proofs.TakesOn.{submission_none, ticks_none, received_on, Takes, takes_nothing, IsTaking, took_nothing}
use Rattle.roc_law_protocol.proofs.Served.{StartsAre, message_explained, tick_explained, tick_still}
use Rattle.roc_law_protocol.proofs.Stopping.{take_has, fewer_explained}
use Rattle.roc_law_protocol.proofs.Stops.{tick_is_sends, starts_there}
use Rattle.roc_law_protocol.proofs.NoStarts.{no_starts, no_starts_at_tick}
use Rattle.roc_law_protocol.proofs.KeptAside.{kept_aside}
use Rattle.roc_law_protocol.proofs.Submissions.{AreSubmissions}
use Rattle.roc_law_protocol.proofs.Logged.{Agrees, IsLogged, RunsOn, GoesOn, Anywhere, rests, starts_after, served_logged, begun_called, comes_logged, tick_logged, receive_logged, aside_logged, submit_logged, apart}
use Rattle.roc_law_protocol.proofs.AcceptedSubmissions.{submitting}

module _ (plan : Plan) (asked : TxnId → whole.Call) (S : Scheme) (start : Beginning) (is : IsSchemeOf plan asked S) (laws : LogLaws S start.store) where
  -- ---- a stop: a step of which less is sent, and a tick, which is no step of the log

  pub cut_logged : (w : World) (log : Log) (o : IsLogged plan asked S start is laws w log) (k many n : ℕ) (m : Envelope) (s : ServerState) (r : ServerStep) → IsSentTo w.sent k n m → slice_get w.servers n ≡ Some s → server.Handles plan s m.msg r
      → GoesOn plan asked S start is laws (mark_delivered w k) log (λ l. l ≡ n) (served (mark_delivered w k) n (cut_short many r))
  cut_logged w log o k many n m s r sent there step =
      let has = has_at w.sent (k - 1) m sent.there in
      let u = mark_delivered w k in
      let l = comes_logged plan asked S start is laws w log o k in
      let means = subst (Means plan asked S start log m.msg) sent.to (o.means.messages m has) in
      served_logged plan asked S start is laws u log l (λ l. l ≡ n) n refl s there (cut_short many r)
      (fewer_explained plan asked S start is laws log u l.means n s there (WasSubmitted w.history) (begun_called plan asked S start is laws u log l) r _ (take_has many r.sends)
      (message_explained plan asked S start is laws log u l.means n s there (WasSubmitted w.history) (begun_called plan asked S start is laws u log l) m.msg r step means (o.starts m has)))
      (decided_are plan s m.msg r step)
      (λ out h. subst (λ (r : ServerStep). (out : Outgoing) → Has out r.sends → StartsAre (WasSubmitted w.history) out.msg) (sym step.is) (no_starts plan s (WasSubmitted w.history) step.findings m.msg) out (take_has many r.sends out h))

  rest_logged : (w : World) (log : Log) (o : IsLogged plan asked S start is laws w log) (n : ℕ) (s : ServerState) → slice_get w.servers n ≡ Some s → GoesOn plan asked S start is laws w log (λ l. l ≡ n) (served w n (answered s []))
  rest_logged w log o n s there =
      served_logged plan asked S start is laws w log o (λ l. l ≡ n) n refl s there (answered s [])
      (fewer_explained plan asked S start is laws log w o.means n s there (WasSubmitted w.history) (begun_called plan asked S start is laws w log o) (answered s (server.tick_sends s)) [] (λ out h. absurd h)
      (tick_explained plan asked S start is laws log w o.means n s there (WasSubmitted w.history) (begun_called plan asked S start is laws w log o))) refl (λ out h. absurd h)

  pub again_logged : (w : World) (log : Log) → IsLogged plan asked S start is laws w log → (n : ℕ) (s : ServerState) → slice_get w.servers n ≡ Some s → IsLogged plan asked S start is laws (at_server w n (answered s (server.tick_sends s))) log
  again_logged w log o n s there =
      record {
        means = tick_still plan asked S start is laws log w o.means n s there (WasSubmitted w.history) (begun_called plan asked S start is laws w log o);
        began = o.began;
        starts = starts_after plan asked S start is laws w.history w.sent (Server (record { 0 = n })) (server.tick_sends s) o.starts (no_starts_at_tick plan s (WasSubmitted w.history));
        pending = o.pending;
        in_time = o.in_time;
        called = o.called;
      }

  -- which message brought what is taken
  record IsBrought (w : World) (n : ℕ) (e : Option Event) : Type 0 where
    pub k : ℕ
    pub message : Envelope
    pub brings : Brings e k
    pub there : slice_get w.sent (k - 1) ≡ Some message
    pub to : message.to ≡ Server (record { 0 = n })

  abbrev Goal : World → Log → Shard → Option (ℕ × Kept) → Outcome → Type 0
  Goal w log shard during v = (later : Log) × IsLogged plan asked S start is laws v.world later × RunsOn plan asked S start is laws log later v.ran × IsTaking S start w log later (record { event = Some (Stop shard during); outcome = v })

  stop_logged : (w : World) (log : Log) (o : IsLogged plan asked S start is laws w log) (shard : Shard) (during : Option (ℕ × Kept)) (v : Outcome) → IsTransactionStop plan w shard.0 during v → Goal w log shard during v
  stop_logged w log o shard during v x = go during x.before x.step x.stops x.is
    where
      finish : (during : Option (ℕ × Kept)) (before : World) (step : ServerStep) → before.servers ≡ w.servers → slice_get (at_server before shard.0 step).servers shard.0 ≡ Some step.state
          → ((c : List TxnId) → Has c step.components → IsBrought before shard.0 (Some (Stop shard during))) → GoesOn plan asked S start is laws before log (λ l. l ≡ shard.0) (served before shard.0 step) → Goal w log shard during (transaction_restarted before shard.0 step)
      finish during before step same there brought y =
          let u = at_server before shard.0 step in
          let again = again_logged u y.0 y.1 shard.0 step.state there in
          let k = y.3.servers in (
            y.0,
            subst (λ u. IsLogged plan asked S start is laws u y.0) (tick_is_sends u shard.0 step.state (server.tick_sends step.state) there) again,
            y.2,
            record {
              shard = y.3.shard;
              takes = y.3.takes;
              at = λ c t.
                  (let b = brought c t in
                  let to_shard : ℕ → Node = λ n. Server (record { 0 = n }) in
                  record {
                    k = b.k;
                    brings = b.brings;
                    message = b.message;
                    is = get-front u.sent (map (sent_by (to_shard shard.0)) (server.tick_sends step.state)) (b.k - 1) b.message (get-front before.sent (map (sent_by (to_shard shard.0)) step.sends) (b.k - 1) b.message b.there);
                    to = b.to ∙ ap to_shard (sym (y.3.of c t));
                    has = t;
                  });
              servers = record {
                here = λ a z was then. k.here a z (subst (λ l. slice_get l y.3.shard ≡ Some a) (sym same) was) then;
                elsewhere = λ m other. k.elsewhere m other ∙ ap (λ l. slice_get l m) same;
                were = λ m z then. (let q = k.were m z then in (q.0, subst (λ l. slice_get l m ≡ Some q.0) same q.1));
              };
            },
          )

      go : (during : Option (ℕ × Kept)) (before : World) (step : ServerStep) → TransactionStopsIn plan w shard.0 x.state during before step → v ≡ transaction_restarted before shard.0 step → Goal w log shard during v
      go during before step at_rest e =
          subst (Goal w log shard None) (sym e)
          (finish None w (answered x.state []) refl (starts_there plan w shard.0 x.state x.there None w (answered x.state []) at_rest) (λ c h. absurd h) (rest_logged w log o shard.0 x.state x.there))
      go during before step (unrecorded k m sent) e =
          let u = mark_delivered w k in
          subst (Goal w log shard during) (sym e)
          (finish during u (answered x.state []) refl (get-set_here w.servers shard.0 x.state x.state x.there) (λ c h. absurd h) (rest_logged u log (comes_logged plan asked S start is laws w log o k) shard.0 x.state x.there))
      go during before step (recorded k many m r sent handles) e =
          subst (Goal w log shard (Some (k, Sent many))) (sym e)
          (finish (Some (k, Sent many)) (mark_delivered w k) (cut_short many r) refl (get-set_here w.servers shard.0 x.state r.state x.there)
          (λ c h. record { k = k; message = m; brings = stops_at shard k many; there = sent.there; to = sent.to }) (cut_logged w log o k many shard.0 m x.state r sent x.there handles))

  -- ---- any event

  pub step_logged : (w : World) (log : Log) → AreSubmissions plan w.history w.coords → IsLogged plan asked S start is laws w log → (e : Option Event) (v : Outcome) → Moves plan w e v → Agrees asked v.world
      → (later : Log) × IsLogged plan asked S start is laws v.world later × RunsOn plan asked S start is laws log later v.ran × IsTaking S start w log later (record { event = e; outcome = v })
  step_logged w log a o None v (inl h) agrees = subst (λ (v : Outcome). (later : Log) × IsLogged plan asked S start is laws v.world later × RunsOn plan asked S start is laws log later v.ran × IsTaking S start w log later (record { event = None; outcome = v })) (sym h)
      (log, o, rests plan asked S start is laws log (laws.holds log o.means.reached), took_nothing S start w log log Anywhere (record { event = None; outcome = undecided seen.Done w }) refl (takes_nothing S start w w log log Anywhere refl (apart plan asked S start is laws w log o) (λ m. refl)))
  step_logged w log a o None v (inr x) agrees =
      let k = kept_aside plan x.before x.after x.sends x.does in
      let y = subst (λ (v : Outcome). GoesOn plan asked S start is laws w log Anywhere v) (sym x.is) (aside_logged plan asked S start is laws w log o a x.number x.before x.there x.after x.sends k (subst (λ (v : Outcome). Agrees asked v.world) x.is agrees)) in
      (y.0, y.1, y.2, took_nothing S start w log y.0 Anywhere (record { event = None; outcome = v }) (ap (λ (v : Outcome). v.components) x.is) y.3)
  step_logged w log a o (Some (Submit n proc args)) v (s, there, h) agrees =
      let x = submit_logged plan asked S start is laws w log o a n proc args s there v (submitting plan w n proc args s v h) agrees in
      let none = submission_none w n proc args (after_transaction plan s proc args).state (after_transaction plan s proc args).sends (after_transaction plan s proc args).answer v h in
      (x.0, x.1, subst (RunsOn plan asked S start is laws log x.0) (sym none.0) x.2, took_nothing S start w log x.0 Anywhere (record { event = Some (Submit n proc args); outcome = v }) none.1 (subst (Takes S start w v.world log x.0 Anywhere) (sym none.1) x.3))
  step_logged w log a o (Some (Deliver k)) v (m, some, there, h) agrees =
      let has = has_at w.sent (k - 1) m there in
      let x = receive_logged plan asked S start is laws (mark_delivered w k) log (comes_logged plan asked S start is laws w log o k) m.msg m.to v (o.means.messages m has) (o.starts m has) h in
      let stands = received_on plan (mark_delivered w k) m.msg m.to v h (k - 1) m there in
      (x.0, x.1, x.2, record { shard = x.3.shard; takes = x.3.takes; at = λ c t. record { k = k; brings = delivers k; message = m; is = stands; to = x.3.of c t; has = t }; servers = record { here = x.3.servers.here; elsewhere = x.3.servers.elsewhere; were = x.3.servers.were } })
  step_logged w log a o (Some (Tick node)) v h agrees =
      let x = tick_logged plan asked S start is laws w log o node v h in
      (x.0, x.1, x.2, took_nothing S start w log x.0 Anywhere (record { event = Some (Tick node); outcome = v }) (ticks_none plan w node v h) x.3)
  step_logged w log a o (Some (Stop shard during)) v h agrees = stop_logged w log o shard during v h
