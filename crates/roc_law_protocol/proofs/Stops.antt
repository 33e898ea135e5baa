-- What comes of a stop of a server: a step of which fewer messages are sent, and a tick
use Rattle.std.proofs.Common.{◌≡◌, ℕ, zero, suc, List, [], ◌∷◌, Option, Some, None, refl, sym, ap, subst, ◌⊎◌, inl, inr, append-nil}
use Rattle.std.specs.Prelude.{slice_get, slice_set}
use Rattle.roc_base.specs.declared.node.Node.TheVariants.{Server}
use Rattle.roc_msg.specs.declared.msg.Envelope.{Envelope}
use Rattle.roc_msg.specs.declared.outbox.Outgoing.{Outgoing}
use Rattle.roc_plan.specs.Groups.{Plan}
use Rattle.roc_step.specs.State.{answered, ServerState, ServerStep}
use Rattle.roc_step.specs.Step as server
use Rattle.roc_law_protocol.specs.declared.event.Kept.{Kept}
use Rattle.roc_law_protocol.specs.declared.event.Kept.TheVariants.{Lost, Sent}
use Rattle.roc_step.specs.Restarts.{cut_short}
use Rattle.roc_law_protocol.specs.World.{World, sends, mark_delivered, at_server}
use Rattle.roc_law_protocol.specs.Happens.{Outcome, IsSentTo, TransactionStopsIn, at_rest, unrecorded, recorded, transaction_restarted, IsTransactionStop}
use Rattle.roc_law_protocol.proofs.Changed.{get-set_here}

-- what stands at a place is put there
pub set_there : {A : Type 0} (xs : List A) (i : ℕ) (x : A) → slice_get xs i ≡ Some x → slice_set xs i x ≡ xs
set_there [] i x e = refl
set_there (y ∷ ys) zero x e = let same : y ≡ x = cc in ap (λ z. z ∷ ys) (sym same)
set_there (y ∷ ys) (suc i) x e = ap (λ zs. y ∷ zs) (set_there ys i x e)

-- a step that changes nothing only sends
pub tick_is_sends : (w : World) (n : ℕ) (s : ServerState) (outs : List Outgoing) → slice_get w.servers n ≡ Some s → at_server w n (answered s outs) ≡ sends w (Server (record { 0 = n })) outs
tick_is_sends w n s outs there = λ i. record (sends w (Server (record { 0 = n })) outs) { servers = set_there w.servers n s there i }

-- and one that sends nothing is none
pub nothing_sent : (w : World) (n : ℕ) (s : ServerState) → slice_get w.servers n ≡ Some s → at_server w n (answered s []) ≡ w
nothing_sent w n s there = λ i. record w { servers = set_there w.servers n s there i; sent = append-nil w.sent i; undelivered = append-nil w.undelivered i }

module _ (plan : Plan) (w : World) (n : ℕ) where
  -- the server is there in the world in which it stops
  stops_there : (s : ServerState) → slice_get w.servers n ≡ Some s → (during : Option (ℕ × Kept)) (before : World) (step : ServerStep) → TransactionStopsIn plan w n s during before step → slice_get before.servers n ≡ Some s
  stops_there s there during before step at_rest = there
  stops_there s there during before step (unrecorded k m sent) = there
  stops_there s there during before step (recorded k many m r sent handles) = there

  -- and it starts again in the state behind the step
  pub starts_there : (s : ServerState) → slice_get w.servers n ≡ Some s → (during : Option (ℕ × Kept)) (before : World) (step : ServerStep) → TransactionStopsIn plan w n s during before step
      → slice_get (at_server before n step).servers n ≡ Some step.state
  starts_there s there during before step x = get-set_here before.servers n s step.state (stops_there s there during before step x)

  -- what holds before a stop, and behind each of its parts
  pub by_stop : (P : World → Type 0) → P w → ((k : ℕ) (m : Envelope) → IsSentTo w.sent k n m → P (mark_delivered w k))
      → ((k many : ℕ) (m : Envelope) (s : ServerState) (r : ServerStep) → IsSentTo w.sent k n m → slice_get w.servers n ≡ Some s → server.Handles plan s m.msg r → P (at_server (mark_delivered w k) n (cut_short many r)))
      → ((v : World) (s : ServerState) → P v → slice_get v.servers n ≡ Some s → P (at_server v n (answered s (server.tick_sends s))))
      → (during : Option (ℕ × Kept)) (o : Outcome) → IsTransactionStop plan w n during o → P o.world
  by_stop P rest come take again during o x =
      let there = starts_there x.state x.there during x.before x.step x.stops in
      let v = at_server x.before n x.step in
      subst (λ (o : Outcome). P o.world) (sym x.is) (subst P (tick_is_sends v n x.step.state (server.tick_sends x.step.state) there) (again v x.step.state (go during x.before x.step x.stops) there))
    where
      go : (during : Option (ℕ × Kept)) (before : World) (step : ServerStep) → TransactionStopsIn plan w n x.state during before step → P (at_server before n step)
      go during before step at_rest = subst P (sym (nothing_sent w n x.state x.there)) rest
      go during before step (unrecorded k m sent) = subst P (sym (nothing_sent (mark_delivered w k) n x.state x.there)) (come k m sent)
      go during before step (recorded k many m r sent handles) = take k many m x.state r sent x.there handles

  -- coordinators and the history stay
  pub stop_keeps : (during : Option (ℕ × Kept)) (o : Outcome) → IsTransactionStop plan w n during o → (o.world.history ≡ w.history) × (o.world.coords ≡ w.coords)
  stop_keeps = by_stop (λ v. (v.history ≡ w.history) × (v.coords ≡ w.coords)) (refl, refl) (λ k m sent. (refl, refl)) (λ k many m s r sent there handles. (refl, refl)) (λ v s p there. p)

  -- a message is taken of which less is sent
  pub record IsCut (during : Option (ℕ × Kept)) (o : Outcome) : Type 0 where
    pub k : ℕ
    pub many : ℕ
    pub message : Envelope
    pub state : ServerState
    pub step : ServerStep
    pub sent : IsSentTo w.sent k n message
    pub there : slice_get w.servers n ≡ Some state
    pub handles : server.Handles plan state message.msg step
    pub at : during ≡ Some (k, Sent many)
    pub is : o ≡ transaction_restarted (mark_delivered w k) n (cut_short many step)

  -- or nothing is taken and nothing runs
  pub stop_takes : (during : Option (ℕ × Kept)) (o : Outcome) → IsTransactionStop plan w n during o → ((o.components ≡ []) × (o.ran ≡ [])) ⊎ IsCut during o
  stop_takes during o x = go during x.before x.step x.stops x.is
    where
      go : (during : Option (ℕ × Kept)) (before : World) (step : ServerStep) → TransactionStopsIn plan w n x.state during before step → o ≡ transaction_restarted before n step → ((o.components ≡ []) × (o.ran ≡ [])) ⊎ IsCut during o
      go during before step at_rest e = inl (ap (λ (o : Outcome). o.components) e, ap (λ (o : Outcome). o.ran) e)
      go during before step (unrecorded k m sent) e = inl (ap (λ (o : Outcome). o.components) e, ap (λ (o : Outcome). o.ran) e)
      go during before step (recorded k many m r sent handles) e = inr (record { k = k; many = many; message = m; state = x.state; step = r; sent = sent; there = x.there; handles = handles; at = refl; is = e })

  -- ---- what a stop is, by what is kept of a message

  abbrev pub Stopped : ServerState → Option (ℕ × Kept) → World → ServerStep → Type 0
  Stopped s None before step = (before ≡ w) × (step ≡ answered s [])
  Stopped s (Some (k, Lost)) before step = (before ≡ mark_delivered w k) × (step ≡ answered s [])
  Stopped s (Some (k, Sent many)) before step = (m : Envelope) × (r : ServerStep) × IsSentTo w.sent k n m × server.Handles plan s m.msg r × (before ≡ mark_delivered w k) × (step ≡ cut_short many r)

  pub stopped_by : (s : ServerState) (during : Option (ℕ × Kept)) (before : World) (step : ServerStep) → TransactionStopsIn plan w n s during before step → Stopped s during before step
  stopped_by s during before step at_rest = (refl, refl)
  stopped_by s during before step (unrecorded k m sent) = (refl, refl)
  stopped_by s during before step (recorded k many m r sent handles) = (m, r, sent, handles, refl, refl)
