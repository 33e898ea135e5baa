-- What comes of a stop of a server: a step of which less is sent and no read is kept, and a tick
use Rattle.std.proofs.Common.{◌≡◌, ℕ, ◌-◌, List, [], ◌++◌, Option, Some, None, map, take, length, refl, sym, ap, subst, ◌∙◌, inl, inr, append-nil}
use Rattle.std.specs.Prelude.{slice_get, slice_set}
use Rattle.roc_sequence.specs.Lists.{Has}
use Rattle.roc_sequence.proofs.Members.{has_append, has_left, has_right, has_map, from_has_map}
use Rattle.roc_base.specs.declared.node.Node.{Node}
use Rattle.roc_base.specs.declared.node.Node.TheVariants.{Server}
use Rattle.roc_msg.specs.declared.msg.Envelope.{Envelope}
use Rattle.roc_msg.specs.declared.outbox.Outgoing.{Outgoing}
use Rattle.roc_plan.specs.Groups.{Plan}
use Rattle.roc_step.specs.declared.kept_read.KeptRead.{KeptRead}
use Rattle.roc_step.specs.Reads.{AnswersReads, ReadStep}
use Rattle.roc_step.specs.Restarts.{without_reads, cut_short, cut_reads}
use Rattle.roc_step.specs.State.{answered, ServerState, ServerStep, Viewing}
use Rattle.roc_step.specs.Step as server
use Rattle.roc_law_protocol.specs.declared.event.Kept.{Kept}
use Rattle.roc_law_protocol.specs.declared.event.Kept.TheVariants.{Lost, Sent}
use Rattle.roc_law_protocol.specs.World.{sent_by}
use Rattle.roc_law_protocol.specs.Happens.{IsSentTo, ran_at}
use Rattle.roc_law_protocol.proofs.Stopping.{take_has}
use Rattle.roc_law_world.specs.World.{World, sends, mark_delivered, at_server}
use Rattle.roc_law_world.specs.Happens.{Outcome, no_reads, StopsIn, at_rest, unrecorded, recorded, restarted, IsStopped}
use Rattle.roc_law_protocol.proofs.Changed.{get-set_here, get-set_other, get-set_cases}
use Rattle.roc_law_protocol.proofs.Stops.{set_there}

-- ---- a world that loses

-- the world, but for messages that were not sent and for reads that are kept no more
abbrev pub less : World → List Envelope → List ℕ → List Viewing → World
less w sent undelivered viewing = record w { sent = sent; undelivered = undelivered; viewing = viewing }

pub record Loses (w : World) (ms : List Envelope) (zs : List Viewing) : Type 0 where
  pub sent : (m : Envelope) → Has m ms → Has m w.sent
  pub viewing : (n : ℕ) (z : Viewing) → slice_get zs n ≡ Some z → (y : Viewing) × (slice_get w.viewing n ≡ Some y) × (z.versions ≡ y.versions) × ((x : KeptRead) → Has x z.reads → Has x y.reads)

-- ---- a tick

-- a step that changes nothing only sends
pub tick_is_sends : (w : World) (n : ℕ) (s : ServerState) (z : Viewing) (outs : List Outgoing) → slice_get w.servers n ≡ Some s → slice_get w.viewing n ≡ Some z
    → at_server w n (answered s outs) (record { viewing = z; sends = [] }) ≡ sends w (Server (record { 0 = n })) outs
tick_is_sends w n s z outs there keeps = λ i. record (sends w (Server (record { 0 = n })) (append-nil outs i)) { servers = set_there w.servers n s there i; viewing = set_there w.viewing n z keeps i }

-- ---- stops

module _ (w : World) (n : ℕ) where
  -- where no message comes, reads are dropped
  pub rest_is : (s : ServerState) (v : Viewing) → slice_get w.servers n ≡ Some s → at_server w n (answered s []) (no_reads v) ≡ less w w.sent w.undelivered (slice_set w.viewing n (without_reads v))
  rest_is s v there = λ i. record w { servers = set_there w.servers n s there i; sent = append-nil w.sent i; undelivered = append-nil w.undelivered i; viewing = slice_set w.viewing n (without_reads v) }

  pub rest_loses : (v : Viewing) → slice_get w.viewing n ≡ Some v → Loses w w.sent (slice_set w.viewing n (without_reads v))
  rest_loses v keeps =
      record {
        sent = λ m h. h;
        viewing = λ k z at. elim (get-set_cases w.viewing n k v (without_reads v) z keeps at) [
          | inl e ↦ (v, subst (λ k. slice_get w.viewing k ≡ Some v) e.0 keeps, ap (λ (z : Viewing). z.versions) e.1, λ x h. absurd (subst (λ (z : Viewing). Has x z.reads) e.1 h))
          | inr e ↦ (z, e.1, refl, λ x h. h)
        ];
      }

  -- of a step that is cut short less is sent, and no read is kept
  pub cut_has : (many : ℕ) (r : ServerStep) (q : ReadStep) (out : Outgoing) → Has out ((cut_short many r).sends ++ (cut_reads many r q).sends) → Has out (r.sends ++ q.sends)
  cut_has many r q out h = elim (has_append out (cut_short many r).sends (cut_reads many r q).sends h) [
    | inl k ↦ has_left out r.sends q.sends (take_has many r.sends out k)
    | inr k ↦ has_right out r.sends q.sends (take_has (many - length r.sends) q.sends out k)
  ]

  pub cut_loses : (many : ℕ) (r : ServerStep) (q : ReadStep) (v : Viewing) → slice_get w.viewing n ≡ Some v
      → Loses (at_server w n r q) (at_server w n (cut_short many r) (cut_reads many r q)).sent (at_server w n (cut_short many r) (cut_reads many r q)).viewing
  cut_loses many r q v keeps =
      record {
        sent = λ m h. elim (has_append m w.sent (map (sent_by me) ((cut_short many r).sends ++ (cut_reads many r q).sends)) h) [
          | inl k ↦ has_left m w.sent (map (sent_by me) (r.sends ++ q.sends)) k
          | inr k ↦
              (let p = from_has_map (sent_by me) m ((cut_short many r).sends ++ (cut_reads many r q).sends) k in
              has_right m w.sent (map (sent_by me) (r.sends ++ q.sends)) (subst (λ m. Has m (map (sent_by me) (r.sends ++ q.sends))) (sym p.2) (has_map (sent_by me) p.0 (r.sends ++ q.sends) (cut_has many r q p.0 p.1))))
        ];
        viewing = λ k z at. elim (get-set_cases w.viewing n k v (without_reads q.viewing) z keeps at) [
          | inl e ↦ (
            q.viewing,
            subst (λ k. slice_get (slice_set w.viewing n q.viewing) k ≡ Some q.viewing) e.0 (get-set_here w.viewing n v q.viewing keeps),
            ap (λ (z : Viewing). z.versions) e.1,
            λ x h. absurd (subst (λ (z : Viewing). Has x z.reads) e.1 h),
          )
          | inr e ↦ (z, get-set_other w.viewing n k q.viewing e.0 ∙ e.1, refl, λ x h. h)
        ];
      }
    where
      me : Node
      me = Server (record { 0 = n })

module _ (plan : Plan) (w : World) (n : ℕ) where
  -- the server is there in the world in which it stops
  stops_there : (s : ServerState) (v : Viewing) → slice_get w.servers n ≡ Some s → slice_get w.viewing n ≡ Some v → (during : Option (ℕ × Kept)) (before : World) (step : ServerStep) (reads : ReadStep)
      → StopsIn plan w n s v during before step reads → (slice_get before.servers n ≡ Some s) × (slice_get before.viewing n ≡ Some v)
  stops_there s v there keeps during before step reads at_rest = (there, keeps)
  stops_there s v there keeps during before step reads (unrecorded k m sent) = (there, keeps)
  stops_there s v there keeps during before step reads (recorded k many m r q sent handles answers) = (there, keeps)

  -- and starts again in the state behind the step
  pub starts_there : (during : Option (ℕ × Kept)) (o : Outcome) (x : IsStopped plan w n during o)
      → (slice_get (at_server x.before n x.step x.reads).servers n ≡ Some x.step.state) × (slice_get (at_server x.before n x.step x.reads).viewing n ≡ Some x.reads.viewing)
  starts_there during o x =
      let t = stops_there x.state x.viewing x.there x.keeps during x.before x.step x.reads x.stops in
      (get-set_here x.before.servers n x.state x.step.state t.0, get-set_here x.before.viewing n x.viewing x.reads.viewing t.1)

  -- what holds behind the step, and is kept by a tick
  pub by_parts : (P : World → Type 0) → ((v : World) (s : ServerState) (z : Viewing) → P v → slice_get v.servers n ≡ Some s → slice_get v.viewing n ≡ Some z → P (at_server v n (answered s (server.tick_sends s)) (record { viewing = z; sends = [] })))
      → (during : Option (ℕ × Kept)) (o : Outcome) (x : IsStopped plan w n during o) → P (at_server x.before n x.step x.reads) → P o.world
  by_parts P again during o x p =
      let t = starts_there during o x in
      let v = at_server x.before n x.step x.reads in
      subst (λ (o : Outcome). P o.world) (sym x.is) (subst P (tick_is_sends v n x.step.state x.reads.viewing (server.tick_sends x.step.state) t.0 t.1) (again v x.step.state x.reads.viewing p t.0 t.1))

  -- what holds before, is kept as a message comes and is taken, as a world loses, and by a tick
  pub by_losing : (during : Option (ℕ × Kept)) (o : Outcome) → IsStopped plan w n during o → (P : World → Type 0) → P w → ((k : ℕ) (m : Envelope) → IsSentTo w.sent k n m → P (mark_delivered w k))
      → ((k : ℕ) (m : Envelope) (s : ServerState) (v : Viewing) (r : ServerStep) (q : ReadStep) → IsSentTo w.sent k n m → slice_get w.servers n ≡ Some s → slice_get w.viewing n ≡ Some v → server.Handles plan s m.msg r
      → AnswersReads plan v m.msg r q → o.world.servers ≡ slice_set w.servers n r.state → o.ran ≡ map (ran_at n) r.ran → P (at_server (mark_delivered w k) n r q))
      → ((u : World) (sent : List Envelope) (undelivered : List ℕ) (viewing : List Viewing) → Loses u sent viewing → P u → P (less u sent undelivered viewing))
      → ((v : World) (s : ServerState) (z : Viewing) → P v → slice_get v.servers n ≡ Some s → slice_get v.viewing n ≡ Some z → P (at_server v n (answered s (server.tick_sends s)) (record { viewing = z; sends = [] }))) → P o.world
  by_losing during o x P rest come take lose again = by_parts P again during o x (go during x.before x.step x.reads x.stops x.is)
    where
      dropped : (u : World) → u.servers ≡ w.servers → u.viewing ≡ w.viewing → P u → P (at_server u n (answered x.state []) (no_reads x.viewing))
      dropped u servers viewing p =
          let there = subst (λ l. slice_get l n ≡ Some x.state) (sym servers) x.there in
          let keeps = subst (λ l. slice_get l n ≡ Some x.viewing) (sym viewing) x.keeps in
          subst P (sym (rest_is u n x.state x.viewing there)) (lose u u.sent u.undelivered (slice_set u.viewing n (without_reads x.viewing)) (rest_loses u n x.viewing keeps) p)

      go : (during : Option (ℕ × Kept)) (before : World) (step : ServerStep) (reads : ReadStep) → StopsIn plan w n x.state x.viewing during before step reads → o ≡ restarted before n step reads → P (at_server before n step reads)
      go during before step reads at_rest e = dropped w refl refl rest
      go during before step reads (unrecorded k m sent) e = dropped (mark_delivered w k) refl refl (come k m sent)
      go during before step reads (recorded k many m r q sent handles answers) e =
          let v = at_server (mark_delivered w k) n (cut_short many r) (cut_reads many r q) in
          lose (at_server (mark_delivered w k) n r q) v.sent v.undelivered v.viewing (cut_loses (mark_delivered w k) n many r q x.viewing x.keeps)
          (take k m x.state x.viewing r q sent x.there x.keeps handles answers (ap (λ (o : Outcome). o.world.servers) e) (ap (λ (o : Outcome). o.ran) e))

  -- coordinators, the history and looks stay
  pub stop_keeps : (during : Option (ℕ × Kept)) (o : Outcome) → IsStopped plan w n during o → (o.world.history ≡ w.history) × (o.world.coords ≡ w.coords) × (o.world.looks ≡ w.looks)
  stop_keeps during o x =
      by_losing during o x (λ v. (v.history ≡ w.history) × (v.coords ≡ w.coords) × (v.looks ≡ w.looks)) (refl, refl, refl) (λ k m sent. (refl, refl, refl)) (λ k m s v r q sent there keeps handles answers servers ran. (refl, refl, refl))
      (λ u sent undelivered viewing l p. p) (λ v s z p there keeps. p)

  -- ---- what a stop is, by what is kept of a message

  abbrev pub Stopped : ServerState → Viewing → Option (ℕ × Kept) → World → ServerStep → ReadStep → Type 0
  Stopped s v None before step reads = (before ≡ w) × (step ≡ answered s []) × (reads ≡ no_reads v)
  Stopped s v (Some (k, Lost)) before step reads = (before ≡ mark_delivered w k) × (step ≡ answered s []) × (reads ≡ no_reads v)
  Stopped s v (Some (k, Sent many)) before step reads =
      (m : Envelope) × (r : ServerStep) × (q : ReadStep) × IsSentTo w.sent k n m × server.Handles plan s m.msg r × AnswersReads plan v m.msg r q × (before ≡ mark_delivered w k) × (step ≡ cut_short many r) × (reads ≡ cut_reads many r q)

  pub stopped_by : (s : ServerState) (v : Viewing) (during : Option (ℕ × Kept)) (before : World) (step : ServerStep) (reads : ReadStep) → StopsIn plan w n s v during before step reads → Stopped s v during before step reads
  stopped_by s v during before step reads at_rest = (refl, refl, refl)
  stopped_by s v during before step reads (unrecorded k m sent) = (refl, refl, refl)
  stopped_by s v during before step reads (recorded k many m r q sent handles answers) = (m, r, q, sent, handles, answers, refl, refl, refl)
