-- Pending transactions in every world: what started was asked for, and whose list is known is asked to commit
use Rattle.std.proofs.Common.{◌≡◌, ◌≢◌, ℕ, ℤ, true, List, Some, map, refl, sym, subst, ◌∙◌, inl, inr}
use Rattle.std.specs.Prelude.{slice_get, slice_set}
use Rattle.roc_sequence.specs.Lists.{Has}
use Rattle.roc_sequence.proofs.Members.{has_append, has_one, from_has_map}
use Rattle.roc_base.specs.declared.id.TxnId.{TxnId}
use Rattle.roc_base.specs.declared.node.Node.{Node}
use Rattle.roc_base.specs.declared.node.Node.TheVariants.{Server, Coord}
use Rattle.roc_base.specs.Edge.{Dependency}
use Rattle.roc_depgraph.specs.declared.known.KnownList.{KnownList}
use Rattle.roc_msg.specs.declared.msg.Msg.{Msg}
use Rattle.roc_msg.specs.declared.msg.Msg.TheVariants.{Start, StartOk, Commit, Known}
use Rattle.roc_msg.specs.declared.msg.Envelope.{Envelope}
use Rattle.roc_msg.specs.declared.outbox.Outgoing.{Outgoing}
use Rattle.roc_plan.specs.Groups.{Plan}
use Rattle.roc_whole.specs.Serial as whole
use Rattle.roc_law_log.specs.Scheme.{Scheme}
use Rattle.roc_law_log.specs.Log.{Log}
use Rattle.roc_step.specs.State.{ServerState, ServerStep}
use Rattle.roc_coord.specs.declared.transaction.Transaction.{Transaction}
use Rattle.roc_coord.specs.State.{was_asked, CoordState}
use Rattle.roc_coord.specs.Starts.{all_started, shards_of}
use Rattle.roc_audit.specs.declared.entry.Entry.{Entry}
use Rattle.roc_audit.specs.declared.entry.Entry.TheVariants.{Submitted, Answered}
use Rattle.roc_audit.specs.History.{WasSubmitted}
use Rattle.roc_law_protocol.specs.PlanAssumptions.{IsSchemeOf}
use Rattle.roc_law_protocol.specs.Final.{lists_in}
use Rattle.roc_law_protocol.specs.Beginnings.{Beginning}
use Rattle.roc_law_protocol.specs.World.{World, sent_by, at_server, at_coord}
use Rattle.roc_law_protocol.specs.Inner.Given.{LogLaws}
use Rattle.roc_law_protocol.proofs.Means.{run_of, Means, ListMeans}
use Rattle.roc_law_protocol.proofs.Changed.{get-set_cases}
use Rattle.roc_law_protocol.proofs.Carried.{StartsHere, HoldsGood, KeepsGood}
use Rattle.roc_law_protocol.proofs.Served.{StartsAre}
use Rattle.roc_law_protocol.proofs.Held.{GoesOn, Advances}
use Rattle.roc_law_protocol.proofs.Submissions.{AreSubmissions, unused}
use Rattle.roc_law_protocol.proofs.Logged.{IsLogged}

-- each pending transaction of this id was asked to start the group on the shard
abbrev pub AskedBy : List CoordState → TxnId → ℕ → ℕ → Type 0
AskedBy coords t g n = (c : CoordState) (x : Transaction) → slice_get coords t.coord ≡ Some c → Has x c.pending → x.id ≡ t → was_asked x g (record { 0 = n }) ≡ true

-- and has started whole, and asked its shards to commit
abbrev pub IsWholeAt : Plan → List CoordState → TxnId → Type 0
IsWholeAt plan coords t = (c : CoordState) (x : Transaction) → slice_get coords t.coord ≡ Some c → Has x c.pending → x.id ≡ t → (all_started plan x ≡ true) × (x.asked ≡ shards_of x)

-- who was answered is not pending
abbrev pub AnsweredAreDone : World → Type 0
AnsweredAreDone w = (t : TxnId) (reply : List ℤ) → Has (Answered t reply) w.history → (c : CoordState) (x : Transaction) → slice_get w.coords t.coord ≡ Some c → Has x c.pending → x.id ≢ t

abbrev pub StartsOn : List CoordState → Msg → Node → Type 0
StartsOn coords (Start id proc group args inputs) (Server shard) = AskedBy coords id group shard.0
StartsOn coords (Start id proc group args inputs) (Coord n) = Unit {0}
StartsOn coords msg to = Unit {0}

pub record IsPending (plan : Plan) (w : World) : Type 0 where
  pub own : (n : ℕ) (c : CoordState) → slice_get w.coords n ≡ Some c → (x : Transaction) → Has x c.pending → x.id.coord ≡ n
  pub once : (n : ℕ) (c : CoordState) → slice_get w.coords n ≡ Some c → (y z : Transaction) → Has y c.pending → Has z c.pending → y.id ≡ z.id → y ≡ z
  pub starts : (m : Envelope) → Has m w.sent → StartsOn w.coords m.msg m.to
  pub lists : (m : Envelope) → Has m w.sent → (k : KnownList) → Has k (lists_in m.msg) → IsWholeAt plan w.coords k.of
  pub servers : (n : ℕ) (s : ServerState) → slice_get w.servers n ≡ Some s → HoldsGood (λ t es. IsWholeAt plan w.coords t) (λ t g. AskedBy w.coords t g n) s

-- ---- a step of a server

pub starts_here : (coords : List CoordState) (msg : Msg) (n : ℕ) → StartsOn coords msg (Server (record { 0 = n })) → StartsHere (λ t g. AskedBy coords t g n) msg
starts_here coords (Start id proc group args inputs) n k = k
starts_here coords msg n k = tt

no_start_on : (coords : List CoordState) (msg : Msg) (to : Node) → StartsAre (λ t. ⊥) msg → StartsOn coords msg to
no_start_on coords (Start id proc group args inputs) to k = absurd k
no_start_on coords msg to k = tt

pub served_pending : (plan : Plan) (w : World) → IsPending plan w → (n : ℕ) (s : ServerState) (there : slice_get w.servers n ≡ Some s) (r : ServerStep)
    → KeepsGood plan (λ t es. IsWholeAt plan w.coords t) (λ t g. AskedBy w.coords t g n) s r → ((out : Outgoing) → Has out r.sends → StartsAre (λ t. ⊥) out.msg) → IsPending plan (at_server w n r)
served_pending plan w o n s there r k none =
    let more = map (sent_by (Server (record { 0 = n }))) r.sends in
    record {
      own = o.own;
      once = o.once;
      starts = λ m h. elim (has_append m w.sent more h) [
        | inl j ↦ o.starts m j
        | inr j ↦ (let q = from_has_map (sent_by (Server (record { 0 = n }))) m r.sends j in subst (λ (m : Envelope). StartsOn w.coords m.msg m.to) (sym q.2) (no_start_on w.coords q.0.msg q.0.to (none q.0 q.1)))
      ];
      lists = λ m h l i. elim (has_append m w.sent more h) [
        | inl j ↦ o.lists m j l i
        | inr j ↦ (let q = from_has_map (sent_by (Server (record { 0 = n }))) m r.sends j in k.sends q.0 q.1 l (subst (λ (m : Envelope). Has l (lists_in m.msg)) q.2 i))
      ];
      servers = λ m v h. elim (get-set_cases w.servers n m s r.state v there h) [
        | inl e ↦ subst (λ m. HoldsGood (λ t es. IsWholeAt plan w.coords t) (λ t g. AskedBy w.coords t g m) v) e.0 (subst (HoldsGood (λ t es. IsWholeAt plan w.coords t) (λ t g. AskedBy w.coords t g n)) (sym e.1) k.state)
        | inr e ↦ o.servers m v e.1
      ];
    }

-- ---- a step of a coordinator

module _ (plan : Plan) (asked : TxnId → whole.Call) (S : Scheme) (start : Beginning) (is : IsSchemeOf plan asked S) (laws : LogLaws S start.store) (w : World) (log : Log) (l : IsLogged plan asked S start is laws w log) (subs : AreSubmissions plan w.history w.coords) (o : IsPending plan w) (n : ℕ) (s : CoordState) (there : slice_get w.coords n ≡ Some s) (after : CoordState) (a : Advances plan s after) where
  abbrev coords : List CoordState
  coords = slice_set w.coords n after

  old_or_new : (t : TxnId) → WasSubmitted w.history t → (c : CoordState) (x : Transaction) → slice_get coords t.coord ≡ Some c → Has x c.pending → x.id ≡ t
      → (d : CoordState) × (y : Transaction) × (slice_get w.coords t.coord ≡ Some d) × Has y d.pending × (y.id ≡ t) × GoesOn plan y x
  old_or_new t was c x e h same = elim (get-set_cases w.coords n t.coord s after c there e) [
    | inl k ↦ elim (a.from x (subst (λ (c : CoordState). Has x c.pending) k.1 h)) [
      | inl j ↦ (s, j.0, subst (λ m. slice_get w.coords m ≡ Some s) k.0 there, j.1, sym j.2.id ∙ same, j.2)
      | inr j ↦ absurd (unused plan w.history w.coords subs n s there was.0 was.1 (subst (λ t. Has (Submitted t was.0 was.1) w.history) (sym same ∙ j) was.2))
    ]
    | inr k ↦ (c, x, k.1, h, same, record { id = refl; asked = λ g s k. k; whole = λ a b. (a, b) })
  ]

  asked_later : (t : TxnId) (g m : ℕ) → WasSubmitted w.history t → AskedBy w.coords t g m → AskedBy coords t g m
  asked_later t g m was k c x e h same = let q = old_or_new t was c x e h same in q.5.asked g (record { 0 = m }) (k q.0 q.1 q.2 q.3 q.4)

  pub whole_later : (t : TxnId) → WasSubmitted w.history t → IsWholeAt plan w.coords t → IsWholeAt plan coords t
  whole_later t was k c x e h same = let q = old_or_new t was c x e h same in let z = k q.0 q.1 q.2 q.3 q.4 in q.5.whole z.0 z.1

  -- whose list is spoken of was submitted
  list_submitted : (t : TxnId) (es : List Dependency) → ListMeans plan asked S start log t es → WasSubmitted w.history t
  list_submitted t es m = l.began (run_of t 0) (m.is_whole 0 ((is.groups t 0).1 (is.some t)))

  carried_submitted : (msg : Msg) (to : Node) → Means plan asked S start log msg to → (k : KnownList) → Has k (lists_in msg) → WasSubmitted w.history k.of
  carried_submitted (StartOk id group at bound outs edges facts) to m k h = list_submitted k.of k.edges (m.0.facts k h)
  carried_submitted (Commit id edges facts) to m k h = list_submitted k.of k.edges (m.0 k h)
  carried_submitted (Known id edges) to m k h = subst (λ (k : KnownList). WasSubmitted w.history k.of) (sym (has_one k (record { of = id; edges = edges }) h)) (list_submitted id edges m.0)
  carried_submitted msg to m k h = absurd h

  starts_later : (msg : Msg) (to : Node) → StartsAre (WasSubmitted w.history) msg → StartsOn w.coords msg to → StartsOn coords msg to
  starts_later (Start id proc group args inputs) (Server shard) f k = asked_later id group shard.0 f k
  starts_later (Start id proc group args inputs) (Coord n) f k = tt
  starts_later msg to f k = tt

  pub lists_later : (m : Envelope) → Has m w.sent → (k : KnownList) → Has k (lists_in m.msg) → IsWholeAt plan coords k.of
  lists_later m h k j = whole_later k.of (carried_submitted m.msg m.to (l.means.messages m h) k j) (o.lists m h k j)

  pub coordinated_pending :
      (outs : List Outgoing) (tells : List Entry) → ((x : Transaction) → Has x after.pending → x.id.coord ≡ n)
      → ((out : Outgoing) → Has out outs → StartsOn coords out.msg out.to) → ((out : Outgoing) → Has out outs → (k : KnownList) → Has k (lists_in out.msg) → IsWholeAt plan coords k.of)
      → IsPending plan (at_coord w n after outs tells)
  coordinated_pending outs tells own starts lists =
      let more = map (sent_by (Coord n)) outs in
      record {
        own = λ m c e x h. elim (get-set_cases w.coords n m s after c there e) [ inl k ↦ own x (subst (λ (c : CoordState). Has x c.pending) k.1 h) ∙ k.0 | inr k ↦ o.own m c k.1 x h ];
        once = λ m c e y z h k f. elim (get-set_cases w.coords n m s after c there e) [
          | inl j ↦ a.once y z (subst (λ (c : CoordState). Has y c.pending) j.1 h) (subst (λ (c : CoordState). Has z c.pending) j.1 k) f
          | inr j ↦ o.once m c j.1 y z h k f
        ];
        starts = λ m h. elim (has_append m w.sent more h) [
          | inl j ↦ starts_later m.msg m.to (l.starts m j) (o.starts m j)
          | inr j ↦ (let q = from_has_map (sent_by (Coord n)) m outs j in subst (λ (m : Envelope). StartsOn coords m.msg m.to) (sym q.2) (starts q.0 q.1))
        ];
        lists = λ m h k i. elim (has_append m w.sent more h) [
          | inl j ↦ lists_later m j k i
          | inr j ↦ (let q = from_has_map (sent_by (Coord n)) m outs j in lists q.0 q.1 k (subst (λ (m : Envelope). Has k (lists_in m.msg)) q.2 i))
        ];
        servers = λ m v h.
            (let g = o.servers m v h in
            let means = l.means.servers m v h in
            record {
              groups = λ e k. asked_later e.id e.group m (l.began (run_of e.id e.group) (means.groups.entries e k).told.began) (g.groups e k);
              known = λ k j. whole_later k.of (list_submitted k.of k.edges (means.known k j)) (g.known k j);
              facts = λ e h k j. whole_later k.of (list_submitted k.of k.edges ((means.groups.entries e h).told.facts k j)) (g.facts e h k j);
              same = g.same;
            });
      }
