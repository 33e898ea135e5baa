-- Each submitted transaction is answered, or goes on at its coordinator
use Rattle.std.proofs.Common.{◌≡◌, ◌≢◌, ℕ, ℤ, ◌<◌, ◌==◌, ◌&&◌, true, List, ◌++◌, Some, map, refl, sym, ap, subst, ◌∙◌, ◌⊎◌, inl, inr}
use Rattle.std.proofs.lemmas.Bool.{and_parts, cases_eq}
use Rattle.std.specs.Prelude.{slice_get, slice_set}
use Rattle.roc_sequence.specs.Lists.{Has}
use Rattle.roc_sequence.specs.Places.{IsListed}
use Rattle.roc_sequence.proofs.Holds.{any_has}
use Rattle.roc_sequence.proofs.Members.{has_append, has_left, has_right, from_has_map}
use Rattle.roc_base.specs.declared.id.TxnId.{TxnId}
use Rattle.roc_base.specs.declared.node.Node.{Node}
use Rattle.roc_base.specs.declared.node.Node.TheVariants.{Server, Coord}
use Rattle.roc_base.specs.TxnId.{is_txn}
use Rattle.roc_msg.specs.declared.msg.Msg.{Msg}
use Rattle.roc_msg.specs.declared.msg.Msg.TheVariants.{Start, StartOk, CommitOk}
use Rattle.roc_msg.specs.declared.msg.Envelope.{Envelope}
use Rattle.roc_msg.specs.declared.outbox.Outgoing.{Outgoing}
use Rattle.roc_plan.specs.Groups.{Plan}
use Rattle.roc_whole.specs.Serial as whole
use Rattle.roc_law_log.specs.Scheme.{Scheme}
use Rattle.roc_law_log.specs.Log.{Log}
use Rattle.roc_law_log.specs.Invariants.{LogInvariants}
use Rattle.roc_step.specs.State.{ServerStep}
use Rattle.roc_coord.specs.declared.transaction.Transaction.{Transaction}
use Rattle.roc_coord.specs.declared.transaction.SentStart.{SentStart}
use Rattle.roc_coord.specs.State.{CoordState}
use Rattle.roc_coord.specs.Starts.{all_started}
use Rattle.roc_coord.specs.Submit.{next_id}
use Rattle.roc_audit.specs.declared.entry.Entry.{Entry}
use Rattle.roc_audit.specs.declared.entry.Entry.TheVariants.{Submitted, Answered}
use Rattle.roc_audit.specs.History.{WasSubmitted}
use Rattle.roc_law_protocol.specs.PlanAssumptions.{IsSchemeOf}
use Rattle.roc_law_protocol.specs.Beginnings.{Beginning}
use Rattle.roc_law_protocol.specs.World.{World, sent_by, at_server, at_coord}
use Rattle.roc_law_protocol.specs.Inner.Given.{LogLaws}
use Rattle.roc_law_protocol.proofs.Heard.{CommitsAreOut}
use Rattle.roc_law_protocol.proofs.Means.{run_of, Means}
use Rattle.roc_law_protocol.proofs.Changed.{get-set_here, get-set_other, get-set_cases}
use Rattle.roc_law_protocol.proofs.Replies.{few_place, shard_listed}
use Rattle.roc_law_protocol.proofs.Served.{StartsAre}
use Rattle.roc_law_protocol.proofs.Submissions.{AreSubmissions, unused}
use Rattle.roc_law_protocol.proofs.Logged.{IsLogged, ordered_submitted}
use Rattle.roc_law_protocol.proofs.Pending.{AnsweredAreDone, StartsOn, IsPending}
use Rattle.roc_law_protocol.proofs.Taken.{TakesMore, IsTakenBy}
use Rattle.roc_law_protocol.proofs.Outstanding.{IsOutstanding, outstanding_stays}
use Rattle.roc_law_protocol.proofs.OutstandingSteps.{Proceeds}
use Rattle.roc_law_protocol.proofs.Coordinated.{mark_starts-none}

-- it is pending at its coordinator
pub record IsPendingAt (coords : List CoordState) (t : TxnId) : Type 0 where
  pub coord : CoordState
  pub there : slice_get coords t.coord ≡ Some coord
  pub transaction : Transaction
  pub has : Has transaction coord.pending
  pub is : transaction.id ≡ t

-- what was submitted is accounted for in this world
pub record IsOngoing (plan : Plan) (w : World) : Type 0 where
  pub submitted : (t : TxnId) (proc : ℕ) (args : List ℤ) → Has (Submitted t proc args) w.history → ((reply : List ℤ) × Has (Answered t reply) w.history) ⊎ IsPendingAt w.coords t
  pub holds : (n : ℕ) (c : CoordState) → slice_get w.coords n ≡ Some c → (x : Transaction) → Has x c.pending → IsOutstanding plan w.sent x
  -- an answered transaction is pending no longer, and its commits were sent
  pub gone : AnsweredAreDone w
  pub out : (t : TxnId) (reply : List ℤ) → Has (Answered t reply) w.history → CommitsAreOut w t

-- where no start of t is sent, what holds of its commits holds still
pub commits_stay : (w v : World) (from : Node) (outs : List Outgoing) → v.sent ≡ w.sent ++ map (sent_by from) outs → (t : TxnId) → ((out : Outgoing) → Has out outs → StartsAre (λ u. u ≢ t) out.msg) → CommitsAreOut w t → CommitsAreOut v t
commits_stay w v from outs e t none k =
    record {
      each = λ m shard proc group args inputs h to is.
          (let old : Has m w.sent = elim (has_append m w.sent (map (sent_by from) outs) (subst (Has m) e h)) [
            | inl j ↦ j
            | inr j ↦
                (let q = from_has_map (sent_by from) m outs j in
                let start : q.0.msg ≡ Start t proc group args inputs = ap (λ (m : Envelope). m.msg) (sym q.2) ∙ is in
                absurd (subst (StartsAre (λ u. u ≢ t)) start (none q.0 q.1) refl))
          ] in
          let a = k.each m shard proc group args inputs old to is in
          (a.0, a.1, a.2, subst (Has a.2) (sym e) (has_left a.2 w.sent (map (sent_by from) outs) a.3), a.4, a.5));
    }

-- a step of a server
pub served_ongoing : (plan : Plan) (w : World) → IsOngoing plan w → (n : ℕ) (r : ServerStep) → ((t : TxnId) (out : Outgoing) → Has out r.sends → StartsAre (λ u. u ≢ t) out.msg) → IsOngoing plan (at_server w n r)
served_ongoing plan w g n r none =
    record {
      submitted = g.submitted;
      holds = λ m c e x h. outstanding_stays plan w.sent (map (sent_by (Server (record { 0 = n }))) r.sends) x (g.holds m c e x h);
      gone = g.gone;
      out = λ t reply h. commits_stay w (at_server w n r) (Server (record { 0 = n })) r.sends refl t (none t) (g.out t reply h);
    }

module _ (plan : Plan) (asked : TxnId → whole.Call) (S : Scheme) (start : Beginning) (is : IsSchemeOf plan asked S) (laws : LogLaws S start.store) (w : World) (log : Log) (l : IsLogged plan asked S start is laws w log) where
  i : LogInvariants S start.store log
  i = laws.holds log l.means.reached

  -- what was answered was submitted
  pub answered_submitted : (t : TxnId) (reply : List ℤ) → Has (Answered t reply) w.history → WasSubmitted w.history t
  answered_submitted t reply h = ordered_submitted plan asked S start is laws w log l t (subst (λ l. IsListed is_txn l t) (sym l.means.order) (l.means.answered t reply h).throughout.in_order)

  module _ (o : IsPending plan w) where
    -- the commits of a transaction whose groups all started were sent
    pub whole_out : (holds : (n : ℕ) (c : CoordState) → slice_get w.coords n ≡ Some c → (x : Transaction) → Has x c.pending → IsOutstanding plan w.sent x)
        → (c : CoordState) (x : Transaction) → slice_get w.coords x.id.coord ≡ Some c → Has x c.pending → all_started plan x ≡ true → CommitsAreOut w x.id
    whole_out holds c x there has all =
        record {
          each = λ m shard proc group args inputs h to is_start.
              (let on = subst (λ msg. StartsOn w.coords msg (Server shard)) is_start (subst (StartsOn w.coords m.msg) to (o.starts m h)) in
              let was = on c x there has refl in
              let z = any_has (λ (z : SentStart). z.group == group && z.shard.0 == shard.0) x.starts was in
              let few = subst (λ n. n < 64) (((l.means.coords x.id.coord c there).pending x has).starts group shard was).on (few_place plan asked S start is log i (run_of x.id group)) in
              let g = holds x.id.coord c there x has in
              let k = g.commits shard (subst (Has shard) (sym (g.asked all)) (shard_listed x.starts shard z.0 z.1 (and_parts (z.0.group == group) (z.0.shard.0 == shard.0) z.2).1 few)) in
              (k.edges, k.facts, k.message, k.has, k.to, k.is));
        }

  -- what a message that a coordinator takes is of was submitted
  abbrev TakenSubmitted : Msg → Type 0
  TakenSubmitted (StartOk id group shard bound outs edges facts) = WasSubmitted w.history id
  TakenSubmitted (CommitOk id shard outs) = WasSubmitted w.history id
  TakenSubmitted msg = Unit {0}

  taken_submitted : (msg : Msg) (to : Node) → Means plan asked S start log msg to → TakenSubmitted msg
  taken_submitted (StartOk id group shard bound outs edges facts) to m = l.began (run_of id group) m.0.began
  taken_submitted (CommitOk id shard outs) to m = ordered_submitted plan asked S start is laws w log l id (subst (λ l. IsListed is_txn l id) (sym l.means.order) (i.in_order shard.0 id m.0.decided))
  taken_submitted msg to m = tt

  -- ---- a step of a coordinator

  module _ (subs : AreSubmissions plan w.history w.coords) (o : IsPending plan w) (n : ℕ) (s : CoordState) (there : slice_get w.coords n ≡ Some s) (after : CoordState) (before : (y : Transaction) → Has y after.pending → ((x : Transaction) × Has x s.pending × TakesMore x y) ⊎ (y.id ≡ next_id s)) where
    abbrev coords : List CoordState
    coords = slice_set w.coords n after

    -- what was submitted is not new
    old_one : (y : Transaction) → Has y after.pending → WasSubmitted w.history y.id → (x : Transaction) × Has x s.pending × TakesMore x y
    old_one y h was = elim (before y h) [ inl k ↦ k | inr e ↦ absurd (unused plan w.history w.coords subs n s there was.0 was.1 (subst (λ t. Has (Submitted t was.0 was.1) w.history) e was.2)) ]

    taken_later : (msg : Msg) → TakenSubmitted msg → IsTakenBy s.pending msg → IsTakenBy after.pending msg
    taken_later (StartOk id group shard bound outs edges facts) was k = λ y h e. let q = old_one y h (subst (WasSubmitted w.history) (sym e) was) in q.2.startoks group (k q.0 q.1 (sym q.2.id ∙ e))
    taken_later (CommitOk id shard outs) was k = λ y h e. let q = old_one y h (subst (WasSubmitted w.history) (sym e) was) in q.2.commitoks shard (k q.0 q.1 (sym q.2.id ∙ e))
    taken_later msg was k = tt

    -- a message that was taken stays taken
    pub still_taken : (m : Envelope) → Has m w.sent → (number : ℕ) (c : CoordState) → ((d : CoordState) → slice_get w.coords number ≡ Some d → IsTakenBy d.pending m.msg) → slice_get coords number ≡ Some c → IsTakenBy c.pending m.msg
    still_taken m h number c old e = elim (get-set_cases w.coords n number s after c there e) [
      | inl k ↦ subst (λ (c : CoordState). IsTakenBy c.pending m.msg) (sym k.1)
          (taken_later m.msg (taken_submitted m.msg m.to (l.means.messages m h)) (old s (subst (λ m. slice_get w.coords m ≡ Some s) k.0 there)))
      | inr k ↦ old c k.1
    ]

  module _ (subs : AreSubmissions plan w.history w.coords) (o : IsPending plan w) (g : IsOngoing plan w) (n : ℕ) (s : CoordState) (there : slice_get w.coords n ≡ Some s) where
    -- an answered transaction is not among its own
    pub not_answered : (t : TxnId) (reply : List ℤ) → Has (Answered t reply) w.history → (x : Transaction) → Has x s.pending → x.id ≢ t
    not_answered t reply h x k e = g.gone t reply h s x (subst (λ m. slice_get w.coords m ≡ Some s) (sym (o.own n s there x k) ∙ ap (λ (t : TxnId). t.coord) e) there) k e

    module _ (after : CoordState) (outs : List Outgoing) (tells : List Entry) (k : Proceeds plan w.sent (Coord n) s after outs tells)
        (new : (t : TxnId) (proc : ℕ) (args : List ℤ) → Has (Submitted t proc args) tells → (t.coord ≡ n) × (y : Transaction) × Has y after.pending × (y.id ≡ t))
        (none : (t : TxnId) (reply : List ℤ) → Has (Answered t reply) w.history → (out : Outgoing) → Has out outs → StartsAre (λ u. u ≢ t) out.msg) where
      abbrev v : World
      v = at_coord w n after outs tells

      here : (t : TxnId) → t.coord ≡ n → slice_get v.coords t.coord ≡ Some after
      here t e = subst (λ m. slice_get v.coords m ≡ Some after) (sym e) (get-set_here w.coords n s after there)

      goes_on_here : (t : TxnId) → IsPendingAt w.coords t → ((reply : List ℤ) × Has (Answered t reply) v.history) ⊎ IsPendingAt v.coords t
      goes_on_here t p = elim (cases_eq n t.coord) [
        | inl e ↦
            (let same : p.coord ≡ s = (let a = subst (λ m. slice_get w.coords m ≡ Some p.coord) (sym e) p.there in let b = there in cc) in
            elim (k.stays p.transaction (subst (λ (c : CoordState). Has p.transaction c.pending) same p.has)) [
              | inl j ↦ inr (record { coord = after; there = here t (sym e); transaction = j.0; has = j.1; is = j.2 ∙ p.is })
              | inr j ↦ inl (j.0, has_right (Answered t j.0) w.history tells (subst (λ t. Has (Answered t j.0) tells) p.is j.1))
            ])
        | inr e ↦ inr (record { coord = p.coord; there = get-set_other w.coords n t.coord after e ∙ p.there; transaction = p.transaction; has = p.has; is = p.is })
      ]

      submitted_after : (t : TxnId) (proc : ℕ) (args : List ℤ) → Has (Submitted t proc args) v.history → ((reply : List ℤ) × Has (Answered t reply) v.history) ⊎ IsPendingAt v.coords t
      submitted_after t proc args h = elim (has_append (Submitted t proc args) w.history tells h) [
        | inl j ↦ elim (g.submitted t proc args j) [ inl a ↦ inl (a.0, has_left (Answered t a.0) w.history tells a.1) | inr p ↦ goes_on_here t p ]
        | inr j ↦ (let q = new t proc args j in inr (record { coord = after; there = here t q.0; transaction = q.1; has = q.2; is = q.3 }))
      ]

      gone_after : (t : TxnId) (reply : List ℤ) → Has (Answered t reply) v.history → (c : CoordState) (y : Transaction) → slice_get v.coords t.coord ≡ Some c → Has y c.pending → y.id ≢ t
      gone_after t reply h c y e m f = elim (has_append (Answered t reply) w.history tells h) [
        | inl j ↦ elim (get-set_cases w.coords n t.coord s after c there e) [
          | inl a ↦
              (let q = old_one subs o n s there after k.before y (subst (λ (c : CoordState). Has y c.pending) a.1 m) (subst (WasSubmitted w.history) (sym f) (answered_submitted t reply j)) in
              not_answered t reply j q.0 q.1 (sym q.2.id ∙ f))
          | inr a ↦ g.gone t reply j c y a.1 m f
        ]
        | inr j ↦
            (let q = k.answers t reply j in
            elim (get-set_cases w.coords n t.coord s after c there e) [
              | inl a ↦ q.4 y (subst (λ (c : CoordState). Has y c.pending) a.1 m) f
              | inr a ↦ a.0 (sym (o.own n s there q.0 q.1) ∙ ap (λ (t : TxnId). t.coord) q.2)
            ])
      ]

      out_after : (t : TxnId) (reply : List ℤ) → Has (Answered t reply) v.history → CommitsAreOut v t
      out_after t reply h = elim (has_append (Answered t reply) w.history tells h) [
        | inl j ↦ commits_stay w v (Coord n) outs refl t (none t reply j) (g.out t reply j)
        | inr j ↦
            (let q = k.answers t reply j in
            commits_stay w v (Coord n) outs refl t (λ out m. mark_starts-none (λ u. u ≢ t) out.msg (q.5 out m))
            (subst (CommitsAreOut w) q.2 (whole_out o g.holds s q.0 (subst (λ m. slice_get w.coords m ≡ Some s) (sym (o.own n s there q.0 q.1)) there) q.1 q.3)))
      ]

      -- the world after the step
      pub coordinated_ongoing : IsOngoing plan v
      coordinated_ongoing =
          record {
            submitted = submitted_after;
            holds = λ m c e x h. elim (get-set_cases w.coords n m s after c there e) [
              | inl j ↦ k.holds x (subst (λ (c : CoordState). Has x c.pending) j.1 h)
              | inr j ↦ outstanding_stays plan w.sent (map (sent_by (Coord n)) outs) x (g.holds m c j.1 x h)
            ];
            gone = gone_after;
            out = out_after;
          }
