-- A quiet transaction is decided wherever it has a group, and its commits are answered
use Rattle.std.proofs.Common.{◌≡◌, ℕ, ℤ, ◌<◌, Bool, true, false, List, [], Option, Some, None, length, refl, sym, ap, subst, ◌∙◌, inl, inr, arith, is_some, unwrap_or, map}
use Rattle.std.proofs.lemmas.Bool.{false≢true}
use Rattle.std.specs.Prelude.{slice_get, flat_map}
use Rattle.std.specs.List.{range_with_len}
use Rattle.roc_sequence.specs.Lists.{Has}
use Rattle.roc_sequence.proofs.Holds.{any_has, has_any, all_has}
use Rattle.roc_sequence.proofs.Members.{has_at, from_has_flat_map, same_there}
use Rattle.roc_sequence.proofs.Ranges.{range_below}
use Rattle.roc_base.specs.declared.id.TxnId.{TxnId}
use Rattle.roc_base.specs.declared.node.Node.{Node}
use Rattle.roc_base.specs.declared.node.Node.TheVariants.{Server}
use Rattle.roc_base.specs.declared.node.Shard.{Shard}
use Rattle.roc_base.specs.TxnId.{is_txn}
use Rattle.roc_base.specs.Equalities.{is_txn-true}
use Rattle.roc_base.proofs.Ids.{is_txn-eq}
use Rattle.roc_base.proofs.Members.{IsAllOf-united}
use Rattle.roc_base.specs.Edge.{Dependency}
use Rattle.roc_depgraph.specs.declared.known.KnownList.{KnownList}
use Rattle.roc_depgraph.specs.Deps.{list_of, is_known, IsKnown, entries_of, Precedes, IsDecided}
use Rattle.roc_depgraph.specs.Reach.{Reaches, direct, through}
use Rattle.roc_depgraph.proofs.Chains.{weaker_chain}
use Rattle.roc_step.specs.declared.waits.OpenFetch.{OpenFetch}
use Rattle.roc_msg.specs.declared.msg.Msg.{Msg}
use Rattle.roc_msg.specs.declared.msg.Msg.TheVariants.{Start, Commit, Fetch}
use Rattle.roc_msg.specs.declared.msg.Envelope.{Envelope}
use Rattle.roc_msg.specs.Msg.{id_of}
use Rattle.roc_plan.specs.Groups.{Plan, groups_of}
use Rattle.roc_law_log.specs.Scheme.{Scheme, IsSoundScheme}
use Rattle.roc_law_log.specs.Settled.{IsSettled}
use Rattle.roc_step.specs.declared.started.StartedGroup.{StartedGroup}
use Rattle.roc_step.specs.State.{is_here, ServerState}
use Rattle.roc_step.specs.Below.{is_ended}
use Rattle.roc_audit.specs.History.{WasSubmitted, WasAnswered}
use Rattle.roc_law_protocol.specs.PlanAssumptions.{HasSchemesFrom}
use Rattle.roc_law_protocol.specs.Beginnings.{Beginning, IsBeginning}
use Rattle.roc_law_protocol.specs.World.{World}
use Rattle.roc_law_protocol.specs.Run.{Stepped}
use Rattle.roc_law_protocol.specs.Beside.{IsRunBeside}
use Rattle.roc_law_protocol.specs.Quiet.{IsToldIn, PrecedesIn, IsQuiet}
use Rattle.roc_law_protocol.specs.Final.{IsFinalIn}
use Rattle.roc_law_protocol.specs.Inner.Given.{LogLaws, StoreLaws}
use Rattle.roc_law_protocol.proofs.Means.{Means}
use Rattle.roc_law_protocol.proofs.Idle.{run_idle, idle_mark}
use Rattle.roc_law_protocol.proofs.Facts.{known_has}
use Rattle.roc_law_protocol.proofs.Finals.{known_final}
use Rattle.roc_law_protocol.proofs.Answered.{submitted_own, heard_answered}
use Rattle.roc_law_protocol.proofs.Serial as serial
use Rattle.roc_law_protocol.proofs.Heard.{AreDelivered, StartsHeard, CommitsAreOut, CommitsHeard}
use Rattle.roc_law_protocol.proofs.Hears.{IsSought}
use Rattle.roc_law_protocol.proofs.Delivered.{At, HasCommit, Tells, IsTaken}
use Rattle.roc_law_protocol.proofs.Hearing.{HasCome, HasHeard, run_heard}
use Rattle.roc_law_protocol.proofs.Transactions.{transaction_or_none}
use Rattle.roc_law_protocol.proofs.Gone.{IsGone, here_stays}
use Rattle.roc_law_protocol.proofs.Followed.{link_entry}
use Rattle.roc_law_protocol.proofs.Served.{StartsAre}
use Rattle.roc_step.proofs.SameIds.{known_alike}
use Rattle.roc_law_protocol.proofs.Marks.{IsMark}
use Rattle.roc_law_protocol.proofs.Undelivered.{number_of}

-- ---- lists

-- a transaction with an entry has a known list
entry_known : (known : List KnownList) (t : TxnId) (d : Dependency) → Has d (entries_of known t) → IsKnown known t
entry_known known t d h = go (list_of t known) h
  where
    go : (o : Option (List Dependency)) → Has d (unwrap_or o []) → is_some o ≡ true
    go None k = absurd k
    go (Some es) k = refl

-- a chain begins with an edge
first_edge : (E : TxnId → TxnId → Type 0) (u t : TxnId) → Reaches E u t → (v : TxnId) × E u v
first_edge E u t (direct e) = (t, e)
first_edge E u t (through {s = v} p e) = first_edge E u v p

-- an entry of a known list that names u
pub record IsEntryOf (known : List KnownList) (u t : TxnId) : Type 0 where
  pub list : KnownList
  pub is_known : Has list known
  pub of : list.of ≡ t
  pub entry : Dependency
  pub has : Has entry list.edges
  pub from : entry.from ≡ u

entry_of : (known : List KnownList) (u t : TxnId) → Precedes known u t → IsEntryOf known u t
entry_of known u t p =
    let a = any_has (λ (d : Dependency). is_txn d.from u) (entries_of known t) p in
    let k = known_has known t (entry_known known t a.0 a.1) in
    record { list = k.0; is_known = k.1; of = k.2; entry = a.0; has = subst (Has a.0) k.3 a.1; from = is_txn-true a.0.from u a.2 }

module _ (plan : Plan) (marks : ℕ) (steps : List Stepped) (w : World) (o : HasHeard marks (map (λ s. s.event) steps) w) (finals : (n : ℕ) (s : ServerState) → slice_get w.servers n ≡ Some s → (k : KnownList) → Has k s.lists.known → IsFinalIn plan w k.of k.edges) (out : (u : TxnId) → AreDelivered (map (λ s. s.event) steps) w u → CommitsAreOut w u) (Asked : TxnId → Type 0) (ended : (n : ℕ) (s : ServerState) → slice_get w.servers n ≡ Some s → (t : TxnId) → Asked t → is_ended s.below t ≡ true → (reply : List ℤ) × WasAnswered w.history t reply) where
  -- a message in the network of a transaction whose messages were delivered came
  came : (u : TxnId) → AreDelivered (map (λ s. s.event) steps) w u → (k : ℕ) (m : Envelope) → slice_get w.sent k ≡ Some m → id_of m.msg ≡ Some u → HasCome (map (λ s. s.event) steps) w.sent k
  came u d k m at of = d.each k m at of

  -- and was taken
  taken : (u : TxnId) → AreDelivered (map (λ s. s.event) steps) w u → (k : ℕ) (m : Envelope) → slice_get w.sent k ≡ Some m → (msg : Msg) (to : Node) → m.msg ≡ msg → m.to ≡ to → id_of msg ≡ Some u → IsTaken w.servers w.sent k msg to
  taken u d k m at msg to is goes of = subst (IsTaken w.servers w.sent k msg) goes (subst (λ msg. IsTaken w.servers w.sent k msg m.to) is (o.taken k m (came u d k m at (ap id_of is ∙ of)) at))

  -- where it has a group its list is known
  known_here : (u : TxnId) → AreDelivered (map (λ s. s.event) steps) w u → (n : ℕ) (s : ServerState) → slice_get w.servers n ≡ Some s → is_here u s.started ≡ true → IsKnown s.lists.known u
  known_here u d n s there here =
      let q = any_has (λ (e : StartedGroup). is_txn e.id u) s.started here in
      let st = (o.awaits n s there).starts.groups q.0 q.1 in
      let start : st.3.msg ≡ Start u st.0 q.0.group st.1 st.2 = subst (λ t. st.3.msg ≡ Start t st.0 q.0.group st.1 st.2) (is_txn-true q.0.id u q.2) st.6 in
      let c = (out u d).each st.3 (record { 0 = n }) st.0 q.0.group st.1 st.2 st.4 st.5 start in
      let p = number_of w.sent c.2 c.3 in
      let a : At w.servers n (HasCommit w.sent u (record { 0 = n })) = taken u d p.0 c.2 p.1 (Commit u c.0 c.1) (Server (record { 0 = n })) c.5 c.4 refl in
      subst (λ (v : ServerState). IsKnown v.lists.known u) (same_there w.servers n a.0 s a.1 there) (elim a.2 [ inl k ↦ k.1 | inr gone ↦ absurd (here_stays s u here (subst (λ (v : ServerState). IsGone v u) (same_there w.servers n a.0 s a.1 there) gone)) ])

  -- what is followed is of the lists that are known
  same : (n : ℕ) (s : ServerState) → slice_get w.servers n ≡ Some s → (t : TxnId) → is_known s.lists.links t ≡ is_known s.lists.known t
  same n s there t = known_alike s.lists.known s.lists.links (o.awaits n s there).starts.same t

  -- an entry of a known list comes from a startok in the network
  named_sent : (n : ℕ) (s : ServerState) → slice_get w.servers n ≡ Some s → (u t : TxnId) → Precedes s.lists.known u t → PrecedesIn w.sent u t
  named_sent n s there u t p =
      let e = entry_of s.lists.known u t p in
      let f = finals n s there e.list e.is_known in
      let range = range_with_len 0 (length (groups_of plan f.proc)) in
      let a = (IsAllOf-united (flat_map f.union.told range) e.entry (subst (Has e.entry) f.union.is_union e.has)).at in
      let g = from_has_flat_map f.union.told a.0 range a.1 in
      let k = f.union.in_network g.0 (all_has (λ g. g < length (groups_of plan f.proc)) g.0 range (range_below 0 (length (groups_of plan f.proc)) (length (groups_of plan f.proc)) (omega arith)) g.1) in
      record { group = g.0; edges = f.union.told g.0; facts = k.0; told = subst (λ t. IsToldIn w.sent t g.0 (f.union.told g.0) k.0) e.of k.1; entry = a.0; listed = g.2; from = a.2 ∙ e.from }

  module _ (t : TxnId) (quiet : IsQuiet plan steps w t) where
    own : AreDelivered (map (λ s. s.event) steps) w t
    own = record { each = λ k m at of. quiet.each k m t at of (inl refl) }

    module _ (n : ℕ) (s : ServerState) (there : slice_get w.servers n ≡ Some s) (entry : (t : TxnId) (d : Dependency) → Has d (entries_of s.lists.links t) → Has d (entries_of s.lists.known t)) where
      -- what is followed is an entry
      followed : (u t : TxnId) → Precedes s.lists.links u t → Precedes s.lists.known u t
      followed u t p = let a = any_has (λ (d : Dependency). is_txn d.from u) (entries_of s.lists.links t) p in has_any (λ (d : Dependency). is_txn d.from u) (entries_of s.lists.known t) a.0 (entry t a.0 a.1) a.2

      before : (u : TxnId) → Reaches (Precedes s.lists.links) u t → AreDelivered (map (λ s. s.event) steps) w u
      before u p = record { each = λ k m at of. quiet.each k m u at of (inr (weaker_chain (Precedes s.lists.links) (PrecedesIn w.sent) (λ a b e. named_sent n s there a b (followed a b e)) u t p)) }

      -- what answers a fetch is a message of its transaction
      told_of : (u : TxnId) (m : Envelope) → Tells u (record { 0 = n }) m → id_of m.msg ≡ Some u
      told_of u m (to, inl k) = ap id_of k.1
      told_of u m (to, inr k) = ap id_of k.1

      -- what was asked for was answered: an answer behind its fetch came, so it is known
      answered_known : (u : TxnId) → AreDelivered (map (λ s. s.event) steps) w u → (a : OpenFetch) → Has a s.lists.waiting.asked → a.id ≡ u → (b : Bool) → is_known s.lists.known u ≡ b → IsKnown s.lists.known u
      answered_known u d a h of true e = e
      answered_known u d a h of false e =
          let f = o.fresh n s there a h (λ k. false≢true (sym e ∙ subst (IsKnown s.lists.known) of k)) in
          let me : Shard = record { 0 = n } in
          let fetch : f.message.msg ≡ Fetch u me = subst (λ u. f.message.msg ≡ Fetch u me) of f.is in
          elim (taken u d f.at f.message f.stands (Fetch u me) (Server a.at) fetch f.to refl) [
            | inl k ↦ absurd (f.unanswered k.at k.message k.behind k.stands (subst (λ u. Tells u me k.message) (sym of) k.tells) (came u d k.at k.message k.stands (told_of u k.message k.tells)))
            | inr k ↦ (let q = (o.awaits a.at.0 k.0 k.1).askers (record { id = u; shard = me }) k.2 in absurd (q.1 (known_here u d a.at.0 k.0 k.1 q.0)))
          ]

      -- all that precedes it is known
      known_before : (u : TxnId) → Reaches (Precedes s.lists.links) u t → IsKnown s.lists.links u
      known_before u p =
          let e = first_edge (Precedes s.lists.links) u t p in
          let x = entry_of s.lists.links u e.0 e.1 in
          let d = before u p in
          elim (subst (IsSought s) x.from ((o.awaits n s there).seeks x.list x.is_known x.entry x.has)) [
            | inl k ↦ k
            | inr (inl here) ↦ same n s there u ∙ known_here u d n s there here
            | inr (inr asked) ↦ (let a = any_has (λ (a : OpenFetch). is_txn a.id u) s.lists.waiting.asked asked in same n s there u ∙ answered_known u d a.0 a.1 (is_txn-true a.0.id u a.2) (is_known s.lists.known u) refl)
          ]

      decided_here : is_here t s.started ≡ true → IsDecided s.lists.links t
      decided_here here = record { own = same n s there t ∙ known_here t own n s there here; ancestors = known_before }

    -- unless it is answered
    commits_answered : ((n : ℕ) (s : ServerState) → slice_get w.servers n ≡ Some s → (t : TxnId) (d : Dependency) → Has d (entries_of s.lists.links t) → Has d (entries_of s.lists.known t))
        → Asked t → ((reply : List ℤ) → ¬ WasAnswered w.history t reply) → CommitsHeard (map (λ s. s.event) steps) w t
    commits_answered entry asked unanswered = record {
      each = λ k m shard edges facts at goes is d.
          (let a : At w.servers shard.0 (HasCommit w.sent t shard) = subst (IsTaken w.servers w.sent k (Commit t edges facts)) goes (subst (λ msg. IsTaken w.servers w.sent k msg m.to) is (o.taken k m d at)) in
          elim a.2 [ inl k ↦ k.2 (decided_here shard.0 a.0 a.1 (entry shard.0 a.0 a.1) k.0) | inr gone ↦ absurd (let answer = ended shard.0 a.0 a.1 t asked gone.ended in unanswered answer.0 answer.1) ]);
    }

-- ---- every run

module _ (plan : Plan) (start : Beginning) (begins : IsBeginning plan start) (schemes : HasSchemesFrom plan start.store) (laws : (S : Scheme) → IsSoundScheme S → LogLaws S start.store) (stores : StoreLaws) (marks : ℕ) (many : (n : ℕ) → length (start.below n) ≡ marks)
    (coords : ℕ) (steps : List Stepped) (w : World) (run : IsRunBeside plan start coords steps w) where
  heard : HasHeard marks (map (λ s. s.event) steps) w
  heard = run_heard plan start begins schemes laws stores marks many coords steps w run

  -- each start goes to a server, and is of a transaction that was submitted
  start_to : (m : Envelope) → Has m w.sent → (t : TxnId) (proc group : ℕ) (args inputs : List ℤ) → m.msg ≡ Start t proc group args inputs → (shard : Shard) × (m.to ≡ Server shard) × WasSubmitted w.history t
  start_to m h t proc group args inputs is = elim (transaction_or_none plan) [
    | inl some ↦
        (let x = serial.logged plan start begins schemes laws stores coords steps w run some in
        let k = subst (λ msg. Means plan (serial.asked plan start begins schemes laws stores coords steps w run some) (serial.S plan start begins schemes laws stores coords steps w run some) start x.0 msg m.to) is (x.1.means.messages m h) in
        (_, k.to, subst (StartsAre (WasSubmitted w.history)) is (x.1.starts m h)))
    | inr none ↦ absurd (subst IsMark is (idle_mark plan start w (run_idle plan none start begins coords steps w run) m h))
  ]

  ended : (n : ℕ) (s : ServerState) → slice_get w.servers n ≡ Some s → (t : TxnId) → WasSubmitted w.history t → is_ended s.below t ≡ true → (reply : List ℤ) × WasAnswered w.history t reply
  ended n s there t was = heard_answered plan start begins schemes laws stores coords steps w run n s there t (submitted_own plan start begins schemes laws stores coords steps w run t was)

  -- each start that was delivered has a startok in the network, unless it is answered
  pub starts_heard : (t : TxnId) → ((reply : List ℤ) → ¬ WasAnswered w.history t reply) → StartsHeard (map (λ s. s.event) steps) w t
  starts_heard t unanswered = record {
    each = λ k m proc group args inputs at is d.
        (let to = start_to m (has_at w.sent k m at) t proc group args inputs is in
        elim (subst (IsTaken w.servers w.sent k (Start t proc group args inputs)) to.1 (subst (λ msg. IsTaken w.servers w.sent k msg m.to) is (heard.taken k m d at))) [
          | inl told ↦ told
          | inr over ↦ absurd (let answer = ended to.0.0 over.0 over.1 t to.2 over.2 in unanswered answer.0 answer.1)
        ]);
  }

  -- what is followed is an entry of a known list
  entry : (n : ℕ) (s : ServerState) → slice_get w.servers n ≡ Some s → (t : TxnId) (d : Dependency) → Has d (entries_of s.lists.links t) → Has d (entries_of s.lists.known t)
  entry n s there t d h = elim (transaction_or_none plan) [
    | inl some ↦
        (let l = serial.logged plan start begins schemes laws stores coords steps w run some in
        link_entry (IsSettled (serial.S plan start begins schemes laws stores coords steps w run some) start.store l.0) s.lists.known s.lists.links (l.1.means.servers n s there).links t d h)
    | inr none ↦ absurd (subst (λ links. Has d (entries_of links t)) ((run_idle plan none start begins coords steps w run).servers n s there).links h)
  ]

  module _ (out : (u : TxnId) → AreDelivered (map (λ s. s.event) steps) w u → CommitsAreOut w u) where
    finals : (n : ℕ) (s : ServerState) → slice_get w.servers n ≡ Some s → (k : KnownList) → Has k s.lists.known → IsFinalIn plan w k.of k.edges
    finals = known_final plan start begins schemes laws stores coords steps w run

    -- a quiet transaction is decided wherever it has a group
    pub quiet_is_decided : (t : TxnId) → IsQuiet plan steps w t → (shard : Shard) (s : ServerState) → slice_get w.servers shard.0 ≡ Some s → (e : StartedGroup) → Has e s.started → e.id ≡ t → IsDecided s.lists.links t
    quiet_is_decided t quiet shard s there e h of = decided_here plan marks steps w heard finals out (WasSubmitted w.history) ended t quiet shard.0 s there (entry shard.0 s there) (has_any (λ (e : StartedGroup). is_txn e.id t) s.started e h (is_txn-eq e.id t of))

    -- and each commit of it that was delivered has a commitok in the network, unless it is answered
    pub commits_heard : (t : TxnId) → IsQuiet plan steps w t → WasSubmitted w.history t → ((reply : List ℤ) → ¬ WasAnswered w.history t reply) → CommitsHeard (map (λ s. s.event) steps) w t
    commits_heard t quiet = commits_answered plan marks steps w heard finals out (WasSubmitted w.history) ended t quiet entry
