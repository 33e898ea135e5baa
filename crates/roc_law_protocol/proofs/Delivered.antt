-- What a delivered message left in the network and at its receiver, and what a server that waits has sent
use Rattle.std.proofs.Common.{◌≡◌, ℕ, ℤ, zero, suc, ◌<◌, ◌≤◌, true, List, [], ◌∷◌, ◌++◌, Some, length, map, refl, sym, ap, subst, ◌∙◌, ◌⊎◌, inl, inr, arith}
use Rattle.std.proofs.lemmas.Bool.{cases_eq}
use Rattle.std.proofs.lemmas.Option.{slice_get_within}
use Rattle.std.proofs.lemmas.List.{length-append}
use Rattle.std.specs.Prelude.{slice_get, slice_set}
use Rattle.roc_sequence.specs.Lists.{Has}
use Rattle.roc_sequence.proofs.Members.{has_append, has_left, has_right, has_map, from_has_map, same_there}
use Rattle.roc_base.specs.declared.id.TxnId.{TxnId}
use Rattle.roc_base.specs.declared.node.Node.{Node}
use Rattle.roc_base.specs.declared.node.Node.TheVariants.{Server, Coord}
use Rattle.roc_base.specs.declared.node.Shard.{Shard}
use Rattle.roc_base.specs.Edge.{Dependency}
use Rattle.roc_depgraph.specs.declared.known.KnownList.{KnownList}
use Rattle.roc_depgraph.specs.Deps.{IsKnown, IsDecided}
use Rattle.roc_step.specs.declared.waits.OpenFetch.{OpenFetch}
use Rattle.roc_step.specs.declared.waits.Asker.{Asker}
use Rattle.roc_msg.specs.declared.msg.Msg.{Msg}
use Rattle.roc_msg.specs.declared.msg.Msg.TheVariants.{Start, StartOk, Commit, CommitOk, Fetch, Known, Settled}
use Rattle.roc_msg.specs.declared.msg.Envelope.{Envelope}
use Rattle.roc_msg.specs.declared.outbox.Outgoing.{Outgoing}
use Rattle.roc_plan.specs.Groups.{Plan}
use Rattle.roc_step.specs.State.{is_here, ServerState, ServerStep}
use Rattle.roc_step.specs.Start.{startok_of}
use Rattle.roc_step.specs.Below.{is_ended}
use Rattle.roc_step.specs.Asking.{fetch_from}
use Rattle.roc_law_protocol.specs.World.{sent_by}
use Rattle.roc_law_protocol.specs.Quiet.{IsToldIn}
use Rattle.roc_law_protocol.proofs.Changed.{get-front}
use Rattle.roc_law_protocol.proofs.Changed.{get-set_here, get-set_other, get-set_cases}
use Rattle.roc_law_protocol.proofs.Carried.{IsToldBy, HoldsGood, KeepsGood}
use Rattle.roc_law_protocol.proofs.Networks.{told_more}
use Rattle.roc_law_protocol.proofs.Starting.{shard_number}
use Rattle.roc_law_protocol.proofs.Hears.{SeeksAll, AreWaiting, AwaitsNone, IsAnswered, IsSaid, Hears}
use Rattle.roc_law_protocol.proofs.Takes.{Takes}
use Rattle.roc_law_protocol.proofs.Gone.{IsGone}

-- ---- places in a network that grows

pub front_was : {A : Type 0} (k : ℕ) (a : A) (xs ys : List A) → k < length xs → slice_get (xs ++ ys) k ≡ Some a → slice_get xs k ≡ Some a
front_was k a [] ys l e = absurd (omega arith)
front_was zero a (x ∷ xs) ys l e = e
front_was (suc k) a (x ∷ xs) ys l e = front_was k a xs ys (omega arith) e

-- where one of those that come behind stands
pub place_behind : {A : Type 0} (a : A) (xs ys : List A) → Has a ys → (k : ℕ) × (slice_get (xs ++ ys) k ≡ Some a) × (length xs ≤ k)
place_behind a [] [] h = absurd h
place_behind a [] (y ∷ ys) (inl e) = (0, ap Some (sym e), omega arith)
place_behind a [] (y ∷ ys) (inr h) = let q = place_behind a [] ys h in (suc q.0, q.1, omega arith)
place_behind a (x ∷ xs) ys h = let q = place_behind a xs ys h in (suc q.0, q.1, (let l = q.2 in omega arith))

-- ---- words. A message has a place in the network; place k is of message k + 1

-- of the server of a shard
abbrev pub At : List ServerState → ℕ → (ServerState → Type 0) → Type 0
At servers n P = (s : ServerState) × (slice_get servers n ≡ Some s) × P s

-- a commitok of t from the shard is in the network
abbrev pub IsDoneIn : List Envelope → TxnId → Shard → Type 0
IsDoneIn sent t shard = (outs : List ℤ) × (m : Envelope) × Has m sent × (m.msg ≡ CommitOk t shard outs)

-- a fetch by the shard is among the messages
abbrev pub IsFetchedIn : List Envelope → ℕ → OpenFetch → Type 0
IsFetchedIn sent n a = (m : Envelope) × Has m sent × (m.to ≡ Server a.at) × (m.msg ≡ Fetch a.id (record { 0 = n }))

-- a start of the group to the shard is in the network
abbrev pub IsStartedIn : List Envelope → ℕ → TxnId → ℕ → Type 0
IsStartedIn sent n t g = (proc : ℕ) × (args : List ℤ) × (inputs : List ℤ) × (m : Envelope) × Has m sent × (m.to ≡ Server (record { 0 = n })) × (m.msg ≡ Start t proc g args inputs)

-- the message answers a fetch of t by the shard
abbrev pub Tells : TxnId → Shard → Envelope → Type 0
Tells t shard m = (m.to ≡ Server shard) × (((edges : List Dependency) × (m.msg ≡ Known t edges)) ⊎ ((mark : ℕ) × (m.msg ≡ Settled t mark)))

-- an answer stands in the network behind place n
pub record Told (sent : List Envelope) (t : TxnId) (shard : Shard) (n : ℕ) : Type 0 where
  pub at : ℕ
  pub message : Envelope
  pub stands : slice_get sent at ≡ Some message
  pub tells : Tells t shard message
  pub behind : n < at

-- the fetch of what the shard asked for stands in the network, and no answer behind it came
pub record Fresh (sent : List Envelope) (Came : ℕ → Type 0) (n : ℕ) (a : OpenFetch) : Type 0 where
  pub at : ℕ
  pub message : Envelope
  pub stands : slice_get sent at ≡ Some message
  pub to : message.to ≡ Server a.at
  pub is : message.msg ≡ Fetch a.id (record { 0 = n })
  pub unanswered : (k : ℕ) (m : Envelope) → at < k → slice_get sent k ≡ Some m → Tells a.id (record { 0 = n }) m → ¬ Came k

-- a server that took a commit from the shard of this name, or has forgotten its transaction
abbrev pub HasCommit : List Envelope → TxnId → Shard → ServerState → Type 0
HasCommit sent t shard v = ((is_here t v.started ≡ true) × IsKnown v.lists.known t × (IsDecided v.lists.links t → IsDoneIn sent t shard)) ⊎ IsGone v t

-- the asker waits here
abbrev pub HasAsker : TxnId → Shard → ServerState → Type 0
HasAsker t asker v = Has (record { id = t; shard = asker }) v.lists.waiting.askers

-- what the message at place n left once it was delivered. An answer to a fetch leaves nothing that lasts: what it ends is said of the fetch
abbrev pub IsTaken : List ServerState → List Envelope → ℕ → Msg → Node → Type 0
IsTaken servers sent n (Start id proc group args inputs) (Server shard) = ((edges : List Dependency) × (facts : List KnownList) × IsToldIn sent id group edges facts) ⊎ At servers shard.0 (λ v. is_ended v.below id ≡ true)
IsTaken servers sent n (Start id proc group args inputs) (Coord number) = Unit {0}
IsTaken servers sent n (Commit id edges facts) (Server shard) = At servers shard.0 (HasCommit sent id shard)
IsTaken servers sent n (Commit id edges facts) (Coord number) = Unit {0}
IsTaken servers sent n (Fetch id asker) (Server shard) = Told sent id asker n ⊎ At servers shard.0 (HasAsker id asker)
IsTaken servers sent n (Fetch id asker) (Coord number) = Unit {0}
IsTaken servers sent n msg to = Unit {0}

-- behind an answer that comes, its server waits for none
abbrev pub EndsWaiting : List ServerState → Envelope → Type 0
EndsWaiting servers m = (t : TxnId) (n : ℕ) (v : ServerState) → slice_get servers n ≡ Some v → Tells t (record { 0 = n }) m → AwaitsNone t v

-- what a server started, it was asked to; who asks it waits for an unknown list; and it seeks what lists name
pub record Awaits (sent : List Envelope) (n : ℕ) (s : ServerState) : Type 0 where
  pub starts : HoldsGood (λ t es. Unit {0}) (IsStartedIn sent n) s
  pub askers : AreWaiting s
  pub seeks : SeeksAll s

-- a settled names a watermark above its transaction, which a server can hear that keeps so many
abbrev pub IsMarked : ℕ → Msg → Type 0
IsMarked marks (Settled id mark) = (id.seq < mark) × (id.coord < marks)
IsMarked marks msg = Unit {0}

-- which messages came is said of their places
pub record Heard (marks : ℕ) (servers : List ServerState) (sent : List Envelope) (Came : ℕ → Type 0) : Type 0 where
  -- each server keeps as many watermarks
  pub keeps : (n : ℕ) (s : ServerState) → slice_get servers n ≡ Some s → length s.below ≡ marks
  pub marked : (m : Envelope) → Has m sent → IsMarked marks m.msg
  pub placed : (k : ℕ) → Came k → k < length sent
  -- each message that came was taken
  pub taken : (k : ℕ) (m : Envelope) → Came k → slice_get sent k ≡ Some m → IsTaken servers sent k m.msg m.to
  -- of what was asked for and is unknown the fetch is in the network, and no answer behind it came
  pub fresh : (n : ℕ) (s : ServerState) → slice_get servers n ≡ Some s → (a : OpenFetch) → Has a s.lists.waiting.asked → ¬ IsKnown s.lists.known a.id → Fresh sent Came n a
  pub awaits : (n : ℕ) (s : ServerState) → slice_get servers n ≡ Some s → Awaits sent n s

-- ---- what no event takes back

-- of the server of shard n, whose state was v and is z
pub record IsLater (sent more : List Envelope) (n : ℕ) (v z : ServerState) : Type 0 where
  pub ended : (t : TxnId) → is_ended v.below t ≡ true → is_ended z.below t ≡ true
  pub marks : length z.below ≡ length v.below
  pub commit : (t : TxnId) → HasCommit sent t (record { 0 = n }) v → HasCommit (sent ++ more) t (record { 0 = n }) z
  pub asker : (a : Asker) → Has a v.lists.waiting.askers → ((m : Envelope) × Has m more × Tells a.id a.shard m) ⊎ Has a z.lists.waiting.askers
  -- what is asked for was, and its list is known where it was; or its fetch is among what is sent
  pub asked : (a : OpenFetch) → Has a z.lists.waiting.asked → (Has a v.lists.waiting.asked × (IsKnown v.lists.known a.id → IsKnown z.lists.known a.id)) ⊎ IsFetchedIn more n a

pub record Later (servers after : List ServerState) (sent more : List Envelope) : Type 0 where
  pub each : (n : ℕ) (v : ServerState) → slice_get servers n ≡ Some v → (z : ServerState) × (slice_get after n ≡ Some z) × IsLater sent more n v z
  pub was : (n : ℕ) (z : ServerState) → slice_get after n ≡ Some z → (v : ServerState) × (slice_get servers n ≡ Some v) × IsLater sent more n v z

module _ (sent more : List Envelope) where
  started_more : (n : ℕ) (t : TxnId) (g : ℕ) → IsStartedIn sent n t g → IsStartedIn (sent ++ more) n t g
  started_more n t g k = (k.0, k.1, k.2, k.3, has_left k.3 sent more k.4, k.5, k.6)

  done_more : (t : TxnId) (shard : Shard) → IsDoneIn sent t shard → IsDoneIn (sent ++ more) t shard
  done_more t shard k = (k.0, k.1, has_left k.1 sent more k.2, k.3)

  holds_more : (n : ℕ) (s : ServerState) → HoldsGood (λ t es. Unit {0}) (IsStartedIn sent n) s → HoldsGood (λ t es. Unit {0}) (IsStartedIn (sent ++ more) n) s
  holds_more n s g = record { groups = λ e h. started_more n e.id e.group (g.groups e h); known = λ k h. tt; facts = λ e h k j. tt; same = g.same }

  -- what was sent stays sent
  pub awaits_more : (n : ℕ) (s : ServerState) → Awaits sent n s → Awaits (sent ++ more) n s
  awaits_more n s a = record { starts = holds_more n s a.starts; askers = a.askers; seeks = a.seeks }

  -- a server whose state is the same
  is_same : (n : ℕ) (v : ServerState) → IsLater sent more n v v
  is_same n v = record {
    ended = λ t e. e;
    marks = refl;
    commit = λ t k. elim k [ inl p ↦ inl (p.0, p.1, λ d. done_more t (record { 0 = n }) (p.2 d)) | inr gone ↦ inr gone ];
    asker = λ a h. inr h;
    asked = λ a h. inl (h, λ k. k);
  }

  -- more is sent, and no server changes
  pub later_sends : (servers : List ServerState) → Later servers servers sent more
  later_sends servers = record { each = λ n v e. (v, e, is_same n v); was = λ n z e. (z, e, is_same n z) }

module _ (marks : ℕ) (servers after : List ServerState) (sent more : List Envelope) (Came : ℕ → Type 0) (h : Heard marks servers sent Came) (l : Later servers after sent more) where
  taken_later : (k : ℕ) (msg : Msg) (to : Node) → k < length sent → IsTaken servers sent k msg to → IsTaken after (sent ++ more) k msg to
  taken_later k (Start id proc group args inputs) (Server shard) b (inl t) = inl (t.0, t.1, told_more sent more id group t.0 t.1 t.2)
  taken_later k (Start id proc group args inputs) (Server shard) b (inr t) = let z = l.each shard.0 t.0 t.1 in inr (z.0, z.1, z.2.ended id t.2)
  taken_later k (Start id proc group args inputs) (Coord number) b t = tt
  taken_later k (Commit id edges facts) (Server shard) b t = let z = l.each shard.0 t.0 t.1 in (z.0, z.1, z.2.commit id t.2)
  taken_later k (Commit id edges facts) (Coord number) b t = tt
  taken_later k (Fetch id asker) (Server shard) b (inl t) = inl (record { at = t.at; message = t.message; stands = get-front sent more t.at t.message t.stands; tells = t.tells; behind = t.behind })
  taken_later k (Fetch id asker) (Server shard) b (inr t) =
      let z = l.each shard.0 t.0 t.1 in
      elim (z.2.asker (record { id = id; shard = asker }) t.2) [
        | inl q ↦ (let p = place_behind q.0 sent more q.1 in inl (record { at = p.0; message = q.0; stands = p.1; tells = q.2; behind = (let far = p.2 in omega arith) }))
        | inr j ↦ inr (z.0, z.1, j)
      ]
  taken_later k (Fetch id asker) (Coord number) b t = tt
  taken_later k msg to b t = tt

  was_at : (k : ℕ) (m : Envelope) → Came k → slice_get (sent ++ more) k ≡ Some m → slice_get sent k ≡ Some m
  was_at k m c e = front_was k m sent more (h.placed k c) e

  fresh_later : (n : ℕ) (z : ServerState) → slice_get after n ≡ Some z → (a : OpenFetch) → Has a z.lists.waiting.asked → ¬ IsKnown z.lists.known a.id → Fresh (sent ++ more) Came n a
  fresh_later n z e a k unknown =
      let v = l.was n z e in
      elim (v.2.asked a k) [
        | inl q ↦
            (let f = h.fresh n v.0 v.1 a q.0 (λ y. unknown (q.1 y)) in
            record { at = f.at; message = f.message; stands = get-front sent more f.at f.message f.stands; to = f.to; is = f.is; unanswered = λ j m b at tells c. f.unanswered j m b (was_at j m c at) tells c })
        | inr q ↦
            (let p = place_behind q.0 sent more q.1 in
            record { at = p.0; message = q.0; stands = p.1; to = q.2; is = q.3; unanswered = λ j m b at tells c. (let within = h.placed j c in let far = p.2 in absurd (omega arith)) })
      ]

  -- the network grows, and servers go on
  pub heard_next : ((m : Envelope) → Has m more → IsMarked marks m.msg) → ((n : ℕ) (z : ServerState) → slice_get after n ≡ Some z → Awaits (sent ++ more) n z) → Heard marks after (sent ++ more) Came
  heard_next new awaits =
      record {
        keeps = λ n z e. (let v = l.was n z e in v.2.marks ∙ h.keeps n v.0 v.1);
        marked = λ m k. elim (has_append m sent more k) [ inl j ↦ h.marked m j | inr j ↦ new m j ];
        placed = λ k c. (let within = h.placed k c in let many = length-append sent more in omega arith);
        taken = λ k m c e. (let was = was_at k m c e in taken_later k m.msg m.to (h.placed k c) (h.taken k m c was));
        fresh = fresh_later;
        awaits = awaits;
      }

-- the message at place n comes, after it was taken
pub heard_comes : (marks : ℕ) (servers : List ServerState) (sent : List Envelope) (Came Now : ℕ → Type 0) (n : ℕ) (m : Envelope) → Heard marks servers sent Came → ((k : ℕ) → Now k → (k ≡ n) ⊎ Came k) → slice_get sent n ≡ Some m → IsTaken servers sent n m.msg m.to
    → EndsWaiting servers m → Heard marks servers sent Now
heard_comes marks servers sent Came Now n m h now there taken ends =
    record {
      keeps = h.keeps;
      marked = h.marked;
      placed = λ k c. elim (now k c) [ inl e ↦ subst (λ k. k < length sent) (sym e) (slice_get_within sent n m there) | inr j ↦ h.placed k j ];
      taken = λ k x c e. elim (now k c) [
        | inl same ↦ (let is = same_there sent n m x there (subst (λ k. slice_get sent k ≡ Some x) same e) in subst (λ k. IsTaken servers sent k x.msg x.to) (sym same) (subst (λ (x : Envelope). IsTaken servers sent n x.msg x.to) is taken))
        | inr j ↦ h.taken k x j e
      ];
      fresh = λ i s at a k unknown. (let f = h.fresh i s at a k unknown in record {
        at = f.at;
        message = f.message;
        stands = f.stands;
        to = f.to;
        is = f.is;
        unanswered = λ j x b e tells c. elim (now j c) [
          | inl same ↦ (let is = same_there sent n m x there (subst (λ k. slice_get sent k ≡ Some x) same e) in unknown (ends a.id i s at (subst (Tells a.id (record { 0 = i })) (sym is) tells) a k refl))
          | inr y ↦ f.unanswered j x b e tells y
        ];
      });
      awaits = h.awaits;
    }

-- fewer came
pub heard_weaker : (marks : ℕ) (servers : List ServerState) (sent : List Envelope) (Came Now : ℕ → Type 0) → Heard marks servers sent Came → ((k : ℕ) → Now k → Came k) → Heard marks servers sent Now
heard_weaker marks servers sent Came Now h now =
    record {
      keeps = h.keeps;
      marked = h.marked;
      placed = λ k c. h.placed k (now k c);
      taken = λ k m c. h.taken k m (now k c);
      fresh = λ n s at a k unknown. (let f = h.fresh n s at a k unknown in record { at = f.at; message = f.message; stands = f.stands; to = f.to; is = f.is; unanswered = λ j m b e tells c. f.unanswered j m b e tells (now j c) });
      awaits = h.awaits;
    }

-- ---- a step of a server

module _ (plan : Plan) (servers : List ServerState) (sent : List Envelope) (n : ℕ) (s : ServerState) (there : slice_get servers n ≡ Some s) (number : s.shard.0 ≡ n) (r : ServerStep) (h : Hears s r) (g : KeepsGood plan (λ t es. Unit {0}) (IsStartedIn sent n) s r) where
  abbrev more : List Envelope
  more = map (sent_by (Server (record { 0 = n }))) r.sends

  abbrev after : List ServerState
  after = slice_set servers n r.state

  sent_now : (out : Outgoing) → Has out r.sends → Has (sent_by (Server (record { 0 = n })) out) (sent ++ more)
  sent_now out k = has_right (sent_by (Server (record { 0 = n })) out) sent more (has_map (sent_by (Server (record { 0 = n }))) out r.sends k)

  abbrev to_shard : ℕ → Shard
  to_shard m = record { 0 = m }

  now_there : (shard : Shard) → n ≡ shard.0 → slice_get after shard.0 ≡ Some r.state
  now_there shard same = subst (λ m. slice_get after m ≡ Some r.state) same (get-set_here servers n s r.state there)

  done_now : (t : TxnId) (shard : Shard) → n ≡ shard.0 → IsSaid r.sends s.shard t → IsDoneIn (sent ++ more) t shard
  done_now t shard same k = (
    k.0,
    sent_by (Server (record { 0 = n })) (record { to = Coord t.coord; msg = CommitOk t s.shard k.0 }),
    sent_now (record { to = Coord t.coord; msg = CommitOk t s.shard k.0 }) k.1,
    ap (λ (at : Shard). CommitOk t at k.0) (ap to_shard (number ∙ same)),
  )

  answered_now : (a : Asker) → IsAnswered r.sends a → (m : Envelope) × Has m more × Tells a.id a.shard m
  answered_now a k = (sent_by (Server (record { 0 = n })) k.0, has_map (sent_by (Server (record { 0 = n }))) k.0 r.sends k.1, (k.2, k.3))

  fetched_now : (a : OpenFetch) → Has (fetch_from s.shard a) r.sends → IsFetchedIn more n a
  fetched_now a k = (sent_by (Server (record { 0 = n })) (fetch_from s.shard a), has_map (sent_by (Server (record { 0 = n }))) (fetch_from s.shard a) r.sends k, refl, ap (λ (at : Shard). Fetch a.id at) (ap to_shard number))

  -- a settled that is sent names a watermark that each server can hear which keeps as many
  pub marked_now : (marks : ℕ) → length s.below ≡ marks → (m : Envelope) → Has m more → IsMarked marks m.msg
  marked_now marks kept m k =
      let q = from_has_map (sent_by (Server (record { 0 = n }))) m r.sends k in
      subst (λ (m : Envelope). IsMarked marks m.msg) (sym q.2) (go q.0.msg (g.told q.0 q.1))
    where
      go : (msg : Msg) → IsToldBy s.shard r.state msg → IsMarked marks msg
      go (Settled id mark) t = (t.0, subst (λ l. id.coord < l) (g.marks ∙ kept) t.1)
      go msg t = tt

  still_commit :
      (t : TxnId) → is_here t s.started ≡ true → IsKnown s.lists.known t → (IsDecided s.lists.links t → IsDoneIn sent t (record { 0 = n })) → (is_here t r.state.started ≡ true) ⊎ IsGone r.state t → IsKnown r.state.lists.known t ⊎ IsGone r.state t
      → HasCommit (sent ++ more) t (record { 0 = n }) r.state
  still_commit t was knew done (inl here) (inl known) = inl (here, known, λ d. elim (h.says t was d) [ inl before ↦ done_more sent more t (record { 0 = n }) (done before) | inr j ↦ done_now t (record { 0 = n }) refl j ])
  still_commit t was knew done (inr gone) known = inr gone
  still_commit t was knew done (inl here) (inr gone) = inr gone

  its_later : IsLater sent more n s r.state
  its_later =
      record {
        ended = g.ended;
        marks = g.marks;
        commit = λ t k. elim k [ inl p ↦ still_commit t p.0 p.1 p.2 (g.here t p.0) (h.known t p.1) | inr gone ↦ inr (g.gone t gone) ];
        asker = λ a k. elim (h.askers a k) [ inl told ↦ inl (answered_now a told) | inr j ↦ inr j ];
        asked = λ a k. elim (h.asked a k) [ inl was ↦ inl was | inr new ↦ inr (fetched_now a new) ];
      }

  -- nothing is taken back
  pub later_served : Later servers after sent more
  later_served =
      record {
        each = λ m v e. elim (cases_eq n m) [
          | inl same ↦ (
            r.state,
            subst (λ m. slice_get after m ≡ Some r.state) same (get-set_here servers n s r.state there),
            subst (λ m. IsLater sent more m v r.state) same (subst (λ v. IsLater sent more n v r.state) (same_there servers n s v there (subst (λ m. slice_get servers m ≡ Some v) (sym same) e)) its_later),
          )
          | inr other ↦ (v, get-set_other servers n m r.state other ∙ e, is_same sent more m v)
        ];
        was = λ m z e. elim (get-set_cases servers n m s r.state z there e) [
          | inl k ↦ (s, subst (λ m. slice_get servers m ≡ Some s) k.0 there, subst (λ m. IsLater sent more m s z) k.0 (subst (IsLater sent more n s) (sym k.1) its_later))
          | inr k ↦ (z, k.1, is_same sent more m z)
        ];
      }

  -- the message at place k that is taken now leaves this
  pub taken_now : (k : ℕ) (msg : Msg) (shard : Shard) → k < length sent → n ≡ shard.0 → Takes plan s msg r → IsTaken after (sent ++ more) k msg (Server shard)
  taken_now k (Start id proc group args inputs) shard b same (inr e) = inr (r.state, now_there shard same, e)
  taken_now k (Start id proc group args inputs) shard b same (inl t) =
      let e = t.0 in inl (
        e.edges,
        e.facts,
        record {
          message = sent_by (Server (record { 0 = n })) (startok_of s.shard e);
          has = sent_now (startok_of s.shard e) t.3;
          shard = s.shard;
          bound = e.bound;
          outs = e.outs;
          is = λ j. StartOk (t.1 j) (t.2 j) s.shard e.bound e.outs e.edges e.facts;
        },
      )
  taken_now k (Commit id edges facts) shard b same (inl t) = (r.state, now_there shard same, inl (t.0, t.1, λ d. done_now id shard same (t.2 d)))
  taken_now k (Commit id edges facts) shard b same (inr gone) = (r.state, now_there shard same, inr gone)
  taken_now k (Fetch id asker) shard b same (inl t) = let q = answered_now (record { id = id; shard = asker }) t in let p = place_behind q.0 sent more q.1 in inl (record { at = p.0; message = q.0; stands = p.1; tells = q.2; behind = (let far = p.2 in omega arith) })
  taken_now k (Fetch id asker) shard b same (inr t) = inr (r.state, now_there shard same, t)
  taken_now k msg shard b same t = tt

  -- behind an answer the server waits for none
  pub ends_now : (m : Envelope) → m.to ≡ Server (record { 0 = n }) → Takes plan s m.msg r → EndsWaiting after m
  ends_now m to takes t i v at_i tells =
      let at : n ≡ i = ap shard_number (sym to ∙ tells.0) in
      let same = same_there after n r.state v (get-set_here servers n s r.state there) (subst (λ i. slice_get after i ≡ Some v) (sym at) at_i) in
      subst (AwaitsNone t) same (elim tells.1 [ inl k ↦ subst (λ msg. Takes plan s msg r) k.1 takes | inr k ↦ subst (λ msg. Takes plan s msg r) k.1 takes ])

  -- and what the server waits for it seeks
  pub awaits_after : Awaits sent n s → Awaits (sent ++ more) n r.state
  awaits_after a = record { starts = holds_more sent more n r.state g.state; askers = h.waits a.askers; seeks = h.seeks a.seeks }
