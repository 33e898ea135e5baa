-- What messages and states say of the log
use Rattle.std.proofs.Common.{◌≤◌, ◌≡◌, ◌≢◌, ◌↔◌, ◌⊎◌, ℕ, ℤ, ◌<◌, Bool, true, false, not, ◌&&◌, ◌==◌, List, [], ◌∷◌, Some, None, length, map}
use Rattle.std.specs.Prelude.{slice_get, slice_index_or, pos, filter, flat_map, zip}
use Rattle.std.specs.List.{AllByRecursion, range_with_len}
use Rattle.roc_sequence.specs.Lists.{Has}
use Rattle.roc_sequence.specs.Places.{IsListed, IsListedBefore}
use Rattle.roc_base.specs.declared.id.TxnId.{TxnId}
use Rattle.roc_base.specs.declared.node.Node.{Node}
use Rattle.roc_base.specs.declared.node.Node.TheVariants.{Server, Coord}
use Rattle.roc_base.specs.declared.node.Shard.{Shard}
use Rattle.roc_base.specs.TxnId.{is_txn}
use Rattle.roc_base.specs.Edge.{Dependency}
use Rattle.roc_rows.specs.declared.cell.Cell.{Cell}
use Rattle.roc_rows.specs.Store.{Store, read}
use Rattle.roc_depgraph.specs.declared.known.KnownList.{KnownList}
use Rattle.roc_depgraph.specs.Deps.{IsAncestor, IsDecided}
use Rattle.roc_component.specs.Components.{Mates}
use Rattle.roc_step.specs.declared.waits.OpenFetch.{OpenFetch}
use Rattle.roc_msg.specs.declared.msg.Msg.{Msg}
use Rattle.roc_msg.specs.declared.msg.Msg.TheVariants.{Start, StartOk, Commit, CommitOk, Fetch, Known, Ended, Settled}
use Rattle.roc_msg.specs.declared.msg.Envelope.{Envelope}
use Rattle.roc_plan.specs.Groups.{Plan, groups_of, inputs_of, outs_of}
use Rattle.roc_whole.specs.Serial as whole
use Rattle.roc_law_orders.specs.Behaviour.{TxnGroup, is_txn_group, is_group_number}
use Rattle.roc_law_orders.specs.Runs.{Stage, needs, inputs_at, stage_behind, uses_in}
use Rattle.roc_law_log.specs.Scheme.{Scheme}
use Rattle.roc_law_log.specs.Log.{Log, PrecedesGroup, PrecedesTxn, shard_at, IsWhole, IsDecidedThroughout}
use Rattle.roc_law_log.specs.Settled.{IsSettled}
use Rattle.roc_law_log.specs.Steps.{IsReachedLog}
use Rattle.roc_step.specs.declared.started.StartedGroup.{StartedGroup}
use Rattle.roc_step.specs.State.{find_group, is_here, ServerState}
use Rattle.roc_step.specs.State.{unrun}
use Rattle.roc_coord.specs.declared.transaction.Transaction.{Transaction}
use Rattle.roc_coord.specs.declared.transaction.TakenStart.{TakenStart}
use Rattle.roc_coord.specs.State.{was_asked, CoordState}
use Rattle.roc_coord.specs.Ids.{view_ids}
use Rattle.roc_coord.specs.Starts.{is_ready, all_started, shards_of}
use Rattle.roc_audit.specs.declared.entry.Entry.TheVariants.{Answered}
use Rattle.roc_law_protocol.specs.PlanAssumptions.{picked, use_of}
use Rattle.roc_law_protocol.specs.Beginnings.{Beginning}
use Rattle.roc_law_protocol.specs.World.{World}
use Rattle.roc_law_protocol.specs.Happens.{RanAt}
use Rattle.roc_step.specs.Below.{is_ended}
use Rattle.roc_law_protocol.proofs.Gone.{IsGone}
use Rattle.roc_law_protocol.proofs.Followed.{AreFollowedOf}

abbrev pub run_of : TxnId → ℕ → TxnGroup
run_of t g = record { txn = t; group = g }

abbrev pub IsServerNode : Node → Type 0
IsServerNode (Server shard) = Unit {0}
IsServerNode (Coord number) = ⊥

abbrev pub entry_run : StartedGroup → TxnGroup
entry_run e = run_of e.id e.group

-- it is the id of no transaction of the run: its sequence was used before the run began, or nothing is asked by it
abbrev pub IsOther : (TxnId → whole.Call) → Beginning → TxnId → Type 0
IsOther asked start t = (t.seq < start.nexts t.coord) ⊎ ((asked t).id ≢ t)

module _ (plan : Plan) (asked : TxnId → whole.Call) (S : Scheme) (start : Beginning) (log : Log) where
  abbrev pub stage : Stage
  stage = stage_behind S.behaviour start.store log.past.ran

  -- the shard of a group
  abbrev pub place : TxnGroup → ℕ
  place r = shard_at S start.store log.past.ran r

  abbrev pub Precedes : TxnId → TxnGroup → Type 0
  Precedes u r = PrecedesGroup S start.store log.past u r

  abbrev pub Ran : TxnGroup → Type 0
  Ran r = IsListed is_txn_group log.past.ran r

  abbrev pub Began : TxnGroup → Type 0
  Began r = IsListed is_txn_group log.past.started r

  -- the inputs of a group as values
  abbrev pub values_for : TxnGroup → List ℤ
  values_for r = picked (inputs_of plan (asked r.txn).procedure r.group) (inputs_at S.behaviour stage r)

  -- ---- lists

  -- the entries of r's startok
  pub record EdgesMean (r : TxnGroup) (edges : List Dependency) : Type 0 where
    pub sound : (d : Dependency) → Has d edges → Precedes d.from r × (d.imm ≡ S.is_immediate r) × (d.def ≡ not (S.is_immediate r)) × (d.at.0 ≡ place r)
    pub complete : (u : TxnId) → Precedes u r → (d : Dependency) × Has d edges × (d.from ≡ u)

  -- what an entry of t says is so by groups of t
  pub record IsSeen (t : TxnId) (d : Dependency) : Type 0 where
    pub placed : (r : TxnGroup) × (r.txn ≡ t) × Precedes d.from r × (d.at.0 ≡ place r)
    pub by_now : d.imm ≡ true → (r : TxnGroup) × (r.txn ≡ t) × Precedes d.from r × (S.is_immediate r ≡ true)

  -- a list of t is what precedes its groups, all of which started
  pub record ListMeans (t : TxnId) (edges : List Dependency) : Type 0 where
    pub is_whole : IsWhole S log.past.started t
    pub sound : (d : Dependency) → Has d edges → IsSeen t d
    pub complete : (u : TxnId) (r : TxnGroup) → r.txn ≡ t → Precedes u r → (d : Dependency) × Has d edges × (d.from ≡ u) × (S.is_immediate r ≡ true → d.imm ≡ true)

  abbrev pub AllMean : List KnownList → Type 0
  AllMean lists = (k : KnownList) → Has k lists → ListMeans k.of k.edges

  -- ---- messages

  pub record ToldMeans (r : TxnGroup) (bs os : List ℤ) (es : List Dependency) (fs : List KnownList) : Type 0 where
    pub began : Began r
    pub bound_now : S.is_immediate r ≡ true → bs ≡ (stage.yielded r).bound
    pub outs_now : S.is_immediate r ≡ true → os ≡ (stage.yielded r).outs
    pub bound_later : S.is_immediate r ≡ false → bs ≡ []
    pub outs_later : S.is_immediate r ≡ false → os ≡ []
    pub edges : EdgesMean r es
    pub facts : AllMean fs

  -- the group may start, and these are its inputs
  pub record StartMeans (r : TxnGroup) (shard : ℕ) : Type 0 where
    pub listed : IsListed is_group_number (S.behaviour.groups r.txn) r.group
    pub needs_ran : AllByRecursion Ran (needs S.behaviour r)
    pub on : place r ≡ shard

  -- a group of t began on the shard
  pub record HasBegun (t : TxnId) (shard : ℕ) : Type 0 where
    pub group : ℕ
    pub began : Began (run_of t group)
    pub on : place (run_of t group) ≡ shard

  abbrev pub IsBegunAt : TxnId → Node → Type 0
  IsBegunAt t (Server shard) = HasBegun t shard.0
  IsBegunAt t (Coord number) = ⊥

  -- what a shard's buffered groups of t gave, by number
  abbrev pub waits_at : ℕ → TxnId → ℕ → Bool
  waits_at shard t g = not (S.is_immediate (run_of t g)) && (place (run_of t g) == shard)

  abbrev pub group_count : TxnId → ℕ
  group_count t = length (groups_of plan (asked t).procedure)

  abbrev pub outs_at : ℕ → TxnId → List ℤ
  outs_at shard t = flat_map (λ g. (stage.yielded (run_of t g)).outs) (filter (waits_at shard t) (range_with_len 0 (group_count t)))

  pub record DoneMeans (t : TxnId) (shard : ℕ) (outs : List ℤ) : Type 0 where
    pub decided : IsListed is_txn (log.decided shard) t
    pub is : outs ≡ outs_at shard t

  pub record StartIs (id : TxnId) (p group : ℕ) (as_ vs : List ℤ) (node : Node) : Type 0 where
    pub proc : p ≡ (asked id).procedure
    pub args : as_ ≡ (asked id).arguments
    pub inputs : vs ≡ values_for (run_of id group)
    pub means : StartMeans (run_of id group) (place (run_of id group))
    pub to : node ≡ Server (record { 0 = place (run_of id group) })

  -- it was answered, or is that of no transaction of the run
  abbrev pub IsPast : TxnId → Type 0
  IsPast t = IsListed is_txn log.answered t ⊎ IsOther asked start t

  -- all of this coordinator with a sequence below is past
  abbrev pub AreEnded : (coord mark : ℕ) → Type 0
  AreEnded coord mark = (q : ℕ) → q < mark → IsPast (record { coord = coord; seq = q })

  abbrev pub Means : Msg → Node → Type 0
  Means (Start id proc group args inputs) to = StartIs id proc group args inputs to
  Means (StartOk id group shard bound outs edges facts) to = ToldMeans (run_of id group) bound outs edges facts × (shard.0 ≡ place (run_of id group)) × (to ≡ Coord id.coord)
  Means (Commit id edges facts) to = AllMean (record { of = id; edges = edges } ∷ facts) × IsBegunAt id to
  Means (CommitOk id shard outs) to = DoneMeans id shard.0 outs × (to ≡ Coord id.coord)
  Means (Fetch id asker) to = IsBegunAt id to
  Means (Known id edges) to = ListMeans id edges × IsServerNode to
  Means (Ended coord mark) to = AreEnded coord mark × IsServerNode to
  Means (Settled id mark) to = IsSettled S start.store log id × AreEnded id.coord mark × IsServerNode to
  Means msg to = ⊥

  -- ---- servers

  -- a started group on its shard, without what it gave later
  pub record EntryMeans (shard : ℕ) (e : StartedGroup) : Type 0 where
    pub on : place (entry_run e) ≡ shard
    pub proc : e.proc ≡ (asked e.id).procedure
    pub args : e.args ≡ (asked e.id).arguments
    pub inputs : e.inputs ≡ values_for (entry_run e)
    pub cells : map use_of e.cells ≡ uses_in S.behaviour start.store log.past.ran (entry_run e)
    pub told : ToldMeans (entry_run e) e.bound e.outs e.edges e.facts

  -- a group that ran on a shard: it is on it, and used there what it kept
  pub record RanMeans (r : RanAt) : Type 0 where
    pub on : place (entry_run r.group) ≡ r.shard
    pub cells : map use_of r.group.cells ≡ uses_in S.behaviour start.store log.past.ran (entry_run r.group)

  -- what servers tell as run, one after another, is what ran in the log
  pub record AreRan (ran : List RanAt) : Type 0 where
    pub groups : log.past.ran ≡ map (λ r. entry_run r.group) ran
    pub each : (r : RanAt) → Has r ran → RanMeans r

  -- the groups of a shard; each that began there is found, but for those of transactions that are gone
  pub record AreGroupsHere (shard : ℕ) (Gone : TxnId → Type 0) (started : List StartedGroup) : Type 0 where
    pub entries : (e : StartedGroup) → Has e started → EntryMeans shard (unrun e)
    pub finds : (r : TxnGroup) → Began r → place r ≡ shard → ((e : StartedGroup) × (find_group r.txn r.group started ≡ Some e)) ⊎ Gone r.txn

  -- it holds its own cells, as the one store does; and its groups that ran later gave what they gave on the one store
  pub record IsPart (shard : ℕ) (now : Stage) (ran : TxnGroup → Type 0) (store : Store) (started : List StartedGroup) : Type 0 where
    pub cells : (x : Cell) → S.cell_shard x ≡ shard → read store x ≡ read now.store x
    pub elsewhere : (x : Cell) → S.cell_shard x ≢ shard → read store x ≡ pos 0
    pub later : (e : StartedGroup) → Has e started → ran (entry_run e) → S.is_immediate (entry_run e) ≡ false → e.later ≡ Some (now.yielded (entry_run e)).outs
    pub at_once : (e : StartedGroup) → Has e started → S.is_immediate (entry_run e) ≡ true → e.later ≡ None

  -- it is gone, and nobody has to wait for it
  pub record IsForgotten (s : ServerState) (t : TxnId) : Type 0 where
    pub gone : IsGone s t
    pub settled : IsSettled S start.store log t

  -- the components that a server keeps: they hold exactly what is decided, each transaction in one of them
  pub record AreTakenHere (shard : ℕ) (s : ServerState) : Type 0 where
    pub decided : (c : List TxnId) (t : TxnId) → Has c s.lists.taken → Has t c → IsDecided s.lists.links t
    pub all : (t : TxnId) → IsDecided s.lists.links t → (c : List TxnId) × Has c s.lists.taken × Has t c
    pub one : (c e : List TxnId) (t : TxnId) → Has c s.lists.taken → Has e s.lists.taken → Has t c → Has t e → c ≡ e
    -- each is a component as a whole, unless nobody has to wait for it
    pub mates : (c : List TxnId) (t u : TxnId) → Has c s.lists.taken → Has t c → Has u c → Mates (PrecedesTxn S start.store log.past) t u
    pub whole : (c : List TxnId) (t u : TxnId) → Has c s.lists.taken → Has t c → Mates (PrecedesTxn S start.store log.past) t u → Has u c ⊎ IsSettled S start.store log t
    -- those of two that have groups here were taken in the order in which the shard decided them
    pub order :
        (t u : TxnId) → is_here t s.started ≡ true → is_here u s.started ≡ true → IsListedBefore is_txn (flat_map (λ c. c) s.lists.taken) t u
        → IsListedBefore is_txn (log.decided shard) t u

  pub record ServerMeans (shard : ℕ) (s : ServerState) : Type 0 where
    pub number : s.shard.0 ≡ shard
    pub groups : AreGroupsHere shard (IsGone s) s.started
    pub part : IsPart shard stage Ran s.store s.started
    pub known : AllMean s.lists.known
    -- nobody has to wait for what an entry names that is not followed
    pub links : AreFollowedOf (IsSettled S start.store log) s.lists.known s.lists.links
    -- what the shard ever decided is decided by what is followed, or forgotten; and what is decided so it decided
    pub decided : (t : TxnId) → IsListed is_txn (log.decided shard) t → IsDecided s.lists.links t ⊎ IsForgotten s t
    pub back : (t : TxnId) → IsDecided s.lists.links t → IsListed is_txn (log.decided shard) t
    -- what had a group here and is gone, it decided, and nobody has to wait for it
    pub forgot : (t : TxnId) → HasBegun t shard → IsGone s t → IsListed is_txn (log.decided shard) t × IsSettled S start.store log t
    pub taken : AreTakenHere shard s
    -- what is followed from one that has a group here leads to what was decided first, unless the two are in one component
    pub follows :
        (u t : TxnId) → is_here t s.started ≡ true → IsDecided s.lists.links t → IsAncestor s.lists.links u t → ¬ Mates (PrecedesTxn S start.store log.past) t u
        → IsListedBefore is_txn (log.decided shard) u t
    pub fetched : (a : OpenFetch) → Has a s.lists.waiting.asked → HasBegun a.id a.at.0
    -- what is below a watermark is past
    pub ended : (t : TxnId) → is_ended s.below t ≡ true → IsPast t

  -- ---- coordinators

  pub record TxnMeans (x : Transaction) : Type 0 where
    pub proc : x.proc ≡ (asked x.id).procedure
    pub args : x.args ≡ (asked x.id).arguments
    pub startoks : (ok : TakenStart) → Has ok x.startoks → ToldMeans (run_of x.id ok.group) ok.bound ok.outs ok.edges ok.facts
    pub starts : (g : ℕ) (s : Shard) → was_asked x g s ≡ true → StartMeans (run_of x.id g) s.0
    pub ready : (g : ℕ) (s : Shard) → was_asked x g s ≡ true → is_ready plan x g ≡ true
    -- what was told was started before
    pub told : (ok : TakenStart) → Has ok x.startoks → was_asked x ok.group (record { 0 = place (run_of x.id ok.group) }) ≡ true
    -- shards are asked to commit only once every group has started
    pub asked_whole : (s : Shard) → Has s x.asked → (all_started plan x ≡ true) × (x.asked ≡ shards_of x)
    pub commitoks : (s : Shard) (outs : List ℤ) → Has (record { shard = s; outs = outs }) x.commitoks → DoneMeans x.id s.0 outs

  -- the coordinator's transaction of a sequence number
  abbrev pub numbered_id : CoordState → ℕ → TxnId
  numbered_id c q = record { coord = c.number; seq = q }

  pub record CoordMeans (c : CoordState) : Type 0 where
    pub pending : (x : Transaction) → Has x c.pending → TxnMeans x
    pub unanswered : (x : Transaction) → Has x c.pending → Has x.id c.unanswered
    pub views : (u : TxnId) → Has u (view_ids c.views) → IsOther asked start u
    -- each sequence number below the next one is of a transaction that is pending, or past
    pub all : (q : ℕ) → q < c.next → ((x : Transaction) × Has x c.pending × (x.id ≡ numbered_id c q)) ⊎ IsPast (numbered_id c q)
    -- the run began at this next one or before
    pub onward : start.nexts c.number ≤ c.next

  -- ---- the history

  -- a value at a place of t's reply, as one of its groups gave it
  pub record IsGiven (t : TxnId) (at : ℕ) (value : ℤ) : Type 0 where
    pub group : ℕ
    pub ran : Ran (run_of t group)
    pub gave : Has (at, value) (zip (outs_of plan (asked t).procedure group) (stage.yielded (run_of t group)).outs)

  -- it is decided wherever it has a group, and each value of the reply is one that a group gave for its place
  pub record AnswerMeans (t : TxnId) (reply : List ℤ) : Type 0 where
    pub throughout : IsDecidedThroughout S start.store log t
    pub count : length reply ≡ length (flat_map (outs_of plan (asked t).procedure) (range_with_len 0 (group_count t)))
    pub given : (at : ℕ) → at < length reply → IsGiven t at (slice_index_or reply at (pos 0))

  -- ---- the world

  pub record WorldMeans (w : World) : Type 0 where
    pub reached : IsReachedLog S start.store log
    pub order : w.order ≡ log.order
    pub servers : (n : ℕ) (s : ServerState) → slice_get w.servers n ≡ Some s → ServerMeans n s
    pub messages : (m : Envelope) → Has m w.sent → Means m.msg m.to
    pub coords : (n : ℕ) (c : CoordState) → slice_get w.coords n ≡ Some c → CoordMeans c
    pub answered : (t : TxnId) (reply : List ℤ) → Has (Answered t reply) w.history → AnswerMeans t reply
    -- who is answered in the log is who was answered
    pub answers : (t : TxnId) → IsListed is_txn log.answered t ↔ ((reply : List ℤ) × Has (Answered t reply) w.history)
