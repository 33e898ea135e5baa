-- What a world holds is of a plan, and names only nodes that are there: docs/PROTOCOL.md, "World"
use Rattle.std.specs.Prelude.{◌≡◌, ℕ, ◌<◌, ◌≤◌, List, [], Some, length, slice_get}
use Rattle.std.specs.List.{AllByRecursion}
use Rattle.roc_sequence.specs.Lists.{Has}
use Rattle.roc_sequence.specs.Places.{NoneTwice}
use Rattle.roc_base.specs.declared.id.TxnId.{TxnId}
use Rattle.roc_base.specs.TxnId.{is_txn}
use Rattle.roc_base.specs.declared.node.Node.{Node}
use Rattle.roc_base.specs.declared.node.Node.TheVariants.{Server, Coord}
use Rattle.roc_base.specs.Edge.{Dependency}
use Rattle.roc_depgraph.specs.declared.known.KnownList.{KnownList}
use Rattle.roc_msg.specs.declared.msg.Msg.{Msg}
use Rattle.roc_msg.specs.declared.msg.Msg.TheVariants.{Start, StartOk, Commit, Fetch, Known, Ended, Read, ReadOk}
use Rattle.roc_msg.specs.declared.msg.Envelope.{Envelope}
use Rattle.roc_plan.specs.Groups.{Plan}
use Rattle.roc_step.specs.declared.started.StartedGroup.{StartedGroup}
use Rattle.roc_step.specs.State.{ServerState}
use Rattle.roc_step.specs.Fits.{ServerFits}
use Rattle.roc_coord.specs.declared.transaction.Transaction.{Transaction}
use Rattle.roc_coord.specs.State.{CoordState}
use Rattle.roc_coord.specs.Fits.{CoordFits}
use Rattle.roc_coord.specs.Ids.{ids_of}
use Rattle.roc_law_protocol.specs.World.{World}

-- ---- a coordinator without views

-- what is unanswered is what is pending: each once, with a sequence that was used
pub record IsPlain (c : CoordState) : Type 0 where
  pub views : c.views ≡ []
  pub unanswered : c.unanswered ≡ ids_of c.pending
  pub once : NoneTwice is_txn (ids_of c.pending)
  pub below : (u : TxnId) → Has u (ids_of c.pending) → u.seq < c.next

-- ---- so many servers and coordinators are there

module _ (servers coords : ℕ) where
  abbrev pub IsNode : Node → Type 0
  IsNode (Server shard) = shard.0 < servers
  IsNode (Coord number) = number < coords

  -- each entry was seen by a shard that is there
  abbrev pub AreSeenHere : List Dependency → Type 0
  AreSeenHere edges = AllByRecursion (λ d. d.at.0 < servers) edges

  abbrev pub AreListsHere : List KnownList → Type 0
  AreListsHere lists = AllByRecursion (λ k. AreSeenHere k.edges) lists

  -- what a message names is there; and it is of no view
  abbrev pub NamesNodes : Msg → Type 0
  NamesNodes (Start id proc group args inputs) = id.coord < coords
  NamesNodes (StartOk id group shard bound outs edges facts) = AreSeenHere edges × AreListsHere facts
  NamesNodes (Commit id edges facts) = AreSeenHere edges × AreListsHere facts
  NamesNodes (Fetch id asker) = asker.0 < servers
  NamesNodes (Known id edges) = AreSeenHere edges
  NamesNodes (Ended coord mark) = coord < coords
  NamesNodes (Read id round proc group args) = ⊥
  NamesNodes (ReadOk id round group shard versions outs) = ⊥
  NamesNodes msg = Unit {0}

  -- it goes to a node that is there
  pub record IsSentHere (m : Envelope) : Type 0 where
    pub to : IsNode m.to
    pub names : NamesNodes m.msg

  pub record IsStartedHere (e : StartedGroup) : Type 0 where
    pub coord : e.id.coord < coords
    pub edges : AreSeenHere e.edges
    pub facts : AreListsHere e.facts

  pub record IsServerHere (s : ServerState) : Type 0 where
    pub started : AllByRecursion IsStartedHere s.started
    pub known : AreListsHere s.lists.known
    pub links : AreListsHere s.lists.links
    pub asked : AllByRecursion (λ a. a.at.0 < servers) s.lists.waiting.asked
    pub askers : AllByRecursion (λ a. a.shard.0 < servers) s.lists.waiting.askers

  pub record IsTransactionHere (x : Transaction) : Type 0 where
    pub coord : x.id.coord < coords
    pub starts : AllByRecursion (λ start. start.shard.0 < servers) x.starts
    pub startoks : AllByRecursion (λ ok. AreSeenHere ok.edges × AreListsHere ok.facts) x.startoks
    pub asked : AllByRecursion (λ shard. shard.0 < servers) x.asked

  pub record IsCoordHere (c : CoordState) : Type 0 where
    pub number : c.number < coords
    pub pending : AllByRecursion IsTransactionHere c.pending
    pub plain : IsPlain c

-- each node fits the plan, there are no views, there is a server for each shard, all that is named is there, and what was not delivered was sent
pub record FitsWorld (plan : Plan) (w : World) : Type 0 where
  pub some_server : 0 < length w.servers
  pub shards : length w.servers ≡ plan.program.shards
  -- the server at a place has its number
  pub numbers : (n : ℕ) (s : ServerState) → slice_get w.servers n ≡ Some s → s.shard.0 ≡ n
  pub servers : AllByRecursion (ServerFits plan) w.servers
  pub coords : AllByRecursion (CoordFits plan) w.coords
  pub undelivered : AllByRecursion (λ k. (0 < k) × (k ≤ length w.sent)) w.undelivered
  pub sent_here : AllByRecursion (IsSentHere (length w.servers) (length w.coords)) w.sent
  pub servers_here : AllByRecursion (IsServerHere (length w.servers) (length w.coords)) w.servers
  pub coords_here : AllByRecursion (IsCoordHere (length w.servers) (length w.coords)) w.coords
