-- When a header and a message have a spelling: the range of each count and number, and the orders: docs/FORMATS.md, "Datagrams"
use Rattle.std.specs.Prelude.{◌≡◌, ℕ, ◌≤◌, ◌<◌, ◌-◌, ◌^◌, ℤ, Bool, true, IsTrue, List, [], ◌∷◌, length, Option, Some, None, FitsSigned}
use Rattle.std.specs.Int.{w64}
use Rattle.roc_base.specs.declared.id.TxnId.{TxnId}
use Rattle.roc_base.specs.declared.node.Shard.{Shard}
use Rattle.roc_base.specs.declared.node.Node.{Node}
use Rattle.roc_base.specs.declared.node.Node.TheVariants.{Server, Coord}
use Rattle.roc_base.specs.TxnId.{txn_lt}
use Rattle.roc_base.specs.Edge.{Dependency, HasTag}
use Rattle.roc_depgraph.specs.declared.known.KnownList.{KnownList}
use Rattle.roc_msg.specs.declared.msg.Msg.{Msg}
use Rattle.roc_msg.specs.declared.msg.Msg.TheVariants.{Start, StartOk, Commit, CommitOk, Fetch, Known, Stop, Ended, Settled, Read, ReadOk, Drained, Switched}
use Rattle.roc_msg.specs.Facts.{most_facts, most_fact_edges}
use Rattle.roc_wire.specs.declared.header.Header.{Header}

abbrev pub last_coordinator : ℕ
last_coordinator = 15

abbrev pub last_shard : ℕ
last_shard = 63

abbrev pub most_args : ℕ
most_args = 8

abbrev pub most_nums : ℕ
most_nums = 1024

abbrev pub most_versions : ℕ
most_versions = 64

abbrev pub most_edges : ℕ
most_edges = 4096

abbrev pub FitsId : TxnId → Type 0
FitsId id = (id.coord ≤ last_coordinator) × (id.seq < 2 ^ 32)

abbrev pub FitsShard : Shard → Type 0
FitsShard shard = shard.0 ≤ last_shard

-- P holds of each, with what `next` makes of those before it
abbrev pub AllAlong : {A S : Type 0} → (S → A → Type 0) → (S → A → S) → S → List A → Type 0
AllAlong P next s [] = Unit {0}
AllAlong P next s (x ∷ xs) = P s x × AllAlong P next (next s x) xs

abbrev pub FitsNums : ℕ → List ℤ → Type 0
FitsNums most nums = (length nums ≤ most) × AllAlong (λ (s : Unit {0}) n. FitsSigned w64 n) (λ s n. s) tt nums

abbrev pub FitsVersions : List ℕ → Type 0
FitsVersions versions = (length versions ≤ most_versions) × AllAlong (λ (s : Unit {0}) n. n < 2 ^ 64) (λ s n. s) tt versions

-- there is none before it, or it comes behind it
abbrev pub rises : Option TxnId → TxnId → Bool
rises None id = true
rises (Some last) id = txn_lt last id

abbrev pub FitsEdge : Option TxnId → Dependency → Type 0
FitsEdge last edge = FitsId edge.from × IsTrue (rises last edge.from) × HasTag edge × FitsShard edge.at

-- the id that the next one comes behind
abbrev pub last_from : Option TxnId → Dependency → Option TxnId
last_from last edge = Some edge.from

abbrev pub FitsEdges : ℕ → List Dependency → Type 0
FitsEdges most edges = (length edges ≤ most) × AllAlong FitsEdge last_from None edges

-- the id that a fact comes behind, and how many edges it may have
abbrev pub Room : Type 0
Room = Option TxnId × ℕ

abbrev pub FitsFact : Room → KnownList → Type 0
FitsFact room fact = FitsId fact.of × IsTrue (rises room.0 fact.of) × FitsEdges room.1 fact.edges

abbrev pub room_behind : Room → KnownList → Room
room_behind room fact = (Some fact.of, room.1 - length fact.edges)

abbrev pub FitsFacts : List KnownList → Type 0
FitsFacts facts = (length facts ≤ most_facts) × AllAlong FitsFact room_behind (None, most_fact_edges) facts

-- the mark of what is settled is past the id that it settles
abbrev pub FitsMsg : Msg → Type 0
FitsMsg (Start id proc group args inputs) = FitsId id × (proc < 2 ^ 16) × (group < 2 ^ 16) × FitsNums most_args args × FitsNums most_nums inputs
FitsMsg (StartOk id group shard bound outs edges facts) =
    FitsId id × (group < 2 ^ 16) × FitsShard shard × FitsNums most_nums bound × FitsNums most_nums outs
    × FitsEdges most_edges edges × FitsFacts facts
FitsMsg (Commit id edges facts) = FitsId id × FitsEdges most_edges edges × FitsFacts facts
FitsMsg (CommitOk id shard outs) = FitsId id × FitsShard shard × FitsNums most_nums outs
FitsMsg (Fetch id asker) = FitsId id × FitsShard asker
FitsMsg (Known id edges) = FitsId id × FitsEdges most_edges edges
FitsMsg Stop = Unit {0}
FitsMsg (Ended coord below) = (coord ≤ last_coordinator) × (below < 2 ^ 32)
FitsMsg (Settled id below) = FitsId id × (id.seq < below) × (below < 2 ^ 32)
FitsMsg (Read id round proc group args) = FitsId id × (round < 2 ^ 32) × (proc < 2 ^ 16) × (group < 2 ^ 16) × FitsNums most_args args
FitsMsg (ReadOk id round group shard versions outs) =
    FitsId id × (round < 2 ^ 32) × (group < 2 ^ 16) × FitsShard shard × FitsVersions versions × FitsNums most_nums outs
FitsMsg (Drained upto) = FitsId upto
FitsMsg (Switched upto shard) = FitsId upto × FitsShard shard

abbrev pub FitsNode : Node → Type 0
FitsNode (Server shard) = FitsShard shard
FitsNode (Coord number) = number ≤ last_coordinator

abbrev pub FitsHeader : Header → Type 0
FitsHeader header = (length header.tag ≡ 8) × FitsNode header.from

abbrev pub IsSpellable : Header → Msg → Type 0
IsSpellable header msg = FitsHeader header × FitsMsg msg
