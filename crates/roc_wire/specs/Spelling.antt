-- The one spelling of a header and a message: docs/FORMATS.md, "Datagrams". Numbers have their most significant byte first
use Rattle.std.specs.Prelude.{ℕ, ℤ, if◌then◌else◌, List, [], ◌∷◌, ◌++◌, length}
use Rattle.std.specs.Int.{w8, w16, w32, w64, to_be_bytes, cast_unsigned}
use Rattle.std.specs.List.{flat_map}
use Rattle.roc_base.specs.declared.id.TxnId.{TxnId}
use Rattle.roc_base.specs.declared.node.Shard.{Shard}
use Rattle.roc_base.specs.declared.node.Node.{Node}
use Rattle.roc_base.specs.declared.node.Node.TheVariants.{Server, Coord}
use Rattle.roc_base.specs.Edge.{Dependency}
use Rattle.roc_depgraph.specs.declared.known.KnownList.{KnownList}
use Rattle.roc_msg.specs.declared.msg.Msg.{Msg}
use Rattle.roc_msg.specs.declared.msg.Msg.TheVariants.{Start, StartOk, Commit, CommitOk, Fetch, Known, Stop, Ended, Settled, Read, ReadOk, Drained, Switched}
use Rattle.roc_msg.specs.Msg.{kind_of}
use Rattle.roc_wire.specs.declared.header.Header.{Header}

-- `RCO1`
abbrev pub magic : List ℕ
magic = 82 ∷ 67 ∷ 79 ∷ 49 ∷ []

abbrev pub version : ℕ
version = 2

abbrev pub id_bytes : TxnId → List ℕ
id_bytes id = to_be_bytes w16 id.coord ++ to_be_bytes w32 id.seq

abbrev pub shard_bytes : Shard → List ℕ
shard_bytes shard = to_be_bytes w8 shard.0

-- how many there are, and each
abbrev pub counted_bytes : {A : Type 0} → (A → List ℕ) → List A → List ℕ
counted_bytes spell xs = to_be_bytes w16 (length xs) ++ flat_map spell xs

-- in two's complement
abbrev pub num_bytes : ℤ → List ℕ
num_bytes n = to_be_bytes w64 (cast_unsigned w64 n)

abbrev pub nums_bytes : List ℤ → List ℕ
nums_bytes nums = counted_bytes num_bytes nums

abbrev pub versions_bytes : List ℕ → List ℕ
versions_bytes versions = counted_bytes (to_be_bytes w64) versions

-- 1 for immediate groups, 2 for deferrable ones, 3 for both
abbrev pub tags_of : Dependency → ℕ
tags_of edge = if edge.imm then (if edge.def then 3 else 1) else 2

abbrev pub edge_bytes : Dependency → List ℕ
edge_bytes edge = id_bytes edge.from ++ to_be_bytes w8 (tags_of edge) ++ shard_bytes edge.at

abbrev pub edges_bytes : List Dependency → List ℕ
edges_bytes edges = counted_bytes edge_bytes edges

abbrev pub fact_bytes : KnownList → List ℕ
fact_bytes fact = id_bytes fact.of ++ edges_bytes fact.edges

abbrev pub facts_bytes : List KnownList → List ℕ
facts_bytes facts = counted_bytes fact_bytes facts

-- what stands behind the header
abbrev pub body : Msg → List ℕ
body (Start id proc group args inputs) = id_bytes id ++ to_be_bytes w16 proc ++ to_be_bytes w16 group ++ nums_bytes args ++ nums_bytes inputs
body (StartOk id group shard bound outs edges facts) = id_bytes id ++ to_be_bytes w16 group ++ shard_bytes shard ++ nums_bytes bound ++ nums_bytes outs ++ edges_bytes edges ++ facts_bytes facts
body (Commit id edges facts) = id_bytes id ++ edges_bytes edges ++ facts_bytes facts
body (CommitOk id shard outs) = id_bytes id ++ shard_bytes shard ++ nums_bytes outs
body (Fetch id asker) = id_bytes id ++ shard_bytes asker
body (Known id edges) = id_bytes id ++ edges_bytes edges
body Stop = []
body (Ended coord below) = to_be_bytes w16 coord ++ to_be_bytes w32 below
body (Settled id below) = id_bytes id ++ to_be_bytes w32 below
body (Read id round proc group args) = id_bytes id ++ to_be_bytes w32 round ++ to_be_bytes w16 proc ++ to_be_bytes w16 group ++ nums_bytes args
body (ReadOk id round group shard versions outs) = id_bytes id ++ to_be_bytes w32 round ++ to_be_bytes w16 group ++ shard_bytes shard ++ versions_bytes versions ++ nums_bytes outs
body (Drained upto) = id_bytes upto
body (Switched upto shard) = id_bytes upto ++ shard_bytes shard

-- 0 for a server, 1 for a coordinator
abbrev pub sender_role : Node → ℕ
sender_role (Server shard) = 0
sender_role (Coord number) = 1

abbrev pub sender_number : Node → ℕ
sender_number (Server shard) = shard.0
sender_number (Coord number) = number

abbrev pub spelling : Header → Msg → List ℕ
spelling header msg =
    magic ++ to_be_bytes w8 version ++ to_be_bytes w8 (kind_of msg) ++ header.tag ++ to_be_bytes w8 (sender_role header.from)
    ++ to_be_bytes w16 (sender_number header.from) ++ body msg
