-- Shards and nodes: when two are one, and their text
use Rattle.std.specs.Prelude.{ℕ, Bool, false, ◌==◌, List, ◌∷◌}
use Rattle.std.specs.Fmt.{decimal}
use Rattle.roc_base.specs.declared.node.Shard.{Shard}
use Rattle.roc_base.specs.declared.node.Node.{Node}
use Rattle.roc_base.specs.declared.node.Node.TheVariants.{Server, Coord}

-- the two shards are one
abbrev pub is_shard : Shard → Shard → Bool
is_shard a b = a.0 == b.0

-- the two nodes are one
abbrev pub is_node : Node → Node → Bool
is_node (Server a) (Server b) = is_shard a b
is_node (Server a) (Coord b) = false
is_node (Coord a) (Server b) = false
is_node (Coord a) (Coord b) = a == b

-- `s` and the shard's number
abbrev pub shard_text : Shard → List ℕ
shard_text shard = 115 ∷ decimal shard.0

-- `s` and the shard's number for a server, `c` and its number for a coordinator
abbrev pub node_text : Node → List ℕ
node_text (Server shard) = shard_text shard
node_text (Coord number) = 99 ∷ decimal number
