-- What `parse_cluster` answers: docs/FORMATS.md, "Cluster files"
use Rattle.std.specs.Prelude.{◌≡◌, ℕ, List, Result, Ok, Err}
use Rattle.toml.specs.Data.{Members}
use Rattle.roc_io.specs.declared.link.Addr.{Addr}
use Rattle.roc_cluster.specs.declared.fault.ClusterFault.{ClusterFault}
use Rattle.roc_cluster.specs.declared.fault.ClusterFault.TheVariants.{Toml, Field, Twice, Gap, NoMemory}
use Rattle.roc_cluster.specs.File.{IsDocument}
use Rattle.roc_cluster.specs.Rules.{IsFirstBroken, rules_of}

-- this cluster, unless memory ran out
abbrev pub IsReadAs : List Addr → Result (List Addr) ClusterFault → Type 0
IsReadAs cluster (Ok read) = read ≡ cluster
IsReadAs cluster (Err NoMemory) = Unit {0}
IsReadAs cluster (Err _) = ⊥

-- the bytes are a document whose first broken rule has this fault
abbrev pub IsFirstIn : ℕ → List ℕ → ClusterFault → Type 0
IsFirstIn shards bytes fault = (document : Members) × IsDocument bytes document × IsFirstBroken shards (rules_of shards document) fault

-- the first fault of the bytes: that they are no document comes before all others. Want of memory may come in its place.
abbrev pub IsClusterFault : ℕ → List ℕ → ClusterFault → Type 0
IsClusterFault shards bytes Toml = (document : Members) → ¬ IsDocument bytes document
IsClusterFault shards bytes (Field name) = IsFirstIn shards bytes (Field name)
IsClusterFault shards bytes (Twice shard) = IsFirstIn shards bytes (Twice shard)
IsClusterFault shards bytes (Gap shard) = IsFirstIn shards bytes (Gap shard)
IsClusterFault shards bytes NoMemory = Unit {0}
