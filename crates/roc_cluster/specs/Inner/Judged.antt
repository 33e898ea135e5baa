-- What a function makes of rules: a value, where all are kept, or the fault of the first that is broken
use Rattle.std.specs.Prelude.{◌≡◌, ℕ, ◌<◌, ◌≤◌, ◌==◌, count_by, List, length, map, Option, None, slice_get, String}
use Rattle.std.specs.Borrow.{Bor}
use Rattle.std.specs.BTreeMap.{BTreeMap}
use Rattle.std.specs.declared.alloc.Global.{Global}
use Rattle.std.specs.List.{AllByRecursion}
use Rattle.roc_cluster.specs.declared.fault.ClusterFault.{ClusterFault}
use Rattle.roc_cluster.specs.declared.fault.ClusterFault.TheVariants.{Toml, Field, Twice, Gap, NoMemory}
use Rattle.roc_cluster.specs.declared.fault.FieldName.TheVariants as field
use Rattle.roc_cluster.specs.declared.entry.Entry.{Entry}
use Rattle.roc_io.specs.declared.link.Addr.{Addr}
use Rattle.toml.specs.Data.{Members}
use Rattle.toml.specs.View.{table_view}
use Rattle.toml.specs.declared.value.Value.{Value}
use Rattle.roc_cluster.specs.Entries.{AreEntries, how_often}
use Rattle.roc_cluster.specs.File.{IsDocument, addr_in}
use Rattle.roc_cluster.specs.Rules.{Rule, IsKept, IsFirstBroken}

abbrev pub AreKept : ℕ → List Rule → Type 0
AreKept shards rules = AllByRecursion (IsKept shards) rules

-- a fault other than want of memory is that of the first broken rule
abbrev pub Names : ℕ → List Rule → ClusterFault → Type 0
Names shards rules NoMemory = Unit {0}
Names shards rules Toml = ⊥
Names shards rules (Field name) = IsFirstBroken shards rules (Field name)
Names shards rules (Twice shard) = IsFirstBroken shards rules (Twice shard)
Names shards rules (Gap shard) = IsFirstBroken shards rules (Gap shard)

-- what tables say, without where they lie in memory
abbrev pub table_views : List (Bor (BTreeMap (String Global) Value)) → List Members
table_views tables = map (λ table. table_view table.now) tables

-- there are no tables
abbrev pub NoTables : Option (List Members) → ClusterFault → Type 0
NoTables tables NoMemory = Unit {0}
NoTables tables Toml = ⊥
NoTables tables (Field name) = (tables ≡ None) × (name ≡ field.Shard)
NoTables tables (Twice shard) = ⊥
NoTables tables (Gap shard) = ⊥

-- the bytes are no document
abbrev pub NoDocument : List ℕ → ClusterFault → Type 0
NoDocument bytes NoMemory = Unit {0}
NoDocument bytes Toml = (document : Members) → ¬ IsDocument bytes document
NoDocument bytes (Field name) = ⊥
NoDocument bytes (Twice shard) = ⊥
NoDocument bytes (Gap shard) = ⊥

-- the tables are these entries, and no two have one number
pub record AreRead (shards : ℕ) (tables : List Members) (entries : List Entry) : Type 0 where
  pub read : AreEntries shards tables entries
  pub once : (n : ℕ) → how_often shards tables n ≤ 1

-- each shard has an entry, and this is its address
pub record Seats (shards : ℕ) (entries : List Entry) (cluster : List Addr) : Type 0 where
  pub each : length cluster ≡ shards
  pub some : (n : ℕ) → n < shards → 0 < count_by (λ entry. entry.shard.0 == n) entries
  pub addrs : (n : ℕ) → n < shards → slice_get cluster n ≡ addr_in entries n
