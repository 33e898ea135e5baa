-- Which bytes are a cluster file, and of which cluster: docs/FORMATS.md, "Cluster files"
use Rattle.std.specs.Prelude.{◌≡◌, ℕ, ◌<◌, true, ◌==◌, List, length, find, Option, Some, option_map, slice_get, IsUtf8}
use Rattle.toml.specs.Data.{Members}
use Rattle.toml.specs.Parse.{parse_document}
use Rattle.roc_io.specs.declared.link.Addr.{Addr}
use Rattle.roc_cluster.specs.declared.entry.Entry.{Entry}
use Rattle.roc_cluster.specs.Entries.{top_keys, has_only, listed_tables, AreEntries, how_often}

-- the bytes are UTF-8 text that is this document
pub record IsDocument (bytes : List ℕ) (document : Members) : Type 0 where
  pub text : IsUtf8 bytes
  pub parsed : parse_document bytes ≡ Some document

-- the address of the first entry of a shard
abbrev pub addr_in : List Entry → ℕ → Option Addr
addr_in entries n = option_map (λ entry. entry.addr) (find (λ entry. entry.shard.0 == n) entries)

-- the document is that of a cluster: each shard has one entry, which says where it is
pub record IsClusterOf (shards : ℕ) (document : Members) (cluster : List Addr) : Type 0 where
  pub only : has_only top_keys document ≡ true
  pub tables : List Members
  pub listed : listed_tables document ≡ Some tables
  pub entries : List Entry
  pub read : AreEntries shards tables entries
  pub once : (n : ℕ) → n < shards → how_often shards tables n ≡ 1
  pub each : length cluster ≡ shards
  pub addrs : (n : ℕ) → n < shards → slice_get cluster n ≡ addr_in entries n

-- the bytes are a cluster file for this many shards, and this is the cluster: the address of each shard in order
pub record IsClusterFile (shards : ℕ) (bytes : List ℕ) (cluster : List Addr) : Type 0 where
  pub document : Members
  pub is_document : IsDocument bytes document
  pub is_cluster : IsClusterOf shards document cluster
