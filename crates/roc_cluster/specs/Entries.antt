-- What a document says, and what an entry of it says of a shard: docs/FORMATS.md, "Cluster files"
use Rattle.std.specs.Prelude.{◌≡◌, ℕ, Bool, true, false, ◌&&◌, nat_lt, ◌==◌, if◌then◌else◌, ℤ, pos, negsuc, List, [], ◌∷◌, codes, Option, Some, None}
use Rattle.std.specs.Prelude.{option_and_then, count_by}
use Rattle.std.specs.List.{list_any}
use Rattle.std.specs.Str.{bytes_eq}
use Rattle.std.specs.Net.Grammar.{IsDotted}
use Rattle.toml.specs.Data.{Items, no_items, item, Members, no_members, member, get_member, as_integer, as_str, as_array, as_table}
use Rattle.roc_cluster.specs.declared.entry.Entry.{Entry}

-- the one key of the document
abbrev pub top_keys : List (List ℕ)
top_keys = codes "shard" ∷ []

-- the keys of an entry
abbrev pub entry_keys : List (List ℕ)
entry_keys = codes "number" ∷ codes "host" ∷ codes "port" ∷ []

-- no key but these
abbrev pub has_only : List (List ℕ) → Members → Bool
has_only keys no_members = true
has_only keys (member key value rest) = list_any (bytes_eq key) keys && has_only keys rest

-- the tables of an array, where each item is one
abbrev pub tables_of : Items → Option (List Members)
tables_of no_items = Some []
tables_of (item value rest) = option_and_then (λ table. option_and_then (λ tables. Some (table ∷ tables)) (tables_of rest)) (as_table value)

-- the entries of a document: the array of tables under `shard`
abbrev pub listed_tables : Members → Option (List Members)
listed_tables document = option_and_then tables_of (option_and_then as_array (get_member (codes "shard") document))

-- the number, where it is below how many shards there are
abbrev pub below : ℕ → ℤ → Option ℕ
below shards (pos n) = if nat_lt n shards then Some n else None
below shards (negsuc n) = None

-- the shard's number: an integer under `number`
abbrev pub number_of : ℕ → Members → Option ℕ
number_of shards entry = option_and_then (below shards) (option_and_then as_integer (get_member (codes "number") entry))

-- the four bytes of the host's address: a text under `host` of four decimal numbers with dots between them
abbrev pub HasHost : Members → List ℕ → Type 0
HasHost entry bytes = (text : List ℕ) × (option_and_then as_str (get_member (codes "host") entry) ≡ Some text) × IsDotted text bytes

-- the number, where it is a port
abbrev pub as_port : ℤ → Option ℕ
as_port (pos n) = if nat_lt 0 n && nat_lt n 65536 then Some n else None
as_port (negsuc n) = None

-- the port: an integer under `port`
abbrev pub port_of : Members → Option ℕ
port_of entry = option_and_then as_port (option_and_then as_integer (get_member (codes "port") entry))

-- the table is an entry: it has these three and nothing else
pub record IsEntry (shards : ℕ) (table : Members) (entry : Entry) : Type 0 where
  pub number : number_of shards table ≡ Some entry.shard.0
  pub host : HasHost table entry.addr.host
  pub port : port_of table ≡ Some entry.addr.port
  pub only : has_only entry_keys table ≡ true

-- each table is the entry in the same place
abbrev pub AreEntries : ℕ → List Members → List Entry → Type 0
AreEntries shards [] [] = Unit {0}
AreEntries shards [] (entry ∷ entries) = ⊥
AreEntries shards (table ∷ tables) [] = ⊥
AreEntries shards (table ∷ tables) (entry ∷ entries) = IsEntry shards table entry × AreEntries shards tables entries

abbrev pub is_some_number : ℕ → Option ℕ → Bool
is_some_number n None = false
is_some_number n (Some m) = m == n

-- the table has this number
abbrev pub has_number : ℕ → ℕ → Members → Bool
has_number shards n table = is_some_number n (number_of shards table)

-- how many of the tables have this number
abbrev pub how_often : ℕ → List Members → ℕ → ℕ
how_often shards tables n = count_by (has_number shards n) tables
