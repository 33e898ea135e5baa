-- The rules of a cluster file in order, and the first that is broken: docs/FORMATS.md, "Cluster files"
use Rattle.std.specs.Prelude.{◌≡◌, ℕ, ◌<◌, false, List, [], ◌∷◌, ◌++◌, map, Option, Some, None, ◌⊎◌}
use Rattle.std.specs.List.{range_with_len}
use Rattle.toml.specs.Data.{Members}
use Rattle.roc_cluster.specs.declared.fault.ClusterFault.{ClusterFault}
use Rattle.roc_cluster.specs.declared.fault.ClusterFault.TheVariants.{Field, Twice, Gap}
use Rattle.roc_cluster.specs.declared.fault.FieldName.TheVariants as field
use Rattle.roc_cluster.specs.Entries.{top_keys, entry_keys, has_only, listed_tables, number_of, HasHost, port_of, how_often}

-- one rule, with what it is about
pub data Rule : Type 0 where
  -- the document has no key but `shard`
  top : Members → Rule
  -- under it stands an array of tables
  listed : Members → Rule
  -- an entry has a number, a host, a port, and no other key
  number : Members → Rule
  host : Members → Rule
  port : Members → Rule
  keys : Members → Rule
  -- no earlier entry has the number of an entry
  fresh : List Members → Members → Rule
  -- an entry has the number of a shard
  present : List Members → ℕ → Rule

-- the rule is broken, and this is the fault
abbrev pub Breaks : ℕ → Rule → ClusterFault → Type 0
Breaks shards (top document) fault = (has_only top_keys document ≡ false) × (fault ≡ Field field.Other)
Breaks shards (listed document) fault = (listed_tables document ≡ None) × (fault ≡ Field field.Shard)
Breaks shards (number entry) fault = (number_of shards entry ≡ None) × (fault ≡ Field field.Number)
Breaks shards (host entry) fault = ((bytes : List ℕ) → ¬ HasHost entry bytes) × (fault ≡ Field field.Host)
Breaks shards (port entry) fault = (port_of entry ≡ None) × (fault ≡ Field field.Port)
Breaks shards (keys entry) fault = (has_only entry_keys entry ≡ false) × (fault ≡ Field field.Other)
Breaks shards (fresh earlier entry) fault = (n : ℕ) × (number_of shards entry ≡ Some n) × (0 < how_often shards earlier n) × (fault ≡ Twice (record { 0 = n }))
Breaks shards (present entries n) fault = (how_often shards entries n ≡ 0) × (fault ≡ Gap (record { 0 = n }))

abbrev pub IsKept : ℕ → Rule → Type 0
IsKept shards rule = (fault : ClusterFault) → ¬ Breaks shards rule fault

-- the first of the rules that is broken has this fault
abbrev pub IsFirstBroken : ℕ → List Rule → ClusterFault → Type 0
IsFirstBroken shards [] fault = ⊥
IsFirstBroken shards (rule ∷ rules) fault = Breaks shards rule fault ⊎ (IsKept shards rule × IsFirstBroken shards rules fault)

-- the rules of the fields of an entry
abbrev pub rules_of_fields : Members → List Rule
rules_of_fields entry = number entry ∷ host entry ∷ port entry ∷ keys entry ∷ []

-- the rules of entries, behind earlier ones
abbrev pub rules_of_entries : List Members → List Members → List Rule
rules_of_entries earlier [] = []
rules_of_entries earlier (entry ∷ entries) = rules_of_fields entry ++ (fresh earlier entry ∷ rules_of_entries (earlier ++ entry ∷ []) entries)

-- the rules of shards, from the least on
abbrev pub rules_of_shards : ℕ → List Members → List Rule
rules_of_shards shards entries = map (present entries) (range_with_len 0 shards)

-- the rules of what stands under `shard`
abbrev pub rules_of_listed : ℕ → Option (List Members) → List Rule
rules_of_listed shards None = []
rules_of_listed shards (Some entries) = rules_of_entries [] entries ++ rules_of_shards shards entries

-- all rules, in order
abbrev pub rules_of : ℕ → Members → List Rule
rules_of shards document = top document ∷ listed document ∷ rules_of_listed shards (listed_tables document)
