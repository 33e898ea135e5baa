-- Groups of transactions that lack the same
use Rattle.std.specs.Prelude.{◌==◌, ◌⊎◌, ◌&&◌, ◌||◌, not, Bool, List, [], map, length, is_some, if◌then◌else◌}
use Rattle.std.specs.List.{list_any, flat_map}
use Rattle.roc_sequence.specs.Lists.{Has}
use Rattle.roc_sequence.specs.Places.{is_listed}
use Rattle.roc_base.specs.declared.id.TxnId.{TxnId}
use Rattle.roc_base.specs.TxnId.{is_txn}
use Rattle.roc_base.specs.Edge.{Dependency}
use Rattle.roc_base.specs.Edges.{entry_at}
use Rattle.roc_depgraph.specs.declared.known.KnownList.{KnownList}
use Rattle.roc_depgraph.specs.Deps.{is_known}
use Rattle.roc_await.specs.declared.group.Group.{Group}
use Rattle.roc_await.specs.declared.lack.Lack.{Lack}
use Rattle.roc_await.specs.Inner.Grown.{others}

abbrev pub lack_with : List TxnId → TxnId → Lack
lack_with missing t = record { of = t; missing = missing }

-- what each of a group lacks
abbrev pub lacks_of : Group → List Lack
lacks_of g = map (lack_with g.missing) g.of

abbrev pub all_lacks : List Group → List Lack
all_lacks groups = flat_map lacks_of groups

-- nothing is missing for those of a group
abbrev pub misses_nothing : Group → Bool
misses_nothing g = length g.missing == 0

-- those of a group, where nothing is missing for them
abbrev pub decided_of : Group → List TxnId
decided_of g = if misses_nothing g then g.of else []

-- the lacks of two lists together, in any order
pub record AreJoined (old more new : List Lack) : Type 0 where
  pub only : (l : Lack) → Has l new → Has l old ⊎ Has l more
  pub keeps : (l : Lack) → Has l old → Has l new
  pub adds : (l : Lack) → Has l more → Has l new

-- entries name one of these
abbrev pub names_any : List Dependency → List TxnId → Bool
names_any edges ids = list_any (λ t. is_some (entry_at t edges)) ids

-- what is missing for those of a group, but for u, where entries name one of them
abbrev pub missing_if_named : TxnId → List Dependency → Group → List TxnId
missing_if_named u edges g = if names_any edges g.of then others u g.missing else []

-- the list of another than u is unknown, or is one of the later ones
abbrev pub is_other_unknown : List KnownList → List TxnId → TxnId → TxnId → Bool
is_other_unknown known later u id = not (is_txn id u) && (is_listed is_txn later id || not (is_known known id))
