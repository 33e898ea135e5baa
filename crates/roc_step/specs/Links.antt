-- Entries of known lists that are followed, and those that are done: docs/PROTOCOL.md, "Forgetting"
use Rattle.std.specs.Prelude.{◌≡◌, ℕ, Bool, false, not, min, List, [], ◌∷◌, filter, if◌then◌else◌}
use Rattle.std.specs.List.{flat_map}
use Rattle.roc_sequence.specs.Lists.{Has}
use Rattle.roc_base.specs.declared.id.TxnId.{TxnId}
use Rattle.roc_base.specs.TxnId.{is_txn}
use Rattle.roc_base.specs.Edge.{Dependency}
use Rattle.roc_depgraph.specs.declared.known.KnownList.{KnownList}

-- a list without the entries that name such transactions
abbrev pub without_links : (TxnId → Bool) → KnownList → KnownList
without_links passes k = record { of = k.of; edges = filter (λ d. not (passes d.from)) k.edges }

-- all entries of lists
abbrev pub all_entries : List KnownList → List Dependency
all_entries lists = flat_map (λ k. k.edges) lists

-- the least of a shard and of all those at which entries name a transaction
abbrev pub least_naming : TxnId → (at : ℕ) → List Dependency → ℕ
least_naming id at [] = at
least_naming id at (d ∷ ds) = least_naming id (if is_txn d.from id then min at d.at.0 else at) ds

-- what is followed of a known list: some of its entries, and all that name no ended transaction
pub record IsLinkOf (ended : TxnId → Bool) (known link : KnownList) : Type 0 where
  pub of : link.of ≡ known.of
  pub within : (d : Dependency) → Has d link.edges → Has d known.edges
  pub followed : (d : Dependency) → Has d known.edges → ended d.from ≡ false → Has d link.edges

-- what is followed of each of these lists, at the place of the list
abbrev pub AreLinksOf : (ended : TxnId → Bool) → (known links : List KnownList) → Type 0
AreLinksOf ended [] [] = Unit {0}
AreLinksOf ended [] (l ∷ ls) = ⊥
AreLinksOf ended (k ∷ ks) [] = ⊥
AreLinksOf ended (k ∷ ks) (l ∷ ls) = IsLinkOf ended k l × AreLinksOf ended ks ls
