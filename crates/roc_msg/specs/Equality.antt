-- What `==` computes of versions and of known lists
use Rattle.std.specs.Prelude.{ℕ, Bool, ◌&&◌, ◌==◌, List}
use Rattle.std.specs.Cmp.Lexicographic.{pointwise}
use Rattle.roc_base.specs.Equality.{is_edges}
use Rattle.roc_base.specs.TxnId.{is_txn}
use Rattle.roc_depgraph.specs.declared.known.KnownList.{KnownList}

-- the two lists are one, version by version
abbrev pub is_versions : List ℕ → List ℕ → Bool
is_versions = pointwise (λ a b. a == b)

-- the two are one list of one transaction
abbrev pub is_list : KnownList → KnownList → Bool
is_list a b = is_txn a.of b.of && is_edges a.edges b.edges

-- they are the same lists, in the same order
abbrev pub are_lists : List KnownList → List KnownList → Bool
are_lists = pointwise is_list
