-- Dependency lists as one server knows them, and what is decided by them: docs/PROTOCOL.md, "Lists"
use Rattle.std.specs.Prelude.{Bool, ◌&&◌, List, [], ◌∷◌, ◌++◌, Option, Some, None, if◌then◌else◌, is_some, unwrap_or, IsTrue}
use Rattle.std.specs.List.{list_any}
use Rattle.roc_base.specs.declared.id.TxnId.{TxnId}
use Rattle.roc_base.specs.TxnId.{is_txn}
use Rattle.roc_base.specs.Edge.{Dependency}
use Rattle.roc_depgraph.specs.declared.known.KnownList.{KnownList}
use Rattle.roc_depgraph.specs.Reach.{Reaches}

-- the list that is known of a transaction, where one is
abbrev pub list_of : TxnId → List KnownList → Option (List Dependency)
list_of id [] = None
list_of id (k ∷ ks) = if is_txn k.of id then Some k.edges else list_of id ks

abbrev pub is_known : List KnownList → TxnId → Bool
is_known known id = is_some (list_of id known)

abbrev pub IsKnown : List KnownList → TxnId → Type 0
IsKnown known id = IsTrue (is_known known id)

-- the entries of a transaction's list; none where it is unknown
abbrev pub entries_of : List KnownList → TxnId → List Dependency
entries_of known id = unwrap_or (list_of id known) []

-- u has an entry on the known list of t
abbrev pub Precedes : List KnownList → TxnId → TxnId → Type 0
Precedes known u t = IsTrue (list_any (λ d. is_txn d.from u) (entries_of known t))

-- and it says that they meet in immediate groups
abbrev pub PrecedesNow : List KnownList → TxnId → TxnId → Type 0
PrecedesNow known u t = IsTrue (list_any (λ d. is_txn d.from u && d.imm) (entries_of known t))

-- u is reached from t over known lists
abbrev pub IsAncestor : List KnownList → TxnId → TxnId → Type 0
IsAncestor known u t = Reaches (Precedes known) u t

-- the list of t and those of all its ancestors are known
pub record IsDecided (known : List KnownList) (t : TxnId) : Type 0 where
  pub own : IsKnown known t
  pub ancestors : (u : TxnId) → IsAncestor known u t → IsKnown known u

-- one more list is known
abbrev pub learnt : List KnownList → TxnId → List Dependency → List KnownList
learnt known id edges = known ++ (record { of = id; edges = edges }) ∷ []
