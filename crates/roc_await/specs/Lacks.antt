-- Which transactions with a known list are not decided, and for want of which lists: docs/PROTOCOL.md, "Server"
use Rattle.std.specs.Prelude.{ℕ, ◌⊎◌, ◌<◌, List, length, map}
use Rattle.std.specs.List.{AllByRecursion}
use Rattle.roc_sequence.specs.Places.{IsListed}
use Rattle.roc_base.specs.declared.id.TxnId.{TxnId}
use Rattle.roc_base.specs.TxnId.{is_txn}
use Rattle.roc_depgraph.specs.declared.known.KnownList.{KnownList}
use Rattle.roc_depgraph.specs.declared.closure.Closure.{Closure}
use Rattle.roc_depgraph.specs.declared.closure.Closure.TheVariants.{Whole, Missing}
use Rattle.roc_depgraph.specs.Closure.{IsRisingListOf}
use Rattle.roc_depgraph.specs.Deps.{Precedes, IsKnown, IsDecided}
use Rattle.roc_depgraph.specs.Reach.{ReachesOrIs}
use Rattle.roc_await.specs.declared.lack.Lack.{Lack}

-- v is t or an ancestor of it, and its list is unknown
abbrev pub IsMissing : List KnownList → TxnId → TxnId → Type 0
IsMissing known t v = ReachesOrIs (Precedes known) v t × ¬ IsKnown known v

-- the list of a transaction is known, and these are missing for it
pub record IsLack (known : List KnownList) (l : Lack) : Type 0 where
  pub known_of : IsKnown known l.of
  pub missing : IsRisingListOf (IsMissing known l.of) l.missing

-- of each transaction whose list is known and that is not decided, and of no other
pub record AreLacks (known : List KnownList) (lacks : List Lack) : Type 0 where
  pub each : AllByRecursion (IsLack known) lacks
  pub some : AllByRecursion (λ l. 0 < length l.missing) lacks
  pub all : (t : TxnId) → IsKnown known t → IsDecided known t ⊎ IsListed is_txn (map (λ l. l.of) lacks) t

-- exactly those that are decided by more lists and were not before, in any order
pub record AreDecidedBy (known more : List KnownList) (ids : List TxnId) : Type 0 where
  pub only : (t : TxnId) → IsListed is_txn ids t → IsDecided more t × ¬ IsDecided known t
  pub all : (t : TxnId) → IsDecided more t → ¬ IsDecided known t → IsListed is_txn ids t

-- what comes of new lists: the transactions that they decide, rising, and the lacks from then on
pub record NextLacks : Type 0 where
  pub decided : List TxnId
  pub lacks : List Lack

-- how many ids a closure names as missing; none where it is whole
abbrev pub count_of_missing : Closure → ℕ
count_of_missing (Whole ids) = 0
count_of_missing (Missing ids) = length ids.items
