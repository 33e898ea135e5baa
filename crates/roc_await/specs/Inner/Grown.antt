-- How lacks grow by one more list
use Rattle.std.specs.Prelude.{◌≡◌, ◌≢◌, ◌==◌, ◌⊎◌, not, Bool, true, false, List, ◌++◌, filter, length}
use Rattle.roc_sequence.specs.Lists.{Has}
use Rattle.roc_sequence.specs.Places.{IsListed, is_listed}
use Rattle.roc_base.specs.declared.id.TxnId.{TxnId}
use Rattle.roc_base.specs.TxnId.{is_txn}
use Rattle.roc_base.specs.Edge.{Dependency}
use Rattle.roc_depgraph.specs.declared.known.KnownList.{KnownList}
use Rattle.roc_depgraph.specs.Closure.{IsRisingListOf}
use Rattle.roc_depgraph.specs.Visits.{IsNamed}
use Rattle.roc_await.specs.declared.group.Group.{Group}
use Rattle.roc_await.specs.declared.lack.Lack.{Lack}
use Rattle.roc_await.specs.Lacks.{IsMissing}

-- exactly the ids of which P holds, in any order, perhaps several times
pub record AreListed (P : TxnId → Type 0) (ids : List TxnId) : Type 0 where
  pub sound : (v : TxnId) → IsListed is_txn ids v → P v
  pub complete : (v : TxnId) → P v → IsListed is_txn ids v

-- v is missing for what an entry names, and is not u
pub record IsMissingBut (known : List KnownList) (u x v : TxnId) : Type 0 where
  pub other : v ≢ u
  pub missing : IsMissing known x v

-- so of one of these entries
pub record IsMissingFor (known : List KnownList) (u : TxnId) (edges : List Dependency) (v : TxnId) : Type 0 where
  pub named : TxnId
  pub is : IsNamed edges named
  pub missing : IsMissingBut known u named v

abbrev pub others : TxnId → List TxnId → List TxnId
others u ids = filter (λ v. not (is_txn v u)) ids

-- where u was missing, what is missing for u is in its place
abbrev pub Grows : (missing : List TxnId) → (u : TxnId) → (fresh new : List TxnId) → Bool → Type 0
Grows missing u fresh new true = IsRisingListOf (IsListed is_txn (others u missing ++ fresh)) new
Grows missing u fresh new false = new ≡ missing

pub record IsGrown (u : TxnId) (fresh : List TxnId) (old new : Lack) : Type 0 where
  pub of : new.of ≡ old.of
  pub missing : Grows old.missing u fresh new.missing (is_listed is_txn old.missing u)

pub record IsGrownGroup (u : TxnId) (fresh : List TxnId) (old new : Group) : Type 0 where
  pub of : new.of ≡ old.of
  pub missing : Grows old.missing u fresh new.missing (is_listed is_txn old.missing u)

abbrev pub lacks_none : Lack → Bool
lacks_none l = length l.missing == 0

-- a lack that one of these grew into
pub record GrewFrom (u : TxnId) (fresh : List TxnId) (olds : List Lack) (new : Lack) : Type 0 where
  pub old : Lack
  pub there : Has old olds
  pub grown : IsGrown u fresh old new

-- of the same transaction as one of these
pub record IsOfOne (news : List Lack) (old : Lack) : Type 0 where
  pub new : Lack
  pub there : Has new news
  pub of : new.of ≡ old.of

-- each lack grew, and u has one too, for which the fresh ones are missing
pub record AreGrown (u : TxnId) (fresh : List TxnId) (olds news : List Lack) : Type 0 where
  pub only : (l : Lack) → Has l news → GrewFrom u fresh olds l ⊎ (l ≡ record { of = u; missing = fresh })
  pub each : (l : Lack) → Has l olds → IsOfOne news l
  pub own : Has (record { of = u; missing = fresh }) news
