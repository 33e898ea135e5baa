-- What follows from known lists, as a step reads it off them: docs/PROTOCOL.md, "Lists"
use Rattle.std.specs.Prelude.{◌≡◌, ◌++◌, List, map}
use Rattle.std.specs.List.{flat_map}
use Rattle.roc_sequence.specs.Places.{IsListed}
use Rattle.roc_base.specs.declared.id.TxnId.{TxnId}
use Rattle.roc_base.specs.TxnId.{is_txn}
use Rattle.roc_base.specs.Edge.{Dependency}
use Rattle.roc_step.specs.Learning.{AreLearnable}
use Rattle.roc_step.specs.Led.{IsKnownAndLedTo}
use Rattle.roc_component.specs.Components.{AreTaken, IsComponentOrderOf}
use Rattle.roc_depgraph.specs.declared.known.KnownList.{KnownList}
use Rattle.roc_depgraph.specs.Closure.{IsRisingListOf}
use Rattle.roc_depgraph.specs.Deps.{IsDecided}

-- ---- what is learnt

-- the last lists are these, each new when it was learnt; before them, others were known
pub record AreLearntLast (known news : List KnownList) : Type 0 where
  pub before : List KnownList
  pub known_are : known ≡ before ++ news
  pub learnable : AreLearnable before news

-- the last lists are those of the transactions of these, each new when it was learnt; before them, others were known
pub record AreLinkedLast (links news : List KnownList) : Type 0 where
  pub before : List KnownList
  pub linked : List KnownList
  pub links_are : links ≡ before ++ linked
  pub of : map (λ k. k.of) linked ≡ map (λ k. k.of) news
  pub learnable : AreLearnable before linked

-- ---- what is newly decided

-- decided by the lists, and not before
abbrev pub IsNew : (before : TxnId → Type 0) → (known : List KnownList) → TxnId → Type 0
IsNew before known t = IsDecided known t × (¬ before t)

-- exactly those, in any order
pub record AreAllNew (before : TxnId → Type 0) (known : List KnownList) (ts : List TxnId) : Type 0 where
  pub only : (t : TxnId) → IsListed is_txn ts t → IsNew before known t
  pub all : (t : TxnId) → IsNew before known t → IsListed is_txn ts t

-- exactly those, in component order
pub record AreNew (before : TxnId → Type 0) (known : List KnownList) (ts : List TxnId) : Type 0 where
  pub members : AreAllNew before known ts
  pub ordered : IsComponentOrderOf known ts ts

-- exactly those, in the components in which they are taken, in that order
pub record AreNewTaken (before : TxnId → Type 0) (known : List KnownList) (components : List (List TxnId)) : Type 0 where
  pub members : AreAllNew before known (flat_map (λ c. c) components)
  pub taken : AreTaken known (flat_map (λ c. c) components) components

-- ---- what is decided, and what entries lead to

-- all that is decided by the lists, by id rising
abbrev pub AreDecided : List KnownList → List TxnId → Type 0
AreDecided known ids = IsRisingListOf (IsDecided known) ids

-- all that entries lead to and whose lists are known, by id rising
abbrev pub AreLedTo : List KnownList → List Dependency → List TxnId → Type 0
AreLedTo known edges ids = IsRisingListOf (IsKnownAndLedTo known edges) ids
