-- The order in which transactions that precede one another are taken: docs/PROTOCOL.md, "Component order"
use Rattle.std.specs.Prelude.{◌≡◌, ◌≢◌, ◌↔◌, List, [], ◌∷◌, IsTrue, ◌⊎◌}
use Rattle.std.specs.List.{flat_map}
use Rattle.std.specs.List.Sorted.{IsStrictlySortedBy}
use Rattle.roc_sequence.specs.Lists.{Has}
use Rattle.roc_sequence.specs.Places.{IsListed, IsListedBefore, NoneTwice}
use Rattle.roc_base.specs.declared.id.TxnId.{TxnId}
use Rattle.roc_base.specs.TxnId.{is_txn, txn_cmp, txn_lt}
use Rattle.roc_depgraph.specs.declared.known.KnownList.{KnownList}
use Rattle.roc_depgraph.specs.Closure.{IsRisingListOf}
use Rattle.roc_depgraph.specs.Deps.{Precedes, PrecedesNow}
use Rattle.roc_depgraph.specs.Reach.{Reaches}

-- its edges among the members of M; those that lead outside are dropped
abbrev pub among : List TxnId → (TxnId → TxnId → Type 0) → TxnId → TxnId → Type 0
among M E u t = IsListed is_txn M u × IsListed is_txn M t × E u t

-- the two are in one strongly connected component
abbrev pub Mates : (TxnId → TxnId → Type 0) → TxnId → TxnId → Type 0
Mates E a b = (a ≡ b) ⊎ (Reaches E a b × Reaches E b a)

-- c rises, and is a strongly connected component
pub record IsComponent (E : TxnId → TxnId → Type 0) (c : List TxnId) : Type 0 where
  pub rising : IsStrictlySortedBy txn_cmp c
  pub sound : (x u : TxnId) → Has x c → Has u c → Mates E x u
  pub complete : (x u : TxnId) → Has x c → Mates E x u → Has u c

-- no id is in two of the lists
abbrev pub ShareNoMember : List (List TxnId) → Type 0
ShareNoMember [] = Unit {0}
ShareNoMember (c ∷ cs) = ((d : List TxnId) → Has d cs → (u : TxnId) → Has u c → ¬ Has u d) × ShareNoMember cs

-- the components of S, in any order
pub record AreComponents (E : TxnId → TxnId → Type 0) (S : List TxnId) (components : List (List TxnId)) : Type 0 where
  pub each : (c : List TxnId) → Has c components → IsComponent E c
  pub apart : ShareNoMember components
  pub all : (u : TxnId) → Has u S → (c : List TxnId) × Has c components × Has u c
  pub only : (c : List TxnId) → Has c components → (u : TxnId) → Has u c → Has u S

-- each predecessor of x's component that is outside it was taken
abbrev pub IsReady : (E : TxnId → TxnId → Type 0) → (taken : TxnId → Type 0) → TxnId → Type 0
IsReady E taken x = (p y : TxnId) → Mates E x y → E p y → ¬ Mates E x p → taken p

-- each predecessor of z by an immediate edge in x's component was taken
abbrev pub IsFree : (E I : TxnId → TxnId → Type 0) → (taken : TxnId → Type 0) → TxnId → TxnId → Type 0
IsFree E I taken x z = (p : TxnId) → Mates E x p → I p z → taken p

-- none of x's component that is left and passes has an id below x
abbrev pub IsLeast : (E : TxnId → TxnId → Type 0) → (taken passes : TxnId → Type 0) → TxnId → Type 0
IsLeast E taken passes x = (z : TxnId) → Mates E x z → ¬ taken z → passes z → ¬ IsTrue (txn_lt z x)

-- Inside a component: the least of those that are free; where none that is left is free, the least that is left
abbrev pub IsNextInside : (E I : TxnId → TxnId → Type 0) → (taken : TxnId → Type 0) → TxnId → Type 0
IsNextInside E I taken x =
    (IsFree E I taken x x × IsLeast E taken (IsFree E I taken x) x)
    ⊎ (((z : TxnId) → Mates E x z → ¬ taken z → ¬ IsFree E I taken x z) × IsLeast E taken (λ z. Unit {0}) x)

-- x of M may be taken next
pub record IsNext (E I : TxnId → TxnId → Type 0) (M : List TxnId) (taken : TxnId → Type 0) (x : TxnId) : Type 0 where
  -- its component is ready
  pub ready : IsReady E taken x
  -- a component that was begun is ended first
  pub ends : (y z : TxnId) → taken y → Mates E y z → IsListed is_txn M z → ¬ taken z → Mates E y x
  -- a new component has the least id of those that are ready
  pub least :
      (z : TxnId)
      → ((y : TxnId) → taken y → ¬ Mates E y x)
      → IsListed is_txn M z → ¬ taken z → IsReady E taken z
      → (y : TxnId) × IsListed is_txn M y × Mates E x y × (¬ IsTrue (txn_lt z y))
  pub inside : IsNextInside E I taken x

-- xs are the members of M, each at the place at which the rule takes it
pub record IsComponentOrder (E I : TxnId → TxnId → Type 0) (M xs : List TxnId) : Type 0 where
  pub once : NoneTwice is_txn xs
  pub from : (x : TxnId) → IsListed is_txn xs x → IsListed is_txn M x
  pub all : (x : TxnId) → IsListed is_txn M x → IsListed is_txn xs x
  pub next : (x : TxnId) → IsListed is_txn xs x → IsNext (among M E) (among M I) M (λ u. IsListedBefore is_txn xs u x) x

-- the component order of members of known lists
abbrev pub IsComponentOrderOf : List KnownList → (M xs : List TxnId) → Type 0
IsComponentOrderOf known M xs = IsComponentOrder (Precedes known) (PrecedesNow known) M xs

-- two known lists have the same edges among the members of M, and the same immediate ones; what leads out of M may differ
pub record HaveSameEdges (M : List TxnId) (known other : List KnownList) : Type 0 where
  pub edges : (u t : TxnId) → IsListed is_txn M u → IsListed is_txn M t → Precedes known u t ↔ Precedes other u t
  pub immediate : (u t : TxnId) → IsListed is_txn M u → IsListed is_txn M t → PrecedesNow known u t ↔ PrecedesNow other u t

-- the two lists have the same members, in any order
abbrev pub HaveSameMembers : (M N : List TxnId) → Type 0
HaveSameMembers M N = (t : TxnId) → IsListed is_txn M t ↔ IsListed is_txn N t

-- the members of M in lists: each list is a strongly connected component of M
abbrev pub AreComponentsOf : List KnownList → (M : List TxnId) → List (List TxnId) → Type 0
AreComponentsOf known M lists = AreComponents (among M (Precedes known)) M lists

-- the components of M as they are taken, each in its order inside: one after another they are the component order
pub record AreTaken (known : List KnownList) (M : List TxnId) (lists : List (List TxnId)) : Type 0 where
  pub order : IsComponentOrderOf known M (flat_map (λ c. c) lists)
  pub some : (c : List TxnId) → Has c lists → c ≢ []
  pub mates : (c : List TxnId) → Has c lists → (t u : TxnId) → Has t c → Mates (among M (Precedes known)) t u ↔ Has u c

-- each of the lists rises, and has the members of the one at its place
abbrev pub AreRisingOf : (lists rising : List (List TxnId)) → Type 0
AreRisingOf [] [] = Unit {0}
AreRisingOf [] (d ∷ ds) = ⊥
AreRisingOf (c ∷ cs) [] = ⊥
AreRisingOf (c ∷ cs) (d ∷ ds) = IsRisingListOf (IsListed is_txn c) d × AreRisingOf cs ds

-- the components of M as they are taken, each rising
pub record AreTakenRising (known : List KnownList) (M : List TxnId) (lists : List (List TxnId)) : Type 0 where
  pub taken : List (List TxnId)
  pub are_taken : AreTaken known M taken
  pub rising : AreRisingOf taken lists
