-- What is taken one after another
use Rattle.std.specs.Prelude.{◌≡◌, List, [], ◌∷◌, ◌++◌, IsTrue, map, ◌⊎◌}
use Rattle.std.specs.List.{flat_map}
use Rattle.roc_sequence.specs.Lists.{Has}
use Rattle.roc_sequence.specs.Places.{IsListed}
use Rattle.roc_base.specs.declared.id.TxnId.{TxnId}
use Rattle.roc_base.specs.TxnId.{is_txn, txn_lt}
use Rattle.roc_depgraph.specs.declared.known.KnownList.{KnownList}
use Rattle.roc_depgraph.specs.Deps.{entries_of}
use Rattle.roc_component.specs.Inner.Before.{now_among, leading_to}
use Rattle.roc_component.specs.declared.turn.Turn.{Turn}

-- the key is one of the turn's ids, and of no other turn's
pub record AreTurns (turns : List Turn) : Type 0 where
  pub key : (t : Turn) → Has t turns → IsListed is_txn t.ids t.key
  pub own : (t o : Turn) → Has t turns → Has o turns → IsListed is_txn t.ids o.key → t ≡ o

abbrev pub IsLeft : (taken : List TxnId) → Turn → Type 0
IsLeft taken t = ¬ IsListed is_txn taken t.key

-- all that comes before it was taken
abbrev pub IsDue : (taken : List TxnId) → Turn → Type 0
IsDue taken t = (u : TxnId) → IsListed is_txn t.before u → IsListed is_txn taken u

-- none that is left and passes has a key below
abbrev pub IsLowest : (passes : Turn → Type 0) → (turns : List Turn) → (taken : List TxnId) → TxnId → Type 0
IsLowest passes turns taken key = (o : Turn) → Has o turns → IsLeft taken o → passes o → ¬ IsTrue (txn_lt o.key key)

-- the lowest of those that are due; where none that is left is due, the lowest that is left
abbrev pub IsNextTurn : (turns : List Turn) → (taken : List TxnId) → Turn → Type 0
IsNextTurn turns taken t =
    (IsDue taken t × IsLowest (IsDue taken) turns taken t.key)
    ⊎ (((o : Turn) → Has o turns → IsLeft taken o → ¬ IsDue taken o) × IsLowest (λ o. Unit {0}) turns taken t.key)

-- ids that are taken turn by turn
pub data AreTurnsTaken (turns : List Turn) : List TxnId → Type 0 where
  none : AreTurnsTaken turns []
  more : {taken longer : List TxnId} (t : Turn) → AreTurnsTaken turns taken → Has t turns → IsLeft taken t → IsNextTurn turns taken t → longer ≡ taken ++ t.ids
      → AreTurnsTaken turns longer

-- until all were taken
abbrev pub AreAllTaken : (turns : List Turn) → List TxnId → Type 0
AreAllTaken turns order = AreTurnsTaken turns order × ((t : Turn) → Has t turns → IsListed is_txn order t.key)

-- what was taken, in parts, each of one turn
pub record ArePartsOf (turns : List Turn) (order : List TxnId) (parts : List (List TxnId)) : Type 0 where
  pub whole : order ≡ flat_map (λ p. p) parts
  pub from : (p : List TxnId) → Has p parts → (t : Turn) × Has t turns × (p ≡ t.ids)

-- ---- the turns of members of a component, and of components

-- a member, after its immediate predecessors in the component
abbrev pub turn_of : List KnownList → (c : List TxnId) → TxnId → Turn
turn_of known c x = record { key = x; ids = x ∷ []; before = now_among c (entries_of known x) }

-- the members of a component, in order
abbrev pub IsInside : List KnownList → (c : List TxnId) → List TxnId → Type 0
IsInside known c order = AreAllTaken (map (turn_of known c) c) order

-- the turn of a component, by its first member
pub record IsComponentTurn (known : List KnownList) (c : List TxnId) (t : Turn) : Type 0 where
  pub first : (rest : List TxnId) × (c ≡ t.key ∷ rest)
  pub inside : IsInside known c t.ids
  pub before : t.before ≡ leading_to known c c

pub record AreComponentTurns (known : List KnownList) (components : List (List TxnId)) (ts : List Turn) : Type 0 where
  pub turns : AreTurns ts
  pub from : (t : Turn) → Has t ts → (c : List TxnId) × Has c components × IsComponentTurn known c t
  pub each : (c : List TxnId) → Has c components → (x : TxnId) → Has x c → (t : Turn) × Has t ts × IsComponentTurn known c t
