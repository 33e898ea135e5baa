-- Turns that wait for one another
use Rattle.std.specs.Prelude.{◌≡◌, ◌<◌, ◌++◌, Bool, true, List, [], Option, Some, None, ◌⊎◌}
use Rattle.std.specs.BTreeMap.{BTreeMap, get, btree_map_len}
use Rattle.std.specs.BTreeSet.{contains}
use Rattle.roc_sequence.specs.Lists.{Has}
use Rattle.roc_sequence.specs.Places.{IsListed}
use Rattle.roc_base.specs.declared.id.TxnId.{TxnId}
use Rattle.roc_base.specs.TxnId.{is_txn, txn_cmp}
use Rattle.roc_component.specs.Inner.Turns.{IsLeft, IsDue, IsNextTurn}
use Rattle.roc_component.specs.declared.turn.Turn.{Turn}
use Rattle.roc_component.specs.declared.queue.Waiting.{Waiting}
use Rattle.roc_component.specs.declared.queue.Queue.{Queue}

-- one of them is the turn's
abbrev pub IsFor : List Waiting → Turn → Type 0
IsFor ws t = (w : Waiting) × Has w ws × (w.key ≡ t.key)

-- the turn is held back by an id that was not taken, or whose holding back is to be ended
abbrev pub IsHeld : (taken due : List TxnId) → (waiting : TxnId → Option (List Waiting)) → Turn → Type 0
IsHeld taken due waiting t = (u : TxnId) × (ws : List Waiting) × (waiting u ≡ Some ws) × IsFor ws t × IsListed is_txn t.before u × (IsListed is_txn taken u → Has u due)

-- it is a turn's, and what comes before that was taken, or is excepted, or is still to be looked at
abbrev pub IsOfTurn : (turns : List Turn) → (taken : List TxnId) → (but : TxnId → Type 0) → Waiting → Type 0
IsOfTurn turns taken but w =
    (t : Turn) × Has t turns × (t.key ≡ w.key)
    × ((p : TxnId) → IsListed is_txn t.before p → IsListed is_txn taken p ⊎ (but p ⊎ Has p w.rest.items))
    × ((p : TxnId) → Has p w.rest.items → IsListed is_txn t.before p)

-- `left` has the ids of each turn that is left, by its key; each is ready, or among those still to be settled, or held back
pub record IsQueue (turns : List Turn) (taken due : List TxnId) (pending : List Waiting) (left : TxnId → Option (List TxnId)) (ready : TxnId → Bool)
    (waiting : TxnId → Option (List Waiting)) : Type 0 where
  pub here : (t : Turn) → Has t turns → IsLeft taken t → left t.key ≡ Some t.ids
  pub from : (k : TxnId) (ids : List TxnId) → left k ≡ Some ids → (t : Turn) × Has t turns × (t.key ≡ k) × (t.ids ≡ ids) × IsLeft taken t
  pub free : (k : TxnId) → ready k ≡ true → (t : Turn) × Has t turns × (t.key ≡ k) × IsLeft taken t × IsDue taken t
  pub placed : (t : Turn) → Has t turns → IsLeft taken t → (ready t.key ≡ true) ⊎ (IsFor pending t ⊎ IsHeld taken due waiting t)
  pub held : (u : TxnId) (ws : List Waiting) → waiting u ≡ Some ws → (w : Waiting) → Has w ws → IsOfTurn turns taken (λ p. p ≡ u) w
  pub pends : (w : Waiting) → Has w pending → IsOfTurn turns taken (λ p. ⊥) w
  pub ended : (u : TxnId) → Has u due → IsListed is_txn taken u

-- ---- by the fields of the code

abbrev pub left_of : BTreeMap TxnId (List TxnId) → TxnId → Option (List TxnId)
left_of left k = get txn_cmp left k

abbrev pub IsQueueOf : (turns : List Turn) → (taken due : List TxnId) → (pending : List Waiting) → (left : TxnId → Option (List TxnId)) → Queue → Type 0
IsQueueOf turns taken due pending left q = IsQueue turns taken due pending left (λ k. contains txn_cmp q.ready k) (λ u. get txn_cmp q.waiting u)

-- of some ids, the last that was not taken and all before it are left, or all were taken
abbrev pub IsOpenAt : (rest taken more : List TxnId) → Option TxnId → Type 0
IsOpenAt rest taken more None = (p : TxnId) → Has p rest → IsListed is_txn taken p
IsOpenAt rest taken more (Some u) =
    (¬ IsListed is_txn taken u) × Has u rest
    × ((p : TxnId) → Has p rest → IsListed is_txn taken p ⊎ ((p ≡ u) ⊎ Has p more))
    × ((p : TxnId) → Has p more → Has p rest)

-- the turn that comes next was taken out; where there is none, all were taken
abbrev pub IsTakenOut : (turns : List Turn) → (taken : List TxnId) → (left less : BTreeMap TxnId (List TxnId)) → Queue → Option (List TxnId) → Type 0
IsTakenOut turns taken left less q None = (t : Turn) → Has t turns → IsListed is_txn taken t.key
IsTakenOut turns taken left less q (Some ids) =
    (t : Turn) × Has t turns × (ids ≡ t.ids) × IsLeft taken t × IsNextTurn turns taken t
    × IsQueueOf turns (taken ++ ids) ids [] (left_of less) q × (btree_map_len less < btree_map_len left)
