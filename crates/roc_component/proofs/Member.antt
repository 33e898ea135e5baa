-- The members of a set: what their place in the order depends on, and which comes next
use Rattle.std.specs.Prelude.{Bool, ◌&&◌, not, List, find, Option, Some, None}
use Rattle.std.specs.List.{list_any, list_all}
use Rattle.std.specs.Option.{option_or, option_map}
use Rattle.roc_base.specs.declared.id.TxnId.{TxnId}
use Rattle.roc_base.specs.TxnId.{is_txn}
use Rattle.roc_sequence.specs.Places.{is_listed}

-- a member: those of its component, those outside it from which chains lead to it, and those in it that have an immediate edge to it
pub record Member : Type 0 where
  pub id : TxnId
  pub mates : List TxnId
  pub before : List TxnId
  pub immediate : List TxnId

-- it was not taken
abbrev pub is_left : (taken : List TxnId) → Member → Bool
is_left taken m = not (is_listed is_txn taken m.id)

-- and one of its component was
abbrev pub is_begun : (taken : List TxnId) → Member → Bool
is_begun taken m = is_left taken m && list_any (is_listed is_txn taken) m.mates

-- or all that come before its component were
abbrev pub is_ready : (taken : List TxnId) → Member → Bool
is_ready taken m = is_left taken m && list_all (is_listed is_txn taken) m.before

-- it is left of a component
abbrev pub is_left_of : (taken : List TxnId) → (component : Member) → Member → Bool
is_left_of taken component m = is_left taken m && is_listed is_txn component.mates m.id

-- and its immediate predecessors there were taken
abbrev pub is_free : (taken : List TxnId) → (component : Member) → Member → Bool
is_free taken component m = is_left_of taken component m && list_all (is_listed is_txn taken) m.immediate

-- the component that comes next, by one of its members
abbrev pub next_component : (taken : List TxnId) → List Member → Option Member
next_component taken members = option_or (find (is_begun taken) members) (find (is_ready taken) members)

-- the member of it that comes next
abbrev pub next_inside : (taken : List TxnId) → List Member → Option Member → Option Member
next_inside taken members None = None
next_inside taken members (Some component) = option_or (find (is_free taken component) members) (find (is_left_of taken component) members)

-- the member that comes next, where one is left
abbrev pub next_of : (taken : List TxnId) → List Member → Option TxnId
next_of taken members = option_map (λ m. m.id) (next_inside taken members (next_component taken members))
