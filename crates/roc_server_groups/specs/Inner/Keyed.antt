-- Groups that are found by their transactions and numbers
use Rattle.std.specs.Prelude.{◌≡◌, ◌<◌, ◌==◌, ◌&&◌, ℕ, Bool, List, map, find, IsTrue}
use Rattle.std.specs.Map.{keys_of, lookup, values_of}
use Rattle.std.specs.Option.{option_map}
use Rattle.roc_sequence.specs.Lists.{Has}
use Rattle.roc_base.specs.declared.id.TxnId.{TxnId}
use Rattle.roc_base.specs.TxnId.{is_txn}
use Rattle.roc_server_groups.specs.declared.group_key.GroupKey.{GroupKey}
use Rattle.roc_step.specs.declared.started.StartedGroup.{StartedGroup}
use Rattle.roc_step.specs.State.{is_group}

abbrev pub is_key : GroupKey → GroupKey → Bool
is_key a b = is_txn a.id b.id && a.number == b.number

abbrev pub group_key_of : StartedGroup → GroupKey
group_key_of e = record { id = e.id; number = e.group }

-- the numbers of all groups are below
abbrev pub HaveNumbersBelow : ℕ → List StartedGroup → Type 0
HaveNumbersBelow numbers started = (e : StartedGroup) → Has e started → e.group < numbers

-- each group is kept under its key
pub record AreKeyed (entries : List (GroupKey × StartedGroup)) (numbers : ℕ) : Type 0 where
  pub keys : keys_of entries ≡ map group_key_of (values_of entries)
  pub below : (k : GroupKey) → Has k (keys_of entries) → k.number < numbers

-- of exactly the transactions that have a group, the number of the first one
abbrev pub AreFirsts : List (TxnId × ℕ) → List StartedGroup → Type 0
AreFirsts firsts started = (id : TxnId) → lookup (is_txn id) firsts ≡ option_map (λ (e : StartedGroup). e.group) (find (λ e. is_txn e.id id) started)

-- each group is found by its key, and each transaction by its first group
pub record AreFoundBy (entries : List (GroupKey × StartedGroup)) (firsts : List (TxnId × ℕ)) (numbers : ℕ) : Type 0 where
  pub keyed : AreKeyed entries numbers
  pub first : AreFirsts firsts (values_of entries)

-- a transaction has one group of this number at most
abbrev pub IsOnceHere : TxnId → ℕ → List StartedGroup → Type 0
IsOnceHere id number started = (a b : StartedGroup) → Has a started → Has b started → IsTrue (is_group id number a) → IsTrue (is_group id number b) → a ≡ b
