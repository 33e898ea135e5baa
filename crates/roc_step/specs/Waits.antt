-- Lists that a server asked others for, and who asked it: docs/PROTOCOL.md, "Fetches"
use Rattle.std.specs.Prelude.{ℕ, Bool, not, ◌&&◌, ◌||◌, nat_lt, List, [], ◌∷◌, Option, filter, find, IsTrue}
use Rattle.std.specs.List.{AllByRecursion, list_any}
use Rattle.std.specs.Option.{option_map}
use Rattle.roc_base.specs.declared.id.TxnId.{TxnId}
use Rattle.roc_base.specs.declared.node.Shard.{Shard}
use Rattle.roc_base.specs.TxnId.{is_txn, txn_lt}
use Rattle.roc_sequence.specs.Lists.{Has}
use Rattle.roc_msg.specs.InPlace.{in_place}
use Rattle.roc_step.specs.declared.waits.OpenFetch.{OpenFetch}
use Rattle.roc_step.specs.declared.waits.Asker.{Asker}

pub record Waiting : Type 0 where
  -- the transactions whose lists were asked for, each with the shard that was asked, rising by id
  pub asked : List OpenFetch
  -- who asked for the list of a transaction that is not known here, rising by id and shard
  pub askers : List Asker

abbrev pub none_waiting : Waiting
none_waiting = record { asked = []; askers = [] }

-- what is kept of this
pub record Awaited : Type 0 where
  pub waiting : Waiting
  -- open fetches: of what was asked for, what was not taken since, rising by id
  pub fetches : List OpenFetch
  -- how many more times a fetch or an asker can be put in without fail
  pub spare : ℕ

-- the order in which each is kept
abbrev pub is_asked_before : OpenFetch → OpenFetch → Bool
is_asked_before a b = txn_lt a.id b.id

abbrev pub is_asker_before : Asker → Asker → Bool
is_asker_before a b = txn_lt a.id b.id || (is_txn a.id b.id && nat_lt a.shard.0 b.shard.0)

-- each comes before all behind it
abbrev pub AreInOrder : {A : Type 0} → (A → A → Bool) → List A → Type 0
AreInOrder before [] = Unit {0}
AreInOrder before (x ∷ xs) = AllByRecursion (λ y. IsTrue (before x y)) xs × AreInOrder before xs

-- all three are in order, and what is open was asked for
pub record AreKept (asked : List OpenFetch) (askers : List Asker) (fetches : List OpenFetch) : Type 0 where
  pub asked_rise : AreInOrder is_asked_before asked
  pub askers_rise : AreInOrder is_asker_before askers
  pub open_rise : AreInOrder is_asked_before fetches
  pub open_asked : AllByRecursion (λ a. Has a asked) fetches

-- the list of a transaction was asked for
abbrev pub was_asked_for : TxnId → List OpenFetch → Bool
was_asked_for id asked = list_any (λ a. is_txn a.id id) asked

-- the shard that was asked for the list of a transaction
abbrev pub shard_asked : TxnId → List OpenFetch → Option Shard
shard_asked id asked = option_map (λ a. a.at) (find (λ a. is_txn a.id id) asked)

-- the fetches of other transactions
abbrev pub without_fetch_of : TxnId → List OpenFetch → List OpenFetch
without_fetch_of id fetches = filter (λ a. not (is_txn a.id id)) fetches

-- such transactions were not asked for
abbrev pub without_asked : (TxnId → Bool) → Waiting → Waiting
without_asked passes w = record w { asked = filter (λ a. not (passes a.id)) w.asked }

-- one more is asked for
abbrev pub with_asked : OpenFetch → List OpenFetch → List OpenFetch
with_asked a asked = in_place is_asked_before a asked

-- several more, one after another
abbrev pub with_all_asked : List OpenFetch → List OpenFetch → List OpenFetch
with_all_asked [] asked = asked
with_all_asked (a ∷ more) asked = with_all_asked more (with_asked a asked)

-- one more has asked; it is kept once
abbrev pub with_asker : Asker → List Asker → List Asker
with_asker a askers = in_place is_asker_before a askers

-- who asked for the list of a transaction
abbrev pub askers_of : TxnId → List Asker → List Asker
askers_of id askers = filter (λ a. is_txn a.id id) askers

-- the others
abbrev pub without_askers_of : TxnId → List Asker → List Asker
without_askers_of id askers = filter (λ a. not (is_txn a.id id)) askers
