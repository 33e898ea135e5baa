-- Pairs as lists of what comes before each transaction
use Rattle.std.specs.Prelude.{◌≡◌, ◌↔◌, Bool, true, false, nat_le, nat_lt, List, [], None, length, if◌then◌else◌}
use Rattle.std.specs.List.{list_any}
use Rattle.std.specs.List.Sorted.{IsSortedBy}
use Rattle.std.specs.Ordering.{is_lt}
use Rattle.roc_sequence.specs.Lists.{Has}
use Rattle.roc_sequence.specs.Places.{IsListed}
use Rattle.roc_base.specs.declared.id.TxnId.{TxnId}
use Rattle.roc_base.specs.TxnId.{is_txn, txn_cmp}
use Rattle.roc_base.specs.Edge.{Dependency}
use Rattle.roc_depgraph.specs.declared.known.KnownList.{KnownList}
use Rattle.roc_depgraph.specs.Deps.{Precedes, entries_of, list_of}
use Rattle.roc_depgraph.specs.Visits.{IsNamed}
use Rattle.roc_precedence.specs.declared.pair.Pair.{Pair}
use Rattle.roc_precedence.specs.Pairs.{IsPaired}

-- pairs of lower later ids stand before those of higher ones
abbrev pub IsSortedByLater : List Pair → Type 0
IsSortedByLater pairs = IsSortedBy (λ (a b : Pair). is_lt (txn_cmp a.later b.later)) pairs

-- the two say the same
abbrev pub SayTheSame : List Pair → List Pair → Type 0
SayTheSame some others = (u t : TxnId) → IsPaired some u t ↔ IsPaired others u t

-- the pairs with this later id, and no others
pub record IsRunOf (id : TxnId) (pairs run : List Pair) : Type 0 where
  pub from : (p : Pair) → Has p run → Has p pairs × (p.later ≡ id)
  pub all : (p : Pair) → Has p pairs → p.later ≡ id → Has p run

-- the entry that says that this one comes before
abbrev pub entry_of : Pair → Dependency
entry_of p = record { from = p.earlier; imm = false; def = true; at = record { 0 = 0 } }

-- the entries name what the pairs say comes before an id
abbrev pub IsListFor : List Pair → TxnId → List Dependency → Type 0
IsListFor pairs t entries = (u : TxnId) → IsNamed entries u ↔ IsPaired pairs u t

-- the lists of these ids are known, as the pairs say, and no others
pub record AreListsFor (pairs : List Pair) (ids : List TxnId) (known : List KnownList) : Type 0 where
  pub each : (t : TxnId) → IsListed is_txn ids t → (u : TxnId) → Precedes known u t ↔ IsPaired pairs u t
  pub only : (t : TxnId) → ¬ IsListed is_txn ids t → list_of t known ≡ None

-- the known list of t names u
abbrev pub precedes : List KnownList → TxnId → TxnId → Bool
precedes known u t = list_any (λ d. is_txn d.from u) (entries_of known t)

-- the known list of t names t
abbrev pub precedes_itself : List KnownList → TxnId → Bool
precedes_itself known t = precedes known t t

-- a list has at most one member
abbrev pub has_one_at_most : List TxnId → Bool
has_one_at_most c = nat_le (length c) 1

-- the members of a list that has several
abbrev pub members_of_several : List TxnId → List TxnId
members_of_several c = if nat_lt 1 (length c) then c else []
