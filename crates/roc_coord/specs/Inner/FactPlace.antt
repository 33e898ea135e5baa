-- Where the list of an id stands among facts, or would go
use Rattle.std.specs.Prelude.{◌≡◌, ◌<◌, ◌≤◌, ℕ, not, List, length, slice_set, insert}
use Rattle.roc_sequence.specs.Places.{place_of}
use Rattle.roc_base.specs.declared.id.TxnId.{TxnId}
use Rattle.roc_base.specs.TxnId.{txn_lt}
use Rattle.roc_depgraph.specs.declared.known.KnownList.{KnownList}
use Rattle.roc_msg.specs.Facts.{is_fact_before}
use Rattle.roc_msg.specs.InPlace.{in_place}

-- where the first one stands that does not come before an id
abbrev pub fact_place : TxnId → List KnownList → ℕ
fact_place id facts = place_of (λ fact. not (txn_lt fact.of id)) facts

-- the list of an id stands at a place
pub record IsFactAt (id : TxnId) (facts : List KnownList) (at : ℕ) : Type 0 where
  pub within : at < length facts
  pub put : (fact : KnownList) → fact.of ≡ id → slice_set facts at fact ≡ in_place is_fact_before fact facts

-- no list is of the id, and one would go to a place
pub record IsFactGap (id : TxnId) (facts : List KnownList) (at : ℕ) : Type 0 where
  pub within : at ≤ length facts
  pub put : (fact : KnownList) → fact.of ≡ id → insert facts at fact ≡ in_place is_fact_before fact facts
