-- Where the entry of an id stands in a rising list, or would go
use Rattle.std.specs.Prelude.{◌≡◌, ◌<◌, ◌≤◌, ℕ, length, not, slice_index_or, List, Some, None}
use Rattle.roc_sequence.specs.Places.{place_of}
use Rattle.roc_base.specs.declared.id.TxnId.{TxnId}
use Rattle.roc_base.specs.TxnId.{txn_lt}
use Rattle.roc_base.specs.Edge.{Dependency}
use Rattle.roc_base.specs.Edges.{entry_at}

-- where the first entry stands that does not come before an id
abbrev pub entry_place : TxnId → List Dependency → ℕ
entry_place id es = place_of (λ e. not (txn_lt e.from id)) es

-- the entry of an id stands at a place
pub record IsAt (id : TxnId) (es : List Dependency) (at : ℕ) : Type 0 where
  pub place : at ≡ entry_place id es
  pub within : at < length es
  pub entry : (d : Dependency) → entry_at id es ≡ Some (slice_index_or es at d)

-- no entry is of an id, and one would go to a place
pub record IsGapFor (id : TxnId) (es : List Dependency) (at : ℕ) : Type 0 where
  pub place : at ≡ entry_place id es
  pub within : at ≤ length es
  pub absent : entry_at id es ≡ None
