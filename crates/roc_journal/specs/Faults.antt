-- The first place at which bytes are no journal.
use Rattle.std.specs.Prelude.{◌≡◌, ℕ, ◌+◌, List, ◌∷◌, ◌++◌, length, take, drop}
use Rattle.std.specs.List.{AllByRecursion}
use Rattle.roc_journal.specs.declared.record.Record.{Record}
use Rattle.roc_journal.specs.Format.{magic, head, record_bytes, opened, IsRecordOf}

-- The bytes begin with a record, and with the gate byte behind it.
pub record BeginsRecord (tag bytes : List ℕ) : Type 0 where
  pub first : Record
  pub is_of : IsRecordOf tag first
  pub gate : ℕ
  pub behind : List ℕ
  pub is : bytes ≡ record_bytes first ++ gate ∷ behind

-- What stands behind this open gate is no record.
pub record IsBadRecord (tag bytes : List ℕ) (at : ℕ) : Type 0 where
  pub records : List Record
  pub each : AllByRecursion (IsRecordOf tag) records
  pub rest : List ℕ
  pub is : bytes ≡ head tag ++ opened records ++ 1 ∷ rest
  pub none : ¬ BeginsRecord tag rest
  pub place : at ≡ length (head tag ++ opened records) + 1

-- The first place that is wrong, and what is wrong there: the magic, the tag, that no gate byte stands behind the tag, or
-- the length of the first record that is none.
pub data IsFault (tag bytes : List ℕ) : ℕ → Type 0 where
  magic_is_wrong : ¬ (take 4 bytes ≡ magic) → IsFault tag bytes 0
  tag_is_wrong : take 4 bytes ≡ magic → ¬ (take 8 (drop 4 bytes) ≡ tag) → IsFault tag bytes 4
  gate_is_missing : bytes ≡ head tag → IsFault tag bytes 12
  record_is_bad : {at : ℕ} → IsBadRecord tag bytes at → IsFault tag bytes at
