-- The bytes of a journal: docs/FORMATS.md, "Journal"
use Rattle.std.specs.Prelude.{◌≡◌, ℕ, List, [], ◌∷◌, ◌++◌, length}
use Rattle.std.specs.List.{AllByRecursion}
use Rattle.std.specs.Int.{w32, to_be_bytes}
use Rattle.roc_journal.specs.declared.record.Record.{Record}
use Rattle.roc_wire.specs.Spelling.{spelling}
use Rattle.roc_wire.specs.Fits.{IsSpellable}

-- `RCJ1`
abbrev pub magic : List ℕ
magic = 82 ∷ 67 ∷ 74 ∷ 49 ∷ []

-- what stands before the first gate
abbrev pub head : List ℕ → List ℕ
head tag = magic ++ tag

unfoldable pub datagram_of : Record → List ℕ
datagram_of r = spelling r.header r.msg

-- how long the datagram is, and the datagram
unfoldable pub record_bytes : Record → List ℕ
record_bytes r = to_be_bytes w32 (length (datagram_of r)) ++ datagram_of r

-- records, each behind an open gate
abbrev pub opened : List Record → List ℕ
opened [] = []
opened (r ∷ rs) = 1 ∷ record_bytes r ++ opened rs

-- a record of a journal with this tag
abbrev pub IsRecordOf : List ℕ → Record → Type 0
IsRecordOf tag r = (r.header.tag ≡ tag) × IsSpellable r.header r.msg

-- The bytes are a journal of these records, whatever stands behind the closed gate.
pub record IsJournal (tag bytes : List ℕ) (records : List Record) : Type 0 where
  pub each : AllByRecursion (IsRecordOf tag) records
  pub gate : ℕ
  pub closed : ¬ (gate ≡ 1)
  pub behind : List ℕ
  pub is : bytes ≡ head tag ++ opened records ++ gate ∷ behind

-- The bytes are such a journal, and nothing stands behind the closed gate.
pub record IsAtRest (tag bytes : List ℕ) (records : List Record) : Type 0 where
  pub each : AllByRecursion (IsRecordOf tag) records
  pub gate : ℕ
  pub closed : ¬ (gate ≡ 1)
  pub is : bytes ≡ head tag ++ opened records ++ gate ∷ []
