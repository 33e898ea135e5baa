-- What single reads of a file give.
use Rattle.std.specs.Prelude.{◌≡◌, ℕ, List, ◌∷◌, ◌++◌, length, take, Option, Some, None, Result, Ok, Err}
use Rattle.std.specs.Int.{w32, to_be_bytes, from_be_bytes}
use Rattle.roc_wire.specs.declared.fault.WireFault.{WireFault}
use Rattle.roc_wire.specs.declared.fault.WireFault.TheVariants.{NoMemory as WantOfMemory}
use Rattle.roc_journal.specs.declared.record.Record.{Record}
use Rattle.std.specs.List.{AllByRecursion}
use Rattle.roc_journal.specs.declared.reader.Reader.{Reader}
use Rattle.roc_journal.specs.Format.{head, opened, datagram_of, IsRecordOf}

-- the bytes are the datagram of the record, or of no record of this tag
abbrev pub IsFound : (tag bytes : List ℕ) → Option Record → Type 0
IsFound tag bytes (Some r) = IsRecordOf tag r × (bytes ≡ datagram_of r)
IsFound tag bytes None = (r : Record) → IsRecordOf tag r → ¬ (bytes ≡ datagram_of r)

-- no record, and why; want of memory says nothing
abbrev pub IsNone : {E : Type 0} → WireFault → Result (Option Record) E → Type 0
IsNone fault (Ok (Some r)) = ⊥
IsNone fault (Ok None) = ¬ (fault ≡ WantOfMemory)
IsNone fault (Err e) = Unit {0}

-- the number that stands there
abbrev pub IsNumber : List ℕ → Option ℕ → Type 0
IsNumber bytes (Some n) = (n ≡ from_be_bytes w32 (take 4 bytes)) × (to_be_bytes w32 n ≡ take 4 bytes)
IsNumber bytes None = Unit {0}

-- These records were read of the bytes, which go on with an open gate, and with these bytes behind it.
pub record HasOpenGate (bytes : List ℕ) (records : List Record) (reader : Reader) (behind : List ℕ) : Type 0 where
  pub each : AllByRecursion (IsRecordOf reader.tag) records
  pub is : bytes ≡ head reader.tag ++ opened records ++ 1 ∷ behind
  pub gate : reader.gate ≡ length (head reader.tag ++ opened records)
