-- How far a journal was read, and what came of one record more.
use Rattle.std.specs.Prelude.{◌≡◌, ℕ, ◌+◌, ◌<◌, ◌≤◌, List, [], ◌∷◌, ◌++◌, length, take, drop, Option, Some, None, Result, Ok, Err}
use Rattle.std.specs.List.{AllByRecursion}
use Rattle.std.specs.Int.{w32, from_be_bytes}
use Rattle.roc_journal.specs.declared.fault.ReadFault.{ReadFault}
use Rattle.roc_journal.specs.declared.fault.ReadFault.TheVariants.{Journal as NoJournal, Disk, NoMemory}
use Rattle.roc_journal.specs.declared.reader.Reader.{Reader}
use Rattle.roc_journal.specs.declared.record.Record.{Record}
use Rattle.roc_journal.specs.Format.{head, opened, IsRecordOf, IsJournal}
use Rattle.roc_journal.specs.Faults.{IsBadRecord, IsFault}

-- These records were read of the bytes, which go on with a gate.
pub record IsReadTo (bytes : List ℕ) (records : List Record) (reader : Reader) : Type 0 where
  pub each : AllByRecursion (IsRecordOf reader.tag) records
  pub gate_byte : ℕ
  pub behind : List ℕ
  pub is : bytes ≡ head reader.tag ++ opened records ++ gate_byte ∷ behind
  pub gate : reader.gate ≡ length (head reader.tag ++ opened records)

-- the place of a reader's gate lies within the file
abbrev pub IsGateWithin : Reader → Type 0
IsGateWithin reader = reader.gate < reader.len

-- no datagram is longer
abbrev pub most_datagram : ℕ
most_datagram = 60000

-- the length that stands behind the gate of a reader
abbrev pub length_behind : (bytes : List ℕ) → Reader → ℕ
length_behind bytes reader = from_be_bytes w32 (take 4 (drop (reader.gate + 1) bytes))

-- a record that memory may be wanted for: its length is that of a datagram, and all of it is there, with the gate behind it
abbrev pub MayWantMemory : (bytes : List ℕ) → Reader → Type 0
MayWantMemory bytes reader = (length_behind bytes reader ≤ most_datagram) × (reader.gate + 5 + length_behind bytes reader < length bytes)

-- where a reader stands behind a call: further on behind a record, and else where it stood
abbrev pub MovesOn : (old new : Reader) → Result (Option (ℕ × Record)) ReadFault → Type 0
MovesOn old new (Ok (Some found)) = old.gate < new.gate
MovesOn old new (Ok None) = new ≡ old
MovesOn old new (Err fault) = new ≡ old

-- what came of reading on: a record with the place of its length, the end of the journal, or that what stands behind these records is none
abbrev pub ReadsNext : (bytes : List ℕ) → List Record → (old new : Reader) → Result (Option (ℕ × Record)) ReadFault → Type 0
ReadsNext bytes records old new (Ok (Some (at, found))) = (at ≡ length (head old.tag ++ opened records) + 1) × IsReadTo bytes (records ++ found ∷ []) new
ReadsNext bytes records old new (Ok None) = IsJournal old.tag bytes records
ReadsNext bytes records old new (Err (NoJournal at)) = (bad : IsBadRecord old.tag bytes at) × (bad.records ≡ records)
ReadsNext bytes records old new (Err Disk) = Unit {0}
ReadsNext bytes records old new (Err NoMemory) = MayWantMemory bytes old

-- what the file does not say: a reader stands at a gate of a file of its own tag, a fault is of the head, and opening takes no memory
abbrev pub OpensRight : (tag : List ℕ) → Result (Option Reader) ReadFault → Type 0
OpensRight tag (Ok (Some reader)) = (reader.tag ≡ tag) × IsGateWithin reader
OpensRight tag (Ok None) = Unit {0}
OpensRight tag (Err (NoJournal at)) = at ≤ 12
OpensRight tag (Err Disk) = Unit {0}
OpensRight tag (Err NoMemory) = ⊥

-- what came of opening a file of these bytes: a reader of all of it that has read no record, the fault of the head, or that it is empty
abbrev pub Opens : (tag bytes : List ℕ) → Result (Option Reader) ReadFault → Type 0
Opens tag bytes (Ok (Some reader)) = (reader.len ≡ length bytes) × IsReadTo bytes [] reader
Opens tag bytes (Ok None) = bytes ≡ []
Opens tag bytes (Err (NoJournal at)) = ¬ (bytes ≡ []) × IsFault tag bytes at
Opens tag bytes (Err Disk) = Unit {0}
Opens tag bytes (Err NoMemory) = ⊥
