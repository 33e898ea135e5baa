-- What the calls on a journal answer.
use Rattle.std.specs.Prelude.{ℕ, ◌+◌, Bool, true, false, List, length, nat_le, Result, Ok, Err}
use Rattle.roc_journal.specs.declared.fault.AppendFault.{AppendFault}
use Rattle.roc_journal.specs.declared.fault.AppendFault.TheVariants.{Full, Disk}
use Rattle.roc_journal.specs.declared.fault.ReadFault.{ReadFault}
use Rattle.roc_journal.specs.declared.fault.ReadFault.TheVariants.{Journal as NoJournal, Disk as ReadDisk, NoMemory}
use Rattle.roc_journal.specs.declared.journal.Journal.{Journal}

-- how long a journal may be
abbrev pub most_bytes : ℕ
most_bytes = 1073741824

-- the file is not too long with these bytes behind its gate
abbrev pub has_room : Journal → List ℕ → Bool
has_room journal bytes = nat_le (journal.gate + 1 + length bytes) most_bytes

abbrev pub append_failed : {T : Type 0} → Result T AppendFault → Bool
append_failed (Ok done) = false
append_failed (Err Full) = false
append_failed (Err Disk) = true

abbrev pub is_full : {T : Type 0} → Result T AppendFault → Bool
is_full (Ok done) = false
is_full (Err Full) = true
is_full (Err Disk) = false

-- reading stopped because the disk failed
abbrev pub read_failed : {T : Type 0} → Result T ReadFault → Bool
read_failed (Ok found) = false
read_failed (Err (NoJournal at)) = false
read_failed (Err ReadDisk) = true
read_failed (Err NoMemory) = false
