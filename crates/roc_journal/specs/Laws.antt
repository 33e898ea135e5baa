-- What holds of all files
use Rattle.std.specs.Prelude.{ℕ, List}
use Rattle.roc_journal.specs.declared.record.Record.{Record}
use Rattle.roc_journal.specs.Format.{IsJournal}
use Rattle.roc_journal.specs.Faults.{IsFault}

-- the bytes are a journal of some records
pub record HasRecords (tag bytes : List ℕ) : Type 0 where
  pub records : List Record
  pub is : IsJournal tag bytes records

-- the bytes have a first place that is wrong
pub record HasFault (tag bytes : List ℕ) : Type 0 where
  pub at : ℕ
  pub is : IsFault tag bytes at
