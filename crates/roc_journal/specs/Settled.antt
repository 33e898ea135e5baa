-- What a file holds, and what a stop may leave of it, before and after a call.
use Rattle.std.specs.Prelude.{◌≡◌, ◌≤◌, ◌⊎◌, ℕ, List, [], ◌∷◌, ◌++◌, length, Some}
use Rattle.roc_disk.specs.declared.disk.Disk.{Ghosts as DiskOf}
use Rattle.roc_disk.specs.Stops.{Only}
use Rattle.roc_journal.specs.declared.journal.Journal.{Journal}
use Rattle.roc_journal.specs.declared.record.Record.{Record}
use Rattle.roc_journal.specs.Format.{head, opened, IsJournal, IsAtRest}

-- The open file has this name, holds these bytes, and a stop leaves nothing else.
pub record IsDurable {D : Type 0} (disk : DiskOf D) (now : D) (name bytes : List ℕ) : Type 0 where
  pub file : disk.file now ≡ Some name
  pub content : disk.content now name ≡ bytes
  pub only : Only bytes (disk.may_leave now name)

-- The open file has this name and is a journal of these records, with nothing behind it and all of it on the disk.
pub record IsSynced {D : Type 0} (disk : DiskOf D) (now : D) (name tag : List ℕ) (records : List Record) (journal : Journal) : Type 0 where
  pub file : disk.file now ≡ Some name
  pub rests : IsAtRest tag (disk.content now name) records
  pub gate : journal.gate ≡ length (head tag ++ opened records)
  pub durable : Only (disk.content now name) (disk.may_leave now name)

-- a journal of these records, or of these and one more
abbrev pub IsBeforeOrAfter : (tag : List ℕ) → List Record → Record → List ℕ → Type 0
IsBeforeOrAfter tag records r image = IsJournal tag image records ⊎ IsJournal tag image (records ++ r ∷ [])

-- A file that is being made: no record was made up in it, and nothing stands behind a place for a first record.
pub record IsUnmade (tag image : List ℕ) : Type 0 where
  pub short : length image ≤ 13
  pub no_record : (records : List Record) → IsJournal tag image records → records ≡ []
