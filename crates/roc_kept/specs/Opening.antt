-- What comes of opening a journal: docs/FORMATS.md, "Journal"
use Rattle.std.specs.Prelude.{◌≡◌, ◌⊎◌, ℕ, ◌+◌, ◌<◌, ◌≤◌, Bool, true, false, List, [], ◌∷◌, ◌++◌, length, Option, Some, None, Result, Ok, Err}
use Rattle.std.specs.List.{AllByRecursion}
use Rattle.roc_base.specs.declared.node.Shard.{Shard}
use Rattle.roc_msg.specs.declared.msg.Msg.{Msg}
use Rattle.roc_plan.specs.Groups.{Plan}
use Rattle.roc_disk.specs.declared.disk.Disk.{Ghosts as DiskOf}
use Rattle.roc_journal.specs.declared.journal.Journal.{Journal as JournalValue}
use Rattle.roc_journal.specs.declared.reader.Reader.{Reader}
use Rattle.roc_journal.specs.declared.record.Record.{Record}
use Rattle.roc_journal.specs.Faults.{IsBadRecord, IsFault}
use Rattle.roc_journal.specs.Format.{head, opened, IsJournal, IsRecordOf}
use Rattle.roc_journal.specs.Reading.{IsReadTo}
use Rattle.roc_journal.specs.Settled.{IsSynced, IsUnmade}
use Rattle.roc_step.specs.Reads.{is_taken, AnswersReads, ReadStep}
use Rattle.roc_step.specs.Restarts.{IsKeptFold}
use Rattle.roc_step.specs.State.{ServerState, ServerStep, Viewing}
use Rattle.roc_step.specs.Step.{Handles}
use Rattle.roc_kept.specs.Kept.{messages_in}
use Rattle.roc_kept.specs.declared.fault.OpenFault.{OpenFault}
use Rattle.roc_kept.specs.declared.fault.OpenFault.TheVariants.{Journal, Disk, NoMemory}

abbrev pub opening_failed : {T : Type 0} → Result T OpenFault → Bool
opening_failed (Ok given) = false
opening_failed (Err (Journal at)) = false
opening_failed (Err Disk) = true
opening_failed (Err NoMemory) = false

-- a record that a server ignores behind those before it, each of which it takes, by the place of its length
pub record IsIgnoredRecord (plan : Plan) (tag : List ℕ) (shard : Shard) (bytes : List ℕ) (at : ℕ) : Type 0 where
  pub records : List Record
  pub ignored : Record
  pub each : AllByRecursion (IsRecordOf tag) (records ++ ignored ∷ [])
  pub gate_byte : ℕ
  pub behind : List ℕ
  pub is : bytes ≡ head tag ++ opened (records ++ ignored ∷ []) ++ gate_byte ∷ behind
  pub place : at ≡ length (head tag ++ opened records) + 1
  pub state : ServerState
  pub viewing : Viewing
  pub fold : IsKeptFold plan shard (messages_in records) state viewing
  pub step : ServerStep
  pub handles : Handles plan state ignored.msg step
  pub not_taken : is_taken step.answer ≡ false

-- The first place at which bytes are no journal whose records a shard's server takes: in the head of a file that is not empty (0 the magic, 4 the
-- tag, 12 that no gate byte stands behind it), or the length of the first record that is none or is ignored, behind records that are taken.
pub data IsRefusedAt (plan : Plan) (tag : List ℕ) (shard : Shard) (bytes : List ℕ) : ℕ → Type 0 where
  head_is_bad : {at : ℕ} → ¬ (bytes ≡ []) → IsFault tag bytes at → at ≤ 12 → IsRefusedAt plan tag shard bytes at
  record_is_none : {at : ℕ} (bad : IsBadRecord tag bytes at) (s : ServerState) (v : Viewing) → IsKeptFold plan shard (messages_in bad.records) s v → IsRefusedAt plan tag shard bytes at
  record_is_ignored : {at : ℕ} → IsIgnoredRecord plan tag shard bytes at → IsRefusedAt plan tag shard bytes at

-- the file is a journal of the same records as before
pub record HoldsTheSame (tag bytes image : List ℕ) : Type 0 where
  pub records : List Record
  pub was : IsJournal tag bytes records
  pub is : IsJournal tag image records

-- what a stop leaves while a file of these bytes is opened: what it left before, the same records, or of an empty file one that was never used
abbrev pub LeftByOpening : (tag bytes : List ℕ) → (List ℕ → Type 0) → List ℕ → Type 0
LeftByOpening tag bytes before image = before image ⊎ (HoldsTheSame tag bytes image ⊎ ((bytes ≡ []) × IsUnmade tag image))

-- ---- record by record

-- some messages, each taken, give this
abbrev pub GivesSome : Plan → Shard → ServerState → Viewing → Type 0
GivesSome plan shard s v = (msgs : List Msg) × IsKeptFold plan shard msgs s v

-- what came of a message for which a record was found
pub record TakesAgain (plan : Plan) (msg : Msg) (s : ServerState) (v : Viewing) (z : ServerState) (y : Viewing) (taken : Bool) : Type 0 where
  pub step : ServerStep
  pub reads : ReadStep
  pub handles : Handles plan s msg step
  pub answers : AnswersReads plan v msg step reads
  pub is : taken ≡ is_taken step.answer
  pub state : step.state ≡ z
  pub viewing : reads.viewing ≡ y

-- these records were read, and a server took them
pub record IsTakenTo (plan : Plan) (shard : Shard) (bytes : List ℕ) (records : List Record) (reader : Reader) (s : ServerState) (v : Viewing) : Type 0 where
  pub read : IsReadTo bytes records reader
  pub fold : IsKeptFold plan shard (messages_in records) s v

-- a reader further on, or at the same place
abbrev pub IsFurther : Reader → Reader → Type 0
IsFurther old new = (new.tag ≡ old.tag) × (new.len ≡ old.len) × (new.gate < new.len)

-- what came of one record more
abbrev pub TakesNext : Plan → Shard → List ℕ → List Record → Reader → ServerState → Viewing → ServerState → Viewing → Result (Option Reader) OpenFault → Type 0
TakesNext plan shard bytes records reader s v z y (Ok (Some next)) = (r : Record) × IsTakenTo plan shard bytes (records ++ r ∷ []) next z y
TakesNext plan shard bytes records reader s v z y (Ok None) = IsJournal reader.tag bytes records × (z ≡ s) × (y ≡ v)
TakesNext plan shard bytes records reader s v z y (Err (Journal at)) = IsRefusedAt plan reader.tag shard bytes at
TakesNext plan shard bytes records reader s v z y (Err Disk) = Unit {0}
TakesNext plan shard bytes records reader s v z y (Err NoMemory) = Unit {0}

-- the records of a journal, all taken
pub record AreAllTaken (plan : Plan) (shard : Shard) (tag bytes : List ℕ) (reader : Reader) (s : ServerState) (v : Viewing) : Type 0 where
  pub records : List Record
  pub taken : IsTakenTo plan shard bytes records reader s v
  pub journal : IsJournal tag bytes records

abbrev pub TakesAll : Plan → Shard → List ℕ → List ℕ → ServerState → Viewing → Result Reader OpenFault → Type 0
TakesAll plan shard tag bytes z y (Ok reader) = AreAllTaken plan shard tag bytes reader z y
TakesAll plan shard tag bytes z y (Err (Journal at)) = IsRefusedAt plan tag shard bytes at
TakesAll plan shard tag bytes z y (Err Disk) = Unit {0}
TakesAll plan shard tag bytes z y (Err NoMemory) = Unit {0}

-- ---- the file in whole

-- what was read of the file before is a journal whose records give this, or the file was empty
pub record IsOpened (plan : Plan) (tag : List ℕ) (shard : Shard) (bytes : List ℕ) (records : List Record) (s : ServerState) (v : Viewing) : Type 0 where
  pub was : IsJournal tag bytes records ⊎ ((bytes ≡ []) × (records ≡ []))
  pub fold : IsKeptFold plan shard (messages_in records) s v

-- a journal was opened, and a server took its records
pub record IsSettledFor {D : Type 0} (disk : DiskOf D) (now : D) (plan : Plan) (name tag : List ℕ) (shard : Shard) (bytes : List ℕ) (s : ServerState) (v : Viewing)
    (journal : JournalValue) : Type 0 where
  pub records : List Record
  pub opened : IsOpened plan tag shard bytes records s v
  pub synced : IsSynced disk now name tag records journal

abbrev pub OpensAs : {D : Type 0} → DiskOf D → D → Plan → (name tag : List ℕ) → Shard → List ℕ → ServerState → Viewing → Result JournalValue OpenFault → Type 0
OpensAs disk now plan name tag shard bytes s v (Ok journal) = IsSettledFor disk now plan name tag shard bytes s v journal
OpensAs disk now plan name tag shard bytes s v (Err (Journal at)) = IsRefusedAt plan tag shard bytes at
OpensAs disk now plan name tag shard bytes s v (Err Disk) = Unit {0}
OpensAs disk now plan name tag shard bytes s v (Err NoMemory) = Unit {0}

abbrev pub RefusesRightly : {T : Type 0} → Plan → (tag : List ℕ) → Shard → List ℕ → Result T OpenFault → Type 0
RefusesRightly plan tag shard bytes (Ok given) = Unit {0}
RefusesRightly plan tag shard bytes (Err (Journal at)) = IsRefusedAt plan tag shard bytes at
RefusesRightly plan tag shard bytes (Err Disk) = Unit {0}
RefusesRightly plan tag shard bytes (Err NoMemory) = Unit {0}
