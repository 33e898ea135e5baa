-- A server that keeps what it took: what a file recovers, and what a call leaves. docs/PROTOCOL.md, "Restarts"
use Rattle.std.specs.Prelude.{◌≡◌, ◌⊎◌, ℕ, Bool, true, false, not, List, [], ◌∷◌, ◌++◌, Option, Some, None, Result, Ok, Err, map}
use Rattle.roc_base.specs.declared.node.Shard.{Shard}
use Rattle.roc_disk.specs.declared.disk.Disk.{Ghosts as DiskOf}
use Rattle.roc_msg.specs.declared.msg.Msg.{Msg}
use Rattle.roc_plan.specs.Groups.{Plan}
use Rattle.roc_journal.specs.declared.record.Record.{Record}
use Rattle.roc_journal.specs.Answers.{has_room}
use Rattle.roc_journal.specs.Format.{record_bytes, IsJournal}
use Rattle.roc_journal.specs.Settled.{IsSynced}
use Rattle.roc_step.specs.Reads.{AnswersReads, ReadStep}
use Rattle.roc_step.specs.Restarts.{is_recorded, StandsFor}
use Rattle.roc_step.specs.State.{ServerState, ServerStep, Viewing}
use Rattle.roc_step.specs.Step.{Handles}
use Rattle.roc_kept.specs.declared.fault.KeptFault.{KeptFault}
use Rattle.roc_kept.specs.declared.fault.KeptFault.TheVariants.{NoMemory, Full, Disk, Broken}
use Rattle.roc_kept.specs.declared.keeper.Keeper.{Keeper}

-- ---- what calls answer

-- the disk failed
abbrev pub kept_failed : {T : Type 0} → Result T KeptFault → Bool
kept_failed (Ok given) = false
kept_failed (Err NoMemory) = false
kept_failed (Err Full) = false
kept_failed (Err Disk) = true
kept_failed (Err Broken) = false

abbrev pub is_broken : {T : Type 0} → Result T KeptFault → Bool
is_broken (Ok given) = false
is_broken (Err NoMemory) = false
is_broken (Err Full) = false
is_broken (Err Disk) = false
is_broken (Err Broken) = true

abbrev pub answers_full : {T : Type 0} → Result T KeptFault → Bool
answers_full (Ok given) = false
answers_full (Err NoMemory) = false
answers_full (Err Full) = true
answers_full (Err Disk) = false
answers_full (Err Broken) = false

-- nothing was done
abbrev pub is_untried : {T : Type 0} → Result T KeptFault → Bool
is_untried (Ok given) = false
is_untried (Err NoMemory) = true
is_untried (Err Full) = true
is_untried (Err Disk) = false
is_untried (Err Broken) = true

-- ---- how a server keeps what it takes: by a journal, or not at all

-- the disk failed in an earlier call
abbrev pub is_lost : Option Keeper → Bool
is_lost None = false
is_lost (Some keeper) = keeper.broken

-- the journal, where there is one, has this tag
abbrev pub KeepsTag : List ℕ → Option Keeper → Type 0
KeepsTag tag None = Unit {0}
KeepsTag tag (Some keeper) = keeper.tag ≡ tag

-- there is a journal, of this tag, and no call of the disk failed
abbrev pub IsNewKeeper : List ℕ → Option Keeper → Type 0
IsNewKeeper tag None = ⊥
IsNewKeeper tag (Some keeper) = (keeper.tag ≡ tag) × (keeper.broken ≡ false)

-- the file would be too long with the record
abbrev pub is_too_long : Option Keeper → Record → Bool
is_too_long None r = false
is_too_long (Some keeper) r = not (has_room keeper.journal (record_bytes r ++ 0 ∷ []))

-- the open file is the keeper's journal of these records, all of it on the disk
abbrev pub IsSyncedBy : {D : Type 0} → DiskOf D → D → (name tag : List ℕ) → List Record → Option Keeper → Type 0
IsSyncedBy disk now name tag records None = ⊥
IsSyncedBy disk now name tag records (Some keeper) = (keeper.tag ≡ tag) × IsSynced disk now name tag records keeper.journal

-- ---- what is kept

abbrev pub messages_in : List Record → List Msg
messages_in records = map (λ r. r.msg) records

-- what stands under a name is a journal of records for which a server stands that keeps this
pub record Recovers (plan : Plan) (tag : List ℕ) (shard : Shard) (bytes : List ℕ) (s : ServerState) (v : Viewing) : Type 0 where
  pub records : List Record
  pub journal : IsJournal tag bytes records
  pub stands : StandsFor plan shard (messages_in records) s v

-- the disk is as the last call on a server left it that keeps this
pub record IsKeptOn {D : Type 0} (disk : DiskOf D) (now : D) (plan : Plan) (name tag : List ℕ) (s : ServerState) (v : Viewing) (keeper : Option Keeper) : Type 0 where
  pub records : List Record
  pub synced : IsSyncedBy disk now name tag records keeper
  pub stands : StandsFor plan s.shard (messages_in records) s v

-- each image that a stop may leave now recovers a server that keeps this
abbrev pub StopsRecover : {D : Type 0} → DiskOf D → D → Plan → (name tag : List ℕ) → ServerState → Viewing → Type 0
StopsRecover disk now plan name tag s v = (image : List ℕ) → disk.may_leave now name image → Recovers plan tag s.shard image s v

-- what comes of a message
pub record ComesOf (plan : Plan) (msg : Msg) (s : ServerState) (v : Viewing) : Type 0 where
  pub step : ServerStep
  pub reads : ReadStep
  pub handles : Handles plan s msg step
  pub answers : AnswersReads plan v msg step reads

-- the journal is that of a server that keeps this, or of what comes of a message there
abbrev pub RecoversEither : Plan → List ℕ → Msg → ServerState → Viewing → List ℕ → Type 0
RecoversEither plan tag msg s v bytes = Recovers plan tag s.shard bytes s v ⊎ ((c : ComesOf plan msg s v) × Recovers plan tag s.shard bytes c.step.state c.reads.viewing)

-- something comes of the message, and it leaves a record
pub record WillBeRecorded (plan : Plan) (msg : Msg) (s : ServerState) (v : Viewing) : Type 0 where
  pub comes : ComesOf plan msg s v
  pub each : (r : ServerStep) → Handles plan s msg r → is_recorded msg r.answer ≡ true

-- some messages, each taken, give this, kept reads aside
abbrev pub StandsForSome : Plan → Shard → ServerState → Viewing → Type 0
StandsForSome plan shard s v = (msgs : List Msg) × StandsFor plan shard msgs s v

-- the file was a journal of a server that keeps this, or empty
abbrev pub IsFrom : Plan → List ℕ → Shard → List ℕ → ServerState → Viewing → Type 0
IsFrom plan tag shard bytes s v = Recovers plan tag shard bytes s v ⊎ ((bytes ≡ []) × StandsFor plan shard [] s v)
