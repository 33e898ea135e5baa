-- What an outbox holds, and what is added to it
use Rattle.std.specs.Prelude.{◌≡◌, ◌++◌, ◌≤◌, ◌+◌, ℕ, List, length}
use Rattle.roc_base.specs.declared.id.TxnId.{TxnId}
use Rattle.roc_msg.specs.declared.outbox.Outgoing.{Outgoing}
use Rattle.roc_msg.specs.declared.outbox.Ran.{Ran}

-- how many more of each find room
pub record OutboxRoom : Type 0 where
  pub messages : ℕ
  pub decided : ℕ
  pub ran : ℕ

-- what is sent, what is newly decided, and which cells were accessed, each in order
pub record Collected : Type 0 where
  pub messages : List Outgoing
  pub decided : List TxnId
  pub ran : List Ran
  pub room : OutboxRoom

-- the same is held; there may be other room
abbrev pub HoldsSame : (old new : Collected) → Type 0
HoldsSame old new = (new.messages ≡ old.messages) × (new.decided ≡ old.decided) × (new.ran ≡ old.ran)

-- these messages are sent behind the others, and that is all
abbrev pub HasSent : (old new : Collected) → List Outgoing → Type 0
HasSent old new sends = (new.messages ≡ old.messages ++ sends) × (new.decided ≡ old.decided) × (new.ran ≡ old.ran)

-- these transactions are decided behind the others, and that is all
abbrev pub HasDecided : (old new : Collected) → List TxnId → Type 0
HasDecided old new ids = (new.messages ≡ old.messages) × (new.decided ≡ old.decided ++ ids) × (new.ran ≡ old.ran)

-- these accesses stand behind the others, and that is all
abbrev pub HasRun : (old new : Collected) → List Ran → Type 0
HasRun old new accesses = (new.messages ≡ old.messages) × (new.decided ≡ old.decided) × (new.ran ≡ old.ran ++ accesses)

-- what another one holds stands behind, each in order
abbrev pub HoldsAlso : (old new more : Collected) → Type 0
HoldsAlso old new more = (new.messages ≡ old.messages ++ more.messages) × (new.decided ≡ old.decided ++ more.decided) × (new.ran ≡ old.ran ++ more.ran)

-- what is sent and what more finds room are together no fewer: so room that was taken ahead for messages is lost to what is sent alone
abbrev pub KeepsRoom : (old new : Collected) → Type 0
KeepsRoom old new = length old.messages + old.room.messages ≤ length new.messages + new.room.messages

-- there is room for all that another one holds
abbrev pub HasRoomFor : (old more : Collected) → Type 0
HasRoomFor old more = (length more.messages ≤ old.room.messages) × (length more.decided ≤ old.room.decided) × (length more.ran ≤ old.room.ran)
