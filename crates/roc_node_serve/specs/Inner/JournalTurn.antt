-- What one turn of a server's node does to its journal, and several
use Rattle.std.specs.Prelude.{◌≡◌, ◌⊎◌, ℕ, Bool, true, false, List, [], ◌∷◌, map, None, Result, Ok, Err}
use Rattle.roc_base.specs.declared.node.Shard.{Shard}
use Rattle.roc_disk.specs.declared.disk.Disk.{Ghosts as DiskOf}
use Rattle.roc_disk.specs.Over.{LeavesOnly}
use Rattle.roc_io.specs.Cause.{HasCause}
use Rattle.roc_io.specs.Link.{Reception, came, receiving}
use Rattle.roc_io.specs.Packet.{Packet}
use Rattle.roc_kept.specs.declared.fault.KeptFault.{KeptFault}
use Rattle.roc_kept.specs.declared.fault.KeptFault.TheVariants as fault
use Rattle.roc_kept.specs.declared.kept.KeptServer.{KeptServer}
use Rattle.roc_kept.specs.Kept.{is_lost, is_too_long, KeepsTag, IsKeptOn, Recovers, RecoversEither}
use Rattle.roc_msg.specs.declared.msg.Msg.{Msg}
use Rattle.roc_server.specs.Ahead.{ServingFits}
use Rattle.roc_wire.specs.declared.header.Header.{Header}
use Rattle.roc_node.specs.NodeEvent.{NodeEvent, NodeSetting, receive_of}
use Rattle.roc_node_serve.specs.Keeping.{RecoversNode, RecoversOnWay, IsLeftBehind, IsLeftOnWay}
use Rattle.roc_node_serve.specs.ServeEnd.{Reached, BringsMessage, LeavesRecord}
use Rattle.roc_node_serve.specs.ServerRun.{ServerNodeState, AfterEvent, is_stop}

-- a server that may be served on: its disk did not fail, and its journal, where there is one, has the tag
pub record IsOpen (S : NodeSetting) (server : KeptServer) : Type 0 where
  pub fits : ServingFits S.plan server.server
  pub unbroken : is_lost server.keeper ≡ false
  pub tag : KeepsTag S.header.tag server.keeper

-- the disk is as the last call on the server left it
abbrev pub KeepsServer : {D : Type 0} → DiskOf D → D → NodeSetting → (name : List ℕ) → KeptServer → Type 0
KeepsServer disk now S name server = IsKeptOn disk now S.plan name S.header.tag server.server.state server.server.viewing server.keeper

-- the file recovers what comes of the event that a receive gave
pub record ComesNext (S : NodeSetting) (node : ServerNodeState) (last : List Reception) (image : List ℕ) : Type 0 where
  pub event : NodeEvent
  pub is : map receiving last ≡ receive_of event ∷ []
  pub next : ServerNodeState
  pub after : AfterEvent S node event next
  pub recovers : RecoversNode S.plan S.header.tag node.state.shard next image

-- the file recovers what the node keeps, or what comes of the event that a receive gave
abbrev pub LeftAround : NodeSetting → ServerNodeState → (last : List Reception) → (image : List ℕ) → Type 0
LeftAround S node last image = RecoversNode S.plan S.header.tag node.state.shard node image ⊎ ComesNext S node last image

-- a call failed or not, and went well or not, of which a stop at any moment leaves what is around
pub record KeepsBy {D : Type 0} (disk : DiskOf D) (old new : D) (S : NodeSetting) (around : List ℕ → Type 0) (before after : KeptServer) (failed goes : Bool) : Type 0 where
  pub cause : HasCause failed (disk.faults old) (disk.faults new)
  pub told : disk.tells new ≡ true → disk.tells old ≡ true
  pub unkept : before.keeper ≡ None → (after.keeper ≡ None) × (new ≡ old) × (failed ≡ false)
  pub ready : failed ≡ false → IsOpen S after
  pub shard : after.server.state.shard ≡ before.server.state.shard
  pub kept : goes ≡ true → disk.tells new ≡ true → (name : List ℕ) → KeepsServer disk old S name before → KeepsServer disk new S name after
  pub any_moment : disk.tells new ≡ true → (name : List ℕ) → KeepsServer disk old S name before → LeavesOnly disk old new name around

-- there is no room for the record of a message, so the disk was not touched
pub record IsFullFor {D : Type 0} (old new : D) (S : NodeSetting) (node : ServerNodeState) (server : KeptServer) (header : Header) (msg : Msg) : Type 0 where
  pub records : LeavesRecord S.plan node msg
  pub untouched : new ≡ old
  pub too_long : is_too_long server.keeper (record { header = header; msg = msg }) ≡ true

-- a datagram brought a message for which there is no room
pub record FillsAt {D : Type 0} (old new : D) (S : NodeSetting) (node : ServerNodeState) (server : KeptServer) (last : List Reception) : Type 0 where
  pub packet : Packet
  pub is : last ≡ came packet ∷ []
  pub header : Header
  pub msg : Msg
  pub brings : BringsMessage S.header.tag packet header msg
  pub full : IsFullFor old new S node server header msg

-- a datagram brought a message at which the disk failed
pub record BreaksAt (S : NodeSetting) (last : List Reception) : Type 0 where
  pub packet : Packet
  pub is : last ≡ came packet ∷ []
  pub header : Header
  pub msg : Msg
  pub brings : BringsMessage S.header.tag packet header msg

-- why a message that came in a datagram was not taken
abbrev pub Hinders : {T D : Type 0} → (old new : D) → NodeSetting → ServerNodeState → KeptServer → List Reception → Result T KeptFault → Type 0
Hinders old new S node server last (Ok given) = Unit {0}
Hinders old new S node server last (Err fault.NoMemory) = Unit {0}
Hinders old new S node server last (Err fault.Full) = FillsAt old new S node server last
Hinders old new S node server last (Err fault.Disk) = BreaksAt S last
Hinders old new S node server last (Err fault.Broken) = ⊥

-- why a message was not taken
abbrev pub HindersMessage : {T D : Type 0} → (old new : D) → NodeSetting → ServerNodeState → KeptServer → Header → Msg → Result T KeptFault → Type 0
HindersMessage old new S node server header msg (Ok given) = Unit {0}
HindersMessage old new S node server header msg (Err fault.NoMemory) = Unit {0}
HindersMessage old new S node server header msg (Err fault.Full) = (is_stop msg ≡ false) × IsFullFor old new S node server header msg
HindersMessage old new S node server header msg (Err fault.Disk) = is_stop msg ≡ false
HindersMessage old new S node server header msg (Err fault.Broken) = ⊥

-- what a delivery leaves: a stop of the node what its server keeps, any other message that or what comes of it
abbrev pub LeftBy : NodeSetting → (stops : Bool) → Msg → KeptServer → (image : List ℕ) → Type 0
LeftBy S true msg server image = Recovers S.plan S.header.tag server.server.state.shard image server.server.state server.server.viewing
LeftBy S false msg server image = RecoversEither S.plan S.header.tag msg server.server.state server.server.viewing image

-- ---- several turns

-- turns that went well led from one server to another
pub record KeepsOn {D : Type 0} (disk : DiskOf D) (old new : D) (S : NodeSetting) (first : ServerNodeState) (events : List NodeEvent) (before after : KeptServer) : Type 0 where
  pub faults : disk.faults new ≡ disk.faults old
  pub told : disk.tells new ≡ true → disk.tells old ≡ true
  pub unkept : before.keeper ≡ None → (after.keeper ≡ None) × (new ≡ old)
  pub ready : IsOpen S after
  pub shard : after.server.state.shard ≡ before.server.state.shard
  pub kept : disk.tells new ≡ true → (name : List ℕ) → KeepsServer disk old S name before → KeepsServer disk new S name after
  pub any_moment : disk.tells new ≡ true → (name : List ℕ) → KeepsServer disk old S name before → LeavesOnly disk old new name (RecoversOnWay S first before.server.state.shard events)

-- what calls of the disk came of a call
pub record CallsDisk {D : Type 0} (disk : DiskOf D) (old new : D) (before : KeptServer) (failed of_journal : Bool) : Type 0 where
  pub cause : HasCause failed (disk.faults old) (disk.faults new)
  pub told : disk.tells new ≡ true → disk.tells old ≡ true
  pub unkept : before.keeper ≡ None → (new ≡ old) × (of_journal ≡ false)

-- what a call that came so far leaves of the journal
pub record LeavesJournal {D : Type 0} (disk : DiskOf D) (old new : D) (S : NodeSetting) (first : ServerNodeState) (shard : Shard) (before : KeptServer) (reached : Reached) : Type 0 where
  pub leaves : disk.tells new ≡ true → (name : List ℕ) → KeepsServer disk old S name before → (image : List ℕ) → disk.may_leave new name image → IsLeftBehind S shard reached image
  pub any_moment : disk.tells new ≡ true → (name : List ℕ) → KeepsServer disk old S name before → LeavesOnly disk old new name (IsLeftOnWay S first shard reached)
