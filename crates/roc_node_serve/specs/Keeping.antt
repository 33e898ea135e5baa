-- What serving a shard leaves of its journal: docs/PROTOCOL.md, "Restarts"
use Rattle.std.specs.Prelude.{◌≡◌, ◌⊎◌, ℕ, ◌+◌, ◌<◌, Bool, true, false, List, [], ◌∷◌, ◌++◌, length, map, Option, Some, None}
use Rattle.roc_base.specs.declared.node.Shard.{Shard}
use Rattle.roc_book.specs.Call.{BookCall}
use Rattle.roc_disk.specs.declared.disk.Disk.{Ghosts as DiskOf}
use Rattle.roc_disk.specs.Over.{LeavesOnly}
use Rattle.roc_io.specs.declared.link.Addr.{Addr}
use Rattle.roc_io.specs.Call.{NodeCall}
use Rattle.roc_io.specs.Link.{Reception, receiving}
use Rattle.roc_journal.specs.Answers.{most_bytes}
use Rattle.roc_journal.specs.Format.{record_bytes}
use Rattle.roc_kept.specs.Kept.{IsFrom, Recovers, StandsForSome}
use Rattle.roc_kept.specs.Opening.{IsRefusedAt, LeftByOpening}
use Rattle.roc_msg.specs.declared.msg.Msg.{Msg}
use Rattle.roc_plan.specs.Groups.{Plan}
use Rattle.roc_step.specs.State.{ServerState, Viewing}
use Rattle.roc_wire.specs.declared.header.Header.{Header}
use Rattle.roc_node.specs.NodeEvent.{NodeEvent, NodeSetting, receive_of}
use Rattle.roc_node_serve.specs.declared.ends.ServeEnd.{ServeEnd}
use Rattle.roc_node_serve.specs.declared.ends.ServeEnd.TheVariants.{Done, LinkFault, SinkFault, NoMemory, Journal, Full, Disk, BookFault}
use Rattle.roc_node_serve.specs.Logging.{KeepsLog}
use Rattle.roc_node_serve.specs.ServerRun.{ServerNodeState, AfterTurn, IsServerRunFrom, first_server_node_state, opened_node}
use Rattle.roc_node_serve.specs.ServeEnd.{Reached, unbegun, behind, filled_at, amid, Serves, is_end_of_journal}

-- the file recovers a server that keeps what the node's does
abbrev pub RecoversNode : Plan → (tag : List ℕ) → Shard → ServerNodeState → (image : List ℕ) → Type 0
RecoversNode plan tag shard node image = Recovers plan tag shard image node.state node.viewing

-- the file recovers what the node was behind some of the first of these events
pub record RecoversOnWay (S : NodeSetting) (first : ServerNodeState) (shard : Shard) (events : List NodeEvent) (image : List ℕ) : Type 0 where
  pub front : List NodeEvent
  pub rest : List NodeEvent
  pub is : events ≡ front ++ rest
  pub node : ServerNodeState
  pub run : IsServerRunFrom S first front node
  pub recovers : RecoversNode S.plan S.header.tag shard node image

-- the file recovers what comes of the event that a receive gave
pub record RecoversNext (S : NodeSetting) (shard : Shard) (node : ServerNodeState) (last : List Reception) (image : List ℕ) : Type 0 where
  pub event : NodeEvent
  pub is : map receiving last ≡ receive_of event ∷ []
  pub next : ServerNodeState
  pub after : AfterTurn S node event next
  pub recovers : RecoversNode S.plan S.header.tag shard next image

-- it is a file that is too long with one record more
abbrev pub IsTooLong : Header → Msg → List ℕ → Type 0
IsTooLong header msg image = most_bytes < length image + length (record_bytes (record { header = header; msg = msg })) + 1

-- ---- behind the call

-- an image that a stop may leave behind a call that came so far: what the node's server keeps, or amid an event that or what comes of the event
abbrev pub IsLeftBehind : NodeSetting → Shard → Reached → (image : List ℕ) → Type 0
IsLeftBehind S shard unbegun image = Unit {0}
IsLeftBehind S shard (behind events node) image = RecoversNode S.plan S.header.tag shard node image
IsLeftBehind S shard (filled_at events node header msg) image = RecoversNode S.plan S.header.tag shard node image × IsTooLong header msg image
IsLeftBehind S shard (amid events node last) image = RecoversNode S.plan S.header.tag shard node image ⊎ RecoversNext S shard node last image

-- ---- at any moment of the call

-- an image that a stop at some moment since a node was there might have left: what it was behind some of its events, or behind all and the last
abbrev pub IsLeftOnWay : NodeSetting → ServerNodeState → Shard → Reached → (image : List ℕ) → Type 0
IsLeftOnWay S first shard unbegun image = ⊥
IsLeftOnWay S first shard (behind events node) image = RecoversOnWay S first shard events image
IsLeftOnWay S first shard (filled_at events node header msg) image = RecoversOnWay S first shard events image
IsLeftOnWay S first shard (amid events node last) image = RecoversOnWay S first shard events image ⊎ RecoversNext S shard node last image

-- ---- with a journal, and without one

-- of a call that came to a node
abbrev pub WhereBegun : Reached → Type 0 → Type 0
WhereBegun unbegun P = Unit {0}
WhereBegun (behind events node) P = P
WhereBegun (filled_at events node header msg) P = P
WhereBegun (amid events node last) P = P

-- where a file of these bytes is refused, this is the place
abbrev pub IsRefusedRightly : Plan → (tag : List ℕ) → Shard → (bytes : List ℕ) → ServeEnd → Type 0
IsRefusedRightly plan tag shard bytes (Journal at) = IsRefusedAt plan tag shard bytes at
IsRefusedRightly plan tag shard bytes Done = Unit {0}
IsRefusedRightly plan tag shard bytes LinkFault = Unit {0}
IsRefusedRightly plan tag shard bytes SinkFault = Unit {0}
IsRefusedRightly plan tag shard bytes NoMemory = Unit {0}
IsRefusedRightly plan tag shard bytes Full = Unit {0}
IsRefusedRightly plan tag shard bytes Disk = Unit {0}
IsRefusedRightly plan tag shard bytes BookFault = Unit {0}

-- The server that is opened keeps what some records give, kept reads aside: where the disk tells it, those of the file.
pub record IsOpenedFrom {D : Type 0} (disk : DiskOf D) (old new : D) (plan : Plan) (tag name : List ℕ) (shard : Shard) (s : ServerState) (v : Viewing) : Type 0 where
  pub stands : StandsForSome plan shard s v
  pub none_waits : v.reads ≡ []
  pub from : disk.tells new ≡ true → IsFrom plan tag shard (disk.content old name) s v

-- A shard was served with the journal of this name.
pub record ServesKept {D : Type 0} (disk : DiskOf D) (old new : D) (name : List ℕ) (log : Option (List ℕ)) (S : NodeSetting) (shard : Shard) (own : Addr) (turns : ℕ) (counts : Bool)
    (call : NodeCall) (book : BookCall) (end : ServeEnd) : Type 0 where
  -- what the server keeps that was opened
  pub state : ServerState
  pub viewing : Viewing
  pub reached : Reached
  pub serves : Serves S (opened_node S state viewing) shard own turns counts call reached end
  pub opened : WhereBegun reached (IsOpenedFrom disk old new S.plan S.header.tag name shard state viewing)
  pub refuses : disk.tells new ≡ true → IsRefusedRightly S.plan S.header.tag shard (disk.content old name) end
  pub leaves : disk.tells new ≡ true → (image : List ℕ) → disk.may_leave new name image → IsLeftBehind S shard reached image
  pub any_moment : disk.tells new ≡ true → LeavesOnly disk old new name
      (λ image. LeftByOpening S.header.tag (disk.content old name) (disk.may_leave old name) image ⊎ IsLeftOnWay S (opened_node S state viewing) shard reached image)
  pub logs : KeepsLog log book S shard reached end

-- A shard was served without a journal.
pub record ServesUnkept (log : Option (List ℕ)) (S : NodeSetting) (shard : Shard) (own : Addr) (turns : ℕ) (counts : Bool) (call : NodeCall) (book : BookCall) (end : ServeEnd) : Type 0 where
  pub reached : Reached
  pub serves : Serves S (first_server_node_state S.plan shard) shard own turns counts call reached end
  pub of_none : is_end_of_journal end ≡ false
  pub logs : KeepsLog log book S shard reached end

-- A shard was served, with the journal of a name or without one, and a log under a name or none.
abbrev pub ServesWith : {D : Type 0} → DiskOf D → (old new : D) → (journal log : Option (List ℕ)) → NodeSetting → Shard → (own : Addr) → (turns : ℕ)
    → (counts : Bool) → NodeCall → BookCall → ServeEnd → Type 0
ServesWith disk old new None log S shard own turns counts call book end = ServesUnkept log S shard own turns counts call book end
ServesWith disk old new (Some name) log S shard own turns counts call book end = ServesKept disk old new name log S shard own turns counts call book end
