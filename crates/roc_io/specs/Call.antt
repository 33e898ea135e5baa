-- What each object tells before and after a call. Each record is built from the object's value at these two times.
use Rattle.std.specs.Prelude.{ℕ, List, Option}
use Rattle.roc_io.specs.declared.files.Files.{Ghosts as FilesOf}
use Rattle.roc_io.specs.declared.link.Addr.{Addr}
use Rattle.roc_io.specs.declared.link.Link.{Ghosts as LinkOf}
use Rattle.roc_io.specs.declared.sink.Sink.{Ghosts as SinkOf}
use Rattle.roc_io.specs.declared.spawner.ChildWait.{ChildWait}
use Rattle.roc_io.specs.declared.spawner.Spawner.{Ghosts as SpawnerOf}
use Rattle.roc_io.specs.Link.{LinkEvent}
use Rattle.roc_io.specs.Packet.{Packet}
use Rattle.roc_io.specs.Start.{Start}

-- ---- files

-- what names hold, and the names whose reads failed before and after the call
pub record FilesCall : Type 0 where
  pub content : List ℕ → Option (List ℕ)
  pub failed_old : Option (List (List ℕ))
  pub failed_new : Option (List (List ℕ))

-- no call changes what a name holds, so it is told as it was before
abbrev pub files_call : {F : Type 0} → FilesOf F → (old new : F) → FilesCall
files_call F old new = record { content = F.content old; failed_old = F.failed_names old; failed_new = F.failed_names new }

-- ---- a sink

-- the bytes that it took
pub record SinkCall : Type 0 where
  pub old : Option (List ℕ)
  pub new : Option (List ℕ)

abbrev pub sink_call : {S : Type 0} → SinkOf S → (old new : S) → SinkCall
sink_call S old new = record { old = S.taken old; new = S.taken new }

-- ---- a link

-- at one time: the datagrams that are still to arrive, those that it took for sending, how many sends were lost, and what went over it, sends
-- and receives in one order
pub record LinkView : Type 0 where
  pub arrivals : Option (List Packet)
  pub sent : Option (List Packet)
  pub lost : ℕ
  pub events : Option (List LinkEvent)

abbrev pub link_view : {L : Type 0} → LinkOf L → L → LinkView
link_view L link = record { arrivals = L.arrivals link; sent = L.sent link; lost = L.lost link; events = L.events link }

-- the addresses that were bound, and the datagrams
pub record LinkCall : Type 0 where
  pub bound_old : Option (List Addr)
  pub bound_new : Option (List Addr)
  pub old : LinkView
  pub new : LinkView

abbrev pub link_call : {L : Type 0} → LinkOf L → (old new : L) → LinkCall
link_call L old new = record { bound_old = L.bound old; bound_new = L.bound new; old = link_view L old; new = link_view L new }

-- ---- children

-- those that were started and awaited, what a link had sent at each wait, and how many starts and waits failed
pub record ChildrenCall : Type 0 where
  pub started_old : Option (List Start)
  pub started_new : Option (List Start)
  pub awaited_old : Option (List ChildWait)
  pub awaited_new : Option (List ChildWait)
  pub sent_at_waits_old : Option (List (Option (List Packet)))
  pub sent_at_waits_new : Option (List (Option (List Packet)))
  pub faults_old : ℕ
  pub faults_new : ℕ

abbrev pub children_call : {P : Type 0} → SpawnerOf P → (old new : P) → ChildrenCall
children_call P old new = record {
  started_old = P.started old;
  started_new = P.started new;
  awaited_old = P.awaited old;
  awaited_new = P.awaited new;
  sent_at_waits_old = P.sent_at_waits old;
  sent_at_waits_new = P.sent_at_waits new;
  faults_old = P.faults old;
  faults_new = P.faults new;
}

-- ---- a node

-- its link and its sink
pub record NodeCall : Type 0 where
  pub link : LinkCall
  pub out : SinkCall
