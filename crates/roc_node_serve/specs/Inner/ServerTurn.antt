-- One turn of a server's node, and several
use Rattle.std.specs.Prelude.{◌≡◌, ℕ, ◌<◌, ◌≤◌, Bool, true, false, List, [], ◌∷◌, ◌++◌, length, map, Option, Result, Ok, Err}
use Rattle.roc_base.specs.declared.node.Shard.{Shard}
use Rattle.roc_disk.specs.declared.disk.Disk.{Ghosts as DiskOf}
use Rattle.roc_book.specs.Call.{BookView}
use Rattle.roc_io.specs.declared.link.Addr.{Addr}
use Rattle.roc_io.specs.Call.{LinkView, NodeCall}
use Rattle.roc_io.specs.Link.{Reception, LinkEvent, sending, receiving, came, vain}
use Rattle.roc_io.specs.Packet.{Packet}
use Rattle.roc_io.specs.Observed.{Adds, AddsFront}
use Rattle.roc_kept.specs.declared.fault.KeptFault.{KeptFault}
use Rattle.roc_kept.specs.declared.fault.KeptFault.TheVariants as fault
use Rattle.roc_kept.specs.declared.fault.OpenFault.{OpenFault}
use Rattle.roc_kept.specs.declared.fault.OpenFault.TheVariants as open_fault
use Rattle.roc_kept.specs.declared.kept.KeptServer.{KeptServer}
use Rattle.roc_log.specs.declared.line.LogLine.{LogLine}
use Rattle.roc_log.specs.LogLine.{lines_text}
use Rattle.roc_msg.specs.declared.msg.Msg.{Msg}
use Rattle.roc_msg.specs.declared.outbox.Outgoing.{Outgoing}
use Rattle.roc_wire.specs.declared.header.Header.{Header}
use Rattle.roc_node.specs.Counts.{no_counts}
use Rattle.roc_node.specs.Moves.{Moves}
use Rattle.roc_node.specs.Posting.{none_heard}
use Rattle.roc_node.specs.NodeEvent.{NodeEvent, receive_of, NodeSetting}
use Rattle.roc_node_serve.specs.declared.server_node.ServerNode.{ServerNode}
use Rattle.roc_node_serve.specs.declared.server_node.TurnOutput.{TurnOutput}
use Rattle.roc_node_serve.specs.declared.server_turns.TurnEnd.{TurnEnd}
use Rattle.roc_node_serve.specs.declared.server_turns.TurnEnd.TheVariants.{Goes, Stopped, NoMemory, LinkFault, Full, Disk, BookFault}
use Rattle.roc_node_serve.specs.declared.server_turns.RunEnd.{RunEnd}
use Rattle.roc_node_serve.specs.declared.server_turns.RunEnd.TheVariants as run
use Rattle.roc_node_serve.specs.declared.ends.ServeEnd.{ServeEnd}
use Rattle.roc_node_serve.specs.declared.ends.ServeEnd.TheVariants as end
use Rattle.roc_node_serve.specs.Inner.JournalTurn.{KeepsBy, KeepsOn, LeftAround, FillsAt, BreaksAt, LeavesJournal}
use Rattle.roc_node_serve.specs.Inner.LogTurn.{Took, TookFront, TookSo, text_for}
use Rattle.roc_node_serve.specs.ServeEnd.{AreTurnsOver, BringsMessage, LeavesRecord, Reached, behind, filled_at, amid, RunsServer, Serves, serve_refused}
use Rattle.roc_node_serve.specs.ServerRun.{ServerNodeState, AfterEvent, IsServerRunFrom}

-- a node that keeps this, sent these messages, asked this of its link, logged these lines and was stopped or not
abbrev pub node_of : ServerNode → List Outgoing → List LinkEvent → List LogLine → Bool → ServerNodeState
node_of server_node messages traffic logged stopped = record {
  state = server_node.server.server.state;
  viewing = server_node.server.server.viewing;
  messages = messages;
  traffic = traffic;
  logged = logged;
  heard = server_node.heard;
  counts = server_node.counts;
  stopped = stopped;
}

-- one of which nothing is told but what it keeps
abbrev pub bare : ServerNode → ServerNodeState
bare server_node = node_of server_node [] [] [] false

-- P holds of the node that keeps this, is to send this, and logs lines with the text for the book
pub record Leads (logs : Bool) (S : NodeSetting) (P : ServerNodeState → Type 0) (server_node : ServerNode) (output : TurnOutput) : Type 0 where
  pub messages : List Outgoing
  pub lines : List LogLine
  pub is : P (node_of server_node messages (map sending output.sends.items) lines output.stopped)
  pub text : output.log.items ≡ text_for logs S.plan.program lines

-- ---- one receive

abbrev pub turn_failed : TurnEnd → Bool
turn_failed LinkFault = true
turn_failed Goes = false
turn_failed Stopped = false
turn_failed NoMemory = false
turn_failed Full = false
turn_failed Disk = false
turn_failed BookFault = false

abbrev pub turn_broke : TurnEnd → Bool
turn_broke Disk = true
turn_broke LinkFault = false
turn_broke Goes = false
turn_broke Stopped = false
turn_broke NoMemory = false
turn_broke Full = false
turn_broke BookFault = false

-- the book did
abbrev pub turn_unlogged : TurnEnd → Bool
turn_unlogged BookFault = true
turn_unlogged Goes = false
turn_unlogged Stopped = false
turn_unlogged NoMemory = false
turn_unlogged LinkFault = false
turn_unlogged Full = false
turn_unlogged Disk = false

-- the node took its event
abbrev pub turn_went : TurnEnd → Bool
turn_went Goes = true
turn_went Stopped = true
turn_went LinkFault = false
turn_went NoMemory = false
turn_went Full = false
turn_went Disk = false
turn_went BookFault = true

-- the end of a turn that brought a message that was not taken
abbrev pub turn_of : KeptFault → TurnEnd
turn_of fault.NoMemory = NoMemory
turn_of fault.Full = Full
turn_of fault.Disk = Disk
turn_of fault.Broken = Disk

abbrev pub event_failed : Result TurnOutput TurnEnd → Bool
event_failed (Ok output) = false
event_failed (Err end) = turn_failed end

abbrev pub event_broke : Result TurnOutput TurnEnd → Bool
event_broke (Ok output) = false
event_broke (Err end) = turn_broke end

abbrev pub event_went : Result TurnOutput TurnEnd → Bool
event_went (Ok output) = true
event_went (Err end) = false

-- a receive gave an event, and this is what the node makes of it
pub record TakesEvent (logs : Bool) (S : NodeSetting) (last : List Reception) (old new : ServerNode) (output : TurnOutput) : Type 0 where
  pub event : NodeEvent
  pub is : map receiving last ≡ receive_of event ∷ []
  pub leads : Leads logs S (AfterEvent S (bare old) event) new output

-- what came of what a receive gave
abbrev pub ComesOfReceive : {D : Type 0} → (disk_old disk_new : D) → (logs : Bool) → NodeSetting → List Reception → (old new : ServerNode) → Result TurnOutput TurnEnd → Type 0
ComesOfReceive disk_old disk_new logs S last old new (Ok output) = TakesEvent logs S last old new output
ComesOfReceive disk_old disk_new logs S last old new (Err NoMemory) = Unit {0}
ComesOfReceive disk_old disk_new logs S last old new (Err LinkFault) = last ≡ vain ∷ []
ComesOfReceive disk_old disk_new logs S last old new (Err Full) = FillsAt disk_old disk_new S (bare old) old.server last
ComesOfReceive disk_old disk_new logs S last old new (Err Disk) = BreaksAt S last
ComesOfReceive disk_old disk_new logs S last old new (Err Goes) = ⊥
ComesOfReceive disk_old disk_new logs S last old new (Err Stopped) = ⊥
ComesOfReceive disk_old disk_new logs S last old new (Err BookFault) = ⊥

-- one receive
pub record TakesOne {D : Type 0} (disk : DiskOf D) (disk_old disk_new : D) (logs : Bool) (S : NodeSetting) (old new : ServerNode) (link_old link_new : LinkView)
    (result : Result TurnOutput TurnEnd) : Type 0 where
  pub last : List Reception
  pub one : length last ≤ 1
  pub moves : Moves link_old link_new (map receiving last)
  pub comes : ComesOfReceive disk_old disk_new logs S last old new result
  pub keeps : KeepsBy disk disk_old disk_new S (LeftAround S (bare old) last) old.server new.server (event_broke result) (event_went result)

-- ---- one turn

-- what comes of giving out what a node made of an event, whose lines have this text
abbrev pub GivesOut : (logs : Bool) → (text : List ℕ) → TurnOutput → (link_old link_new : LinkView) → (book_old book_new : BookView) → TurnEnd → Type 0
GivesOut logs text output link_old link_new book_old book_new Goes =
    (output.stopped ≡ false) × Took logs book_old book_new text × Moves link_old link_new (map sending output.sends.items)
GivesOut logs text output link_old link_new book_old book_new Stopped =
    (output.stopped ≡ true) × Took logs book_old book_new text × Moves link_old link_new (map sending output.sends.items)
GivesOut logs text output link_old link_new book_old book_new BookFault = TookFront logs book_old book_new text × (link_new ≡ link_old)
GivesOut logs text output link_old link_new book_old book_new NoMemory = ⊥
GivesOut logs text output link_old link_new book_old book_new LinkFault = ⊥
GivesOut logs text output link_old link_new book_old book_new Full = ⊥
GivesOut logs text output link_old link_new book_old book_new Disk = ⊥

-- one event led from what a node kept to what it keeps, what comes of it was sent behind its receive, and its lines are in the book
pub record TurnsOnce (logs : Bool) (S : NodeSetting) (stopped : Bool) (last : List Reception) (old new : ServerNode) (link_old link_new : LinkView) (book_old book_new : BookView) : Type 0 where
  pub event : NodeEvent
  pub is : map receiving last ≡ receive_of event ∷ []
  pub messages : List Outgoing
  pub sends : List Packet
  pub lines : List LogLine
  pub leads : AfterEvent S (bare old) event (node_of new messages (map sending sends) lines stopped)
  pub moves : Moves link_old link_new (receive_of event ∷ map sending sends)
  pub took : Took logs book_old book_new (lines_text S.plan.program lines)

-- the book took a front of the lines of an event, and nothing was sent for it
pub record TurnsCut (logs : Bool) (S : NodeSetting) (last : List Reception) (old : ServerNode) (link_old link_new : LinkView) (book_old book_new : BookView) : Type 0 where
  pub event : NodeEvent
  pub is : map receiving last ≡ receive_of event ∷ []
  pub next : ServerNodeState
  pub leads : AfterEvent S (bare old) event next
  pub moves : Moves link_old link_new (map receiving last)
  pub took : TookFront logs book_old book_new (lines_text S.plan.program next.logged)

abbrev pub Turns : {D : Type 0} → (disk_old disk_new : D) → (logs : Bool) → NodeSetting → TurnEnd → List Reception → (old new : ServerNode) → LinkView → LinkView → (book_old book_new : BookView)
    → Type 0
Turns disk_old disk_new logs S Goes last old new link_old link_new book_old book_new = TurnsOnce logs S false last old new link_old link_new book_old book_new
Turns disk_old disk_new logs S Stopped last old new link_old link_new book_old book_new = TurnsOnce logs S true last old new link_old link_new book_old book_new
Turns disk_old disk_new logs S BookFault last old new link_old link_new book_old book_new = TurnsCut logs S last old link_old link_new book_old book_new
Turns disk_old disk_new logs S NoMemory last old new link_old link_new book_old book_new = Moves link_old link_new (map receiving last) × (book_new ≡ book_old)
Turns disk_old disk_new logs S LinkFault last old new link_old link_new book_old book_new =
    (last ≡ vain ∷ []) × Moves link_old link_new (map receiving last) × (book_new ≡ book_old)
Turns disk_old disk_new logs S Full last old new link_old link_new book_old book_new =
    FillsAt disk_old disk_new S (bare old) old.server last × Moves link_old link_new (map receiving last) × (book_new ≡ book_old)
Turns disk_old disk_new logs S Disk last old new link_old link_new book_old book_new = BreaksAt S last × Moves link_old link_new (map receiving last) × (book_new ≡ book_old)

pub record TakesTurn {D : Type 0} (disk : DiskOf D) (disk_old disk_new : D) (logs : Bool) (S : NodeSetting) (old new : ServerNode) (link_old link_new : LinkView) (book_old book_new : BookView)
    (end : TurnEnd) : Type 0 where
  pub last : List Reception
  pub one : length last ≤ 1
  pub turns : Turns disk_old disk_new logs S end last old new link_old link_new book_old book_new
  pub keeps : KeepsBy disk disk_old disk_new S (LeftAround S (bare old) last) old.server new.server (turn_broke end) (turn_went end)

-- ---- several turns

-- so many events, of which none stopped the node, led from the first node to this
pub record RanSo {D : Type 0} (disk : DiskOf D) (disk_old disk_new : D) (logs : Bool) (S : NodeSetting) (first : ServerNodeState) (count : ℕ) (stopped : Bool) (begun : KeptServer)
    (server_node : ServerNode) (link_old link_new : LinkView) (book_old book_new : BookView) : Type 0 where
  pub events : List NodeEvent
  pub messages : List Outgoing
  pub traffic : List LinkEvent
  pub logged : List LogLine
  pub counted : length events ≡ count
  pub run : IsServerRunFrom S first events (node_of server_node messages traffic logged stopped)
  pub moves : Moves link_old link_new traffic
  pub keeps : KeepsOn disk disk_old disk_new S first events begun server_node.server
  pub lines : List LogLine
  pub adds : logged ≡ first.logged ++ lines
  pub took : Took logs book_old book_new (lines_text S.plan.program lines)

abbrev pub run_failed : RunEnd → Bool
run_failed run.LinkFault = true
run_failed (run.Over stopped) = false
run_failed run.NoMemory = false
run_failed run.Full = false
run_failed run.Disk = false
run_failed run.BookFault = false

abbrev pub run_broke : RunEnd → Bool
run_broke run.Disk = true
run_broke (run.Over stopped) = false
run_broke run.NoMemory = false
run_broke run.LinkFault = false
run_broke run.Full = false
run_broke run.BookFault = false

abbrev pub run_unlogged : RunEnd → Bool
run_unlogged run.BookFault = true
run_unlogged (run.Over stopped) = false
run_unlogged run.NoMemory = false
run_unlogged run.LinkFault = false
run_unlogged run.Full = false
run_unlogged run.Disk = false

-- only a journal brings such an end
abbrev pub run_ended_by_journal : RunEnd → Bool
run_ended_by_journal run.Full = true
run_ended_by_journal run.Disk = true
run_ended_by_journal (run.Over stopped) = false
run_ended_by_journal run.NoMemory = false
run_ended_by_journal run.LinkFault = false
run_ended_by_journal run.BookFault = false

-- how the turns of a server ended, and how far they came
pub data RunsTurns (S : NodeSetting) (first : ServerNodeState) (turns : ℕ) (counted : ServerNode) (link_old link_new : LinkView) : RunEnd → Reached → Type 0 where
  are_over : (stopped : Bool) (messages : List Outgoing) (traffic : List LinkEvent) (logged : List LogLine) (events : List NodeEvent)
      → AreTurnsOver turns events (node_of counted messages traffic logged stopped)
      → RunsServer S first turns [] events (node_of counted messages traffic logged stopped) link_old link_new
      → RunsTurns S first turns counted link_old link_new (run.Over stopped) (behind events (node_of counted messages traffic logged stopped))
  are_wanted : (events : List NodeEvent) (node : ServerNodeState) (last : List Reception) → length last ≤ 1 → RunsServer S first turns last events node link_old link_new
      → RunsTurns S first turns counted link_old link_new run.NoMemory (amid events node last)
  are_cut_off : (events : List NodeEvent) (node : ServerNodeState) → node.stopped ≡ false → length events < turns → RunsServer S first turns (vain ∷ []) events node link_old link_new
      → RunsTurns S first turns counted link_old link_new run.LinkFault (behind events node)
  are_filled : (events : List NodeEvent) (node : ServerNodeState) (packet : Packet) (header : Header) (msg : Msg) → BringsMessage S.header.tag packet header msg → LeavesRecord S.plan node msg
      → node.stopped ≡ false → RunsServer S first turns (came packet ∷ []) events node link_old link_new
      → RunsTurns S first turns counted link_old link_new run.Full (filled_at events node header msg)
  are_broken : (events : List NodeEvent) (node : ServerNodeState) (packet : Packet) (header : Header) (msg : Msg) → BringsMessage S.header.tag packet header msg
      → node.stopped ≡ false → RunsServer S first turns (came packet ∷ []) events node link_old link_new
      → RunsTurns S first turns counted link_old link_new run.Disk (amid events node (came packet ∷ []))
  are_unlogged : (events : List NodeEvent) (node : ServerNodeState) (last : List Reception) (event : NodeEvent) → map receiving last ≡ receive_of event ∷ []
      → node.stopped ≡ false → RunsServer S first turns last events node link_old link_new
      → RunsTurns S first turns counted link_old link_new run.BookFault (amid events node last)

-- how a call ends whose turns ended so, unless its last lines fail
abbrev pub end_behind : RunEnd → ServeEnd
end_behind (run.Over stopped) = end.Done
end_behind run.NoMemory = end.NoMemory
end_behind run.LinkFault = end.LinkFault
end_behind run.Full = end.Full
end_behind run.Disk = end.Disk
end_behind run.BookFault = end.BookFault

-- what came of turns from a first node on
pub record ComesOfTurns {D : Type 0} (disk : DiskOf D) (disk_old disk_new : D) (logs : Bool) (S : NodeSetting) (first : ServerNodeState) (turns : ℕ) (begun : KeptServer) (counted : ServerNode)
    (link_old link_new : LinkView) (book_old book_new : BookView) (end : RunEnd) : Type 0 where
  pub reached : Reached
  pub runs : RunsTurns S first turns counted link_old link_new end reached
  pub leaves : LeavesJournal disk disk_old disk_new S first begun.server.state.shard begun reached
  pub took : TookSo logs book_old book_new S first reached (end_behind end)

-- nobody was heard, and nothing counted
abbrev pub IsFirstNode : ServerNode → Type 0
IsFirstNode server_node = (server_node.heard ≡ none_heard) × (server_node.counts ≡ no_counts)

-- how a call ends where no journal was opened
abbrev pub end_of : OpenFault → ServeEnd
end_of (open_fault.Journal at) = end.Journal at
end_of open_fault.Disk = end.Disk
end_of open_fault.NoMemory = end.NoMemory

-- what came of a call that serves from a first node on, and what its book took
pub record ComesOfServing {D : Type 0} (disk : DiskOf D) (disk_old disk_new : D) (S : NodeSetting) (first : ServerNodeState) (shard : Shard) (own : Addr) (turns : ℕ) (counts : Bool)
    (begun : KeptServer) (call : NodeCall) (Logs : Reached → ServeEnd → Type 0) (end : ServeEnd) : Type 0 where
  pub reached : Reached
  pub serves : Serves S first shard own turns counts call reached end
  pub accepts : serve_refused end ≡ false
  pub leaves : LeavesJournal disk disk_old disk_new S first begun.server.state.shard begun reached
  pub logs : Logs reached end

-- ---- the last lines

-- they were written, or a front of them, or nothing
abbrev pub ClosesServe : ServeEnd → List ℕ → Option (List ℕ) → Option (List ℕ) → Type 0
ClosesServe end.Done text old new = Adds old new text
ClosesServe end.SinkFault text old new = AddsFront old new text
ClosesServe end.NoMemory text old new = new ≡ old
ClosesServe end.LinkFault text old new = ⊥
ClosesServe (end.Journal at) text old new = ⊥
ClosesServe end.Full text old new = ⊥
ClosesServe end.Disk text old new = ⊥
ClosesServe end.BookFault text old new = ⊥
