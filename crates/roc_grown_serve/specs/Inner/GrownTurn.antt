-- One turn of a server's node that may go over to a grown workload, and several
use Rattle.std.specs.Prelude.{◌≡◌, ℕ, ◌<◌, ◌≤◌, Bool, true, false, List, [], ◌∷◌, length, map, Option, Some, Result, Ok, Err}
use Rattle.roc_grown.specs.Fits.{GrownServerFits}
use Rattle.roc_io.specs.Call.{LinkView}
use Rattle.roc_io.specs.Link.{Reception, LinkEvent, sending, receiving, vain}
use Rattle.roc_io.specs.Observed.{Adds, AddsFront}
use Rattle.roc_node.specs.Moves.{Moves}
use Rattle.roc_node.specs.NodeEvent.{NodeEvent, receive_of}
use Rattle.roc_node_serve.specs.declared.ends.ServeEnd.{ServeEnd}
use Rattle.roc_node_serve.specs.declared.ends.ServeEnd.TheVariants as end
use Rattle.roc_grown_node.specs.Posting.{Filed}
use Rattle.roc_grown_node.specs.Setting.{GrownNodeSetting}
use Rattle.roc_grown_serve.specs.declared.server_node.GrownServerNode.{GrownServerNode}
use Rattle.roc_grown_serve.specs.declared.server_node.TurnOutput.{TurnOutput}
use Rattle.roc_grown_serve.specs.declared.server_turns.TurnEnd.{TurnEnd}
use Rattle.roc_grown_serve.specs.declared.server_turns.TurnEnd.TheVariants.{Goes, Stopped, NoMemory, LinkFault}
use Rattle.roc_grown_serve.specs.declared.server_turns.RunEnd.{RunEnd}
use Rattle.roc_grown_serve.specs.declared.server_turns.RunEnd.TheVariants as run
use Rattle.roc_grown_serve.specs.GrownRun.{GrownNodeState, AfterGrownEvent, IsGrownRunFrom}
use Rattle.roc_grown_serve.specs.ServesGrowing.{AreGrownServerTurnsOver, RunsGrownServer}

-- what the node's server keeps is of the plan that it runs
abbrev pub IsReady : GrownNodeSetting → GrownServerNode → Type 0
IsReady S server_node = GrownServerFits S.plan (Some S.next) server_node.server

-- a node that keeps this, sent these messages, asked this of its link and was stopped or not
abbrev pub node_of : GrownServerNode → List Filed → List LinkEvent → Bool → GrownNodeState
node_of server_node messages traffic stopped = record {
  state = server_node.server;
  messages = messages;
  traffic = traffic;
  heard = server_node.heard;
  counts = server_node.counts;
  stopped = stopped;
}

-- one of which nothing is told but what it keeps
abbrev pub bare : GrownServerNode → GrownNodeState
bare server_node = node_of server_node [] [] false

-- P holds of the node that keeps this, and is to send this
pub record Leads (P : GrownNodeState → Type 0) (server_node : GrownServerNode) (output : TurnOutput) : Type 0 where
  pub messages : List Filed
  pub is : P (node_of server_node messages (map sending output.sends.items) output.stopped)

-- ---- one receive

abbrev pub turn_failed : TurnEnd → Bool
turn_failed LinkFault = true
turn_failed Goes = false
turn_failed Stopped = false
turn_failed NoMemory = false

abbrev pub event_failed : Result TurnOutput TurnEnd → Bool
event_failed (Ok output) = false
event_failed (Err end) = turn_failed end

-- a receive gave an event, and this is what the node makes of it
pub record TakesEvent (S : GrownNodeSetting) (last : List Reception) (old new : GrownServerNode) (output : TurnOutput) : Type 0 where
  pub event : NodeEvent
  pub is : map receiving last ≡ receive_of event ∷ []
  pub leads : Leads (AfterGrownEvent S (bare old) event) new output

-- what came of what a receive gave
abbrev pub ComesOfReceive : GrownNodeSetting → List Reception → (old new : GrownServerNode) → Result TurnOutput TurnEnd → Type 0
ComesOfReceive S last old new (Ok output) = TakesEvent S last old new output
ComesOfReceive S last old new (Err NoMemory) = Unit {0}
ComesOfReceive S last old new (Err LinkFault) = last ≡ vain ∷ []
ComesOfReceive S last old new (Err Goes) = ⊥
ComesOfReceive S last old new (Err Stopped) = ⊥

-- one receive
pub record TakesOne (S : GrownNodeSetting) (old new : GrownServerNode) (link_old link_new : LinkView) (result : Result TurnOutput TurnEnd) : Type 0 where
  pub last : List Reception
  pub one : length last ≤ 1
  pub moves : Moves link_old link_new (map receiving last)
  pub comes : ComesOfReceive S last old new result

-- ---- one turn

-- what comes of giving out what a node made of an event
abbrev pub GivesOut : TurnOutput → (link_old link_new : LinkView) → TurnEnd → Type 0
GivesOut output link_old link_new Goes = (output.stopped ≡ false) × Moves link_old link_new (map sending output.sends.items)
GivesOut output link_old link_new Stopped = (output.stopped ≡ true) × Moves link_old link_new (map sending output.sends.items)
GivesOut output link_old link_new NoMemory = ⊥
GivesOut output link_old link_new LinkFault = ⊥

-- one event led from what a node kept to what it keeps, and what comes of it was sent behind its receive
pub record TurnsOnce (S : GrownNodeSetting) (stopped : Bool) (last : List Reception) (old new : GrownServerNode) (link_old link_new : LinkView) : Type 0 where
  pub event : NodeEvent
  pub is : map receiving last ≡ receive_of event ∷ []
  pub messages : List Filed
  pub traffic : List LinkEvent
  pub leads : AfterGrownEvent S (bare old) event (node_of new messages traffic stopped)
  pub moves : Moves link_old link_new (receive_of event ∷ traffic)

abbrev pub Turns : GrownNodeSetting → TurnEnd → List Reception → (old new : GrownServerNode) → LinkView → LinkView → Type 0
Turns S Goes last old new link_old link_new = TurnsOnce S false last old new link_old link_new
Turns S Stopped last old new link_old link_new = TurnsOnce S true last old new link_old link_new
Turns S NoMemory last old new link_old link_new = Moves link_old link_new (map receiving last)
Turns S LinkFault last old new link_old link_new = (last ≡ vain ∷ []) × Moves link_old link_new (map receiving last)

pub record TakesTurn (S : GrownNodeSetting) (old new : GrownServerNode) (link_old link_new : LinkView) (end : TurnEnd) : Type 0 where
  pub last : List Reception
  pub one : length last ≤ 1
  pub turns : Turns S end last old new link_old link_new

-- ---- several turns

-- so many events, of which none stopped the node, led from the first node to this
pub record RanSo (S : GrownNodeSetting) (first : GrownNodeState) (count : ℕ) (stopped : Bool) (server_node : GrownServerNode) (link_old link_new : LinkView) : Type 0 where
  pub events : List NodeEvent
  pub messages : List Filed
  pub traffic : List LinkEvent
  pub counted : length events ≡ count
  pub run : IsGrownRunFrom S first events (node_of server_node messages traffic stopped)
  pub moves : Moves link_old link_new traffic

abbrev pub run_failed : RunEnd → Bool
run_failed run.LinkFault = true
run_failed (run.Over stopped) = false
run_failed run.NoMemory = false

-- how the turns of a server ended
pub data RunsTurns (S : GrownNodeSetting) (first : GrownNodeState) (turns : ℕ) (counted : GrownServerNode) (link_old link_new : LinkView) : RunEnd → Type 0 where
  are_over : (stopped : Bool) (messages : List Filed) (traffic : List LinkEvent) (events : List NodeEvent) → AreGrownServerTurnsOver turns events (node_of counted messages traffic stopped)
      → RunsGrownServer S first turns [] events (node_of counted messages traffic stopped) link_old link_new
      → RunsTurns S first turns counted link_old link_new (run.Over stopped)
  are_wanted : (events : List NodeEvent) (node : GrownNodeState) (last : List Reception) → length last ≤ 1 → RunsGrownServer S first turns last events node link_old link_new
      → RunsTurns S first turns counted link_old link_new run.NoMemory
  are_cut_off : (events : List NodeEvent) (node : GrownNodeState) → node.stopped ≡ false → length events < turns → RunsGrownServer S first turns (vain ∷ []) events node link_old link_new
      → RunsTurns S first turns counted link_old link_new run.LinkFault

-- ---- the last lines

-- they were written, or a front of them, or nothing
abbrev pub ClosesServe : ServeEnd → List ℕ → Option (List ℕ) → Option (List ℕ) → Type 0
ClosesServe end.Done text old new = Adds old new text
ClosesServe end.SinkFault text old new = AddsFront old new text
ClosesServe end.NoMemory text old new = new ≡ old
ClosesServe end.LinkFault text old new = ⊥
ClosesServe (end.Journal at) text old new = ⊥
ClosesServe end.Full text old new = ⊥
ClosesServe end.Disk text old new = ⊥
ClosesServe end.BookFault text old new = ⊥
