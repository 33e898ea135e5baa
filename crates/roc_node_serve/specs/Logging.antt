-- What serving a shard leaves of its log: docs/FORMATS.md, "Logs"
use Rattle.std.specs.Prelude.{◌≡◌, ◌⊎◌, ℕ, false, List, [], ◌∷◌, ◌++◌, map, Option, Some, None}
use Rattle.roc_base.specs.declared.node.Node.TheVariants.{Server}
use Rattle.roc_base.specs.declared.node.Shard.{Shard}
use Rattle.roc_book.specs.Call.{BookCall, Keeps, KeepsFront}
use Rattle.roc_io.specs.Link.{Reception, receiving}
use Rattle.roc_log.specs.declared.line.Log.{Log}
use Rattle.roc_log.specs.declared.line.LogLine.{LogLine}
use Rattle.roc_log.specs.LogLine.{lines_text, log_text}
use Rattle.roc_node.specs.NodeEvent.{NodeEvent, NodeSetting, receive_of}
use Rattle.roc_node_serve.specs.declared.ends.ServeEnd.{ServeEnd}
use Rattle.roc_node_serve.specs.declared.ends.ServeEnd.TheVariants.{NoMemory, BookFault}
use Rattle.roc_node_serve.specs.ServerRun.{ServerNodeState, AfterTurn}
use Rattle.roc_node_serve.specs.ServeEnd.{Reached, unbegun, behind, filled_at, amid, serve_book_failed}

-- the log of a shard's node
abbrev pub server_log : NodeSetting → Shard → ServerNodeState → Log
server_log S shard node = record { tag = S.header.tag; node = Server shard; lines = node.logged }

abbrev pub server_log_text : NodeSetting → Shard → ServerNodeState → List ℕ
server_log_text S shard node = log_text S.plan.program (server_log S shard node)

-- How far the log of a call came
pub data LogReached : Type 0 where
  -- no book was opened
  log_unopened : LogReached
  -- the book failed at its open, or at what this node logs before any turn
  log_begins : ServerNodeState → LogReached
  -- it has all lines of this node
  log_holds : ServerNodeState → LogReached
  -- and then it failed, at the lines of the event that a receive gave
  log_cut : ServerNodeState → List Reception → LogReached

-- The book is opened once there is a node, and behind the first texts. So it was not where memory was wanting before any event, and where it was
-- wanting later the log ends with an event.
abbrev pub log_reached : Reached → ServeEnd → LogReached
log_reached unbegun end = log_unopened
log_reached (behind events node) NoMemory = log_unopened
log_reached (behind events node) BookFault = log_begins node
log_reached (filled_at events node header msg) BookFault = log_begins node
log_reached (amid events node last) BookFault = log_cut node last
log_reached (behind events node) end = log_holds node
log_reached (filled_at events node header msg) end = log_holds node
log_reached (amid events node last) end = log_holds node

-- The book of a name took the log of a node, and behind it a front of the lines of the event that a receive gave.
pub record CutsLog (name : List ℕ) (book : BookCall) (S : NodeSetting) (shard : Shard) (node : ServerNodeState) (last : List Reception) : Type 0 where
  pub event : NodeEvent
  pub is : map receiving last ≡ receive_of event ∷ []
  pub next : ServerNodeState
  pub after : AfterTurn S node event next
  pub lines : List LogLine
  pub adds : next.logged ≡ node.logged ++ lines
  pub keeps : KeepsFront (Some name) book (server_log_text S shard node) (lines_text S.plan.program lines)

-- what the book of a name took
abbrev pub LogsUnder : (name : List ℕ) → BookCall → NodeSetting → Shard → LogReached → Type 0
LogsUnder name book S shard log_unopened = book.new ≡ book.old
LogsUnder name book S shard (log_begins node) = (book.new ≡ book.old) ⊎ KeepsFront (Some name) book [] (server_log_text S shard node)
LogsUnder name book S shard (log_holds node) = Keeps (Some name) book (server_log_text S shard node)
LogsUnder name book S shard (log_cut node last) = CutsLog name book S shard node last

-- what a call that came so far and ended so leaves of its log; without one the book is as it was, and did not fail
abbrev pub KeepsLog : (log : Option (List ℕ)) → BookCall → NodeSetting → Shard → Reached → ServeEnd → Type 0
KeepsLog None book S shard reached end = (book.new ≡ book.old) × (serve_book_failed end ≡ false)
KeepsLog (Some name) book S shard reached end = LogsUnder name book S shard (log_reached reached end)
