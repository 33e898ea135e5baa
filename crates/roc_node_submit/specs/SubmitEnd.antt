-- How submitting ends, what the link took and the sink: docs/PROTOCOL.md, "Running nodes"
use Rattle.std.specs.Prelude.{◌≡◌, ℕ, ◌+◌, ◌<◌, ◌≤◌, Bool, true, false, List, [], ◌∷◌, ◌++◌, length, map, Option, is_some, if◌then◌else◌}
use Rattle.roc_io.specs.declared.link.Addr.{Addr}
use Rattle.roc_io.specs.Link.{Reception, receiving, vain}
use Rattle.roc_io.specs.Observed.{Adds, AddsThenFront}
use Rattle.roc_program.specs.Program.{Workload}
use Rattle.roc_report.specs.Text.{lines_text as report_text}
use Rattle.roc_sched.specs.declared.line.Request.{Request}
use Rattle.roc_io.specs.Call.{LinkView, NodeCall, SinkCall}
use Rattle.roc_node.specs.Moves.{Moves}
use Rattle.roc_node_submit.specs.declared.ends.SubmitEnd.{SubmitEnd}
use Rattle.roc_node_submit.specs.declared.ends.SubmitEnd.TheVariants.{Done, Unanswered, LinkFault, SinkFault, BookFault, NoMemory}
use Rattle.roc_node.specs.declared.lines.NodeLine.{NodeLine}
use Rattle.roc_node.specs.declared.lines.NodeLine.TheVariants.{Unanswered as UnansweredLine, EndSubmit}
use Rattle.roc_node.specs.NodeEvent.{NodeEvent, receive_of, NodeSetting}
use Rattle.roc_node.specs.NodeLine.{node_lines_text}
use Rattle.roc_book.specs.Call.{BookView, BookCall, Keeps, KeepsFront}
use Rattle.roc_log.specs.declared.line.Log.{Log}
use Rattle.roc_log.specs.LogLine.{node_line_text, lines_text, log_text}
use Rattle.roc_node_submit.specs.CoordRun.{CoordNodeState, IsCoordRun, is_answered, submissions_of, coord_submitted, coord_turn, step_of_event, reply_lines, event_logged}
use Rattle.roc_node_submit.specs.EachAnswered.{AreEachAnswered}

abbrev pub submit_link_failed : SubmitEnd → Bool
submit_link_failed LinkFault = true
submit_link_failed Done = false
submit_link_failed Unanswered = false
submit_link_failed SinkFault = false
submit_link_failed BookFault = false
submit_link_failed NoMemory = false

abbrev pub submit_sink_failed : SubmitEnd → Bool
submit_sink_failed SinkFault = true
submit_sink_failed Done = false
submit_sink_failed Unanswered = false
submit_sink_failed LinkFault = false
submit_sink_failed BookFault = false
submit_sink_failed NoMemory = false

abbrev pub submit_book_failed : SubmitEnd → Bool
submit_book_failed BookFault = true
submit_book_failed Done = false
submit_book_failed Unanswered = false
submit_book_failed LinkFault = false
submit_book_failed SinkFault = false
submit_book_failed NoMemory = false

-- the lines at the end: the ids without a reply, rising, and the counts
abbrev pub closing_node_lines : CoordNodeState → List NodeLine
closing_node_lines node = map UnansweredLine node.state.unanswered ++ EndSubmit node.answered (length node.state.unanswered) (length node.left) ∷ []

abbrev pub closing_text : CoordNodeState → List ℕ
closing_text node = node_lines_text (closing_node_lines node)

-- the text of what a node wrote in its turns
abbrev pub written_text : Workload → CoordNodeState → List ℕ
written_text program node = report_text program node.lines

-- the first line of a node's log
abbrev pub first_logged : NodeSetting → List ℕ
first_logged S = node_line_text S.header.from

-- the log of a node so far
abbrev pub coord_log : NodeSetting → CoordNodeState → Log
coord_log S node = record { tag = S.header.tag; node = S.header.from; lines = node.logged }

abbrev pub logged_text : NodeSetting → CoordNodeState → List ℕ
logged_text S node = log_text S.plan.program (coord_log S node)

-- The book holds the beginning of a log, where one is kept: it was opened under its name, and took the first line
pub record BeginsLog (logs : Bool) (log : Option (List ℕ)) (first : List ℕ) (old new : BookView) : Type 0 where
  pub asked : is_some log ≡ logs
  pub kept : Keeps log (record { old = old; new = new }) first

-- what the turns of a call did to its link, which was bound before, and to its sink
pub record TurnsCall : Type 0 where
  pub old : LinkView
  pub new : LinkView
  pub out : SinkCall

-- those of a call that binds its link first
abbrev pub turns_of : NodeCall → TurnsCall
turns_of call = record { old = call.link.old; new = call.link.new; out = call.out }

-- The node, before or behind the submissions of a turn: `half` tells which
abbrev pub coord_half : NodeSetting → CoordNodeState → (half : Bool) → CoordNodeState
coord_half S node half = if half then coord_submitted S node else node

-- which end it is, once all are answered or all turns were taken
abbrev pub end_of : CoordNodeState → SubmitEnd
end_of node = if is_answered node then Done else Unanswered

-- all are answered, or all turns were taken
abbrev pub AreRequestsOver : (turns : ℕ) → List NodeEvent → CoordNodeState → Type 0
AreRequestsOver turns events node = is_answered node ≡ false → length events ≡ turns

-- Turns end, and what they did until then. Each time the link was asked for the traffic of the node as far as it got, in its order, and the sink
-- for its lines; and where a log is kept under a name, the book has its log as far as it got. What is due goes to the book first, then to the sink,
-- then to the link: so nobody learns of a step that the log lacks. Without a log the book does not
-- fail.
pub data Submits (S : NodeSetting) (number : ℕ) (requests : List Request) (turns : ℕ) (log : Option (List ℕ)) (call : TurnsCall) (book : BookCall) : SubmitEnd → Type 0 where
  -- the receive of a turn failed, behind its submissions
  cut_off : (events : List NodeEvent) (node : CoordNodeState) → IsCoordRun S number requests events node → is_answered node ≡ false → length events < turns
      → Moves call.old call.new ((coord_submitted S node).traffic ++ receiving vain ∷ []) → Adds call.out.old call.out.new (written_text S.plan.program (coord_submitted S node))
      → Keeps log book (logged_text S (coord_submitted S node))
      → Submits S number requests turns log call book LinkFault
  -- Memory was wanting; it may lose the datagram that was taken off last
  wanted : (events : List NodeEvent) (node : CoordNodeState) (half : Bool) (last : List Reception) → IsCoordRun S number requests events node
      → length last ≤ 1 → length events + length last ≤ turns
      → Moves call.old call.new ((coord_half S node half).traffic ++ map receiving last) → Adds call.out.old call.out.new (written_text S.plan.program (coord_half S node half))
      → Keeps log book (logged_text S (coord_half S node half))
      → Submits S number requests turns log call book NoMemory
  -- the book failed at the lines of the submissions before a turn, which then wrote and sent nothing
  unlogged_submissions : (events : List NodeEvent) (node : CoordNodeState) → is_some log ≡ true → IsCoordRun S number requests events node → is_answered node ≡ false → length events < turns
      → Moves call.old call.new node.traffic → Adds call.out.old call.out.new (written_text S.plan.program node)
      → KeepsFront log book (logged_text S node) (lines_text S.plan.program (submissions_of S node).logged)
      → Submits S number requests turns log call book BookFault
  -- the book failed at the lines of a turn's event, which then wrote and sent nothing
  unlogged_event : (events : List NodeEvent) (node : CoordNodeState) (event : NodeEvent) → is_some log ≡ true → IsCoordRun S number requests events node → is_answered node ≡ false
      → length events < turns → Moves call.old call.new ((coord_submitted S node).traffic ++ receive_of event ∷ [])
      → Adds call.out.old call.out.new (written_text S.plan.program (coord_submitted S node))
      → KeepsFront log book (logged_text S (coord_submitted S node)) (lines_text S.plan.program (event_logged S.header event (step_of_event S (coord_submitted S node).state event)))
      → Submits S number requests turns log call book BookFault
  -- the sink failed at the lines of the submissions before a turn, which then sent nothing
  untold_submissions : (events : List NodeEvent) (node : CoordNodeState) → IsCoordRun S number requests events node → is_answered node ≡ false → length events < turns
      → Moves call.old call.new node.traffic
      → AddsThenFront call.out.old call.out.new (written_text S.plan.program node) (report_text S.plan.program (submissions_of S node).lines)
      → Keeps log book (logged_text S (coord_submitted S node))
      → Submits S number requests turns log call book SinkFault
  -- the sink failed at the reply of a turn's event, which then sent nothing
  untold_reply : (events : List NodeEvent) (node : CoordNodeState) (event : NodeEvent) → IsCoordRun S number requests events node → is_answered node ≡ false → length events < turns
      → Moves call.old call.new ((coord_submitted S node).traffic ++ receive_of event ∷ [])
      → AddsThenFront call.out.old call.out.new (written_text S.plan.program (coord_submitted S node))
      (report_text S.plan.program (reply_lines (step_of_event S (coord_submitted S node).state event).answer))
      → Keeps log book (logged_text S (coord_turn S node event))
      → Submits S number requests turns log call book SinkFault
  -- all were answered or all turns were taken, and the sink failed at the last lines
  untold_end : (events : List NodeEvent) (node : CoordNodeState) → IsCoordRun S number requests events node → length events ≤ turns → AreRequestsOver turns events node
      → Moves call.old call.new node.traffic
      → AddsThenFront call.out.old call.out.new (written_text S.plan.program node) (closing_text node)
      → Keeps log book (logged_text S node)
      → Submits S number requests turns log call book SinkFault
  -- all were answered, and so each request has its id and its answer, or all turns were taken; and all lines were written, and the log is whole
  over : (events : List NodeEvent) (node : CoordNodeState) (end : SubmitEnd) → end ≡ end_of node → IsCoordRun S number requests events node → length events ≤ turns
      → AreRequestsOver turns events node → (end ≡ Done → AreEachAnswered S.plan.program number requests node)
      → Moves call.old call.new node.traffic
      → Adds call.out.old call.out.new (written_text S.plan.program node ++ closing_text node)
      → Keeps log book (logged_text S node)
      → Submits S number requests turns log call book end

-- any address of this machine, at any port that is free
abbrev pub any_address : Addr
any_address = record { host = 0 ∷ 0 ∷ 0 ∷ 0 ∷ []; port = 0 }

-- nothing was bound, sent, taken or written
pub record IsUnbound (call : NodeCall) : Type 0 where
  pub bound : call.link.bound_new ≡ call.link.bound_old
  pub moves : Moves call.link.old call.link.new []
  pub out : call.out.new ≡ call.out.old

-- the same, behind a bind, and before that the book is opened and takes the first line of the log, where one is kept
pub data BindsAndSubmits (S : NodeSetting) (number : ℕ) (requests : List Request) (turns : ℕ) (log : Option (List ℕ)) (call : NodeCall) (book : BookCall) : SubmitEnd → Type 0 where
  -- no memory for the first line of the log, which is made before all else
  unready : is_some log ≡ true → IsUnbound call → book.new ≡ book.old → BindsAndSubmits S number requests turns log call book NoMemory
  -- the book was not opened
  unopened : is_some log ≡ true → IsUnbound call → book.new ≡ book.old → BindsAndSubmits S number requests turns log call book BookFault
  -- the book was opened and failed at the first line of the log
  unlogged_node : is_some log ≡ true → IsUnbound call → KeepsFront log book [] (first_logged S) → BindsAndSubmits S number requests turns log call book BookFault
  -- the link was not bound
  unbound : IsUnbound call → Keeps log book (first_logged S) → BindsAndSubmits S number requests turns log call book LinkFault
  bound : (end : SubmitEnd) → Adds call.link.bound_old call.link.bound_new (any_address ∷ []) → Submits S number requests turns log (turns_of call) book end
      → BindsAndSubmits S number requests turns log call book end
