-- How submitting ends that goes over to a grown workload, what the link took and the sink: docs/PROTOCOL.md, "Growth"
use Rattle.std.specs.Prelude.{◌≡◌, ℕ, ◌+◌, ◌<◌, ◌≤◌, Bool, true, false, List, [], ◌∷◌, ◌++◌, length, map, if◌then◌else◌}
use Rattle.roc_grown_node.specs.Setting.{GrownNodeSetting}
use Rattle.roc_grown_submit.specs.GrownCoordRun.{GrownCoordNodeState, IsGrownCoordRun, as_plain, are_all_answered, grown_submissions_of, grown_submitted_node, grown_step_of_event, grown_reply_lines}
use Rattle.roc_io.specs.Call.{NodeCall}
use Rattle.roc_io.specs.Link.{Reception, receiving, vain}
use Rattle.roc_io.specs.Observed.{Adds, AddsThenFront}
use Rattle.roc_node.specs.Moves.{Moves}
use Rattle.roc_node.specs.NodeEvent.{NodeEvent, receive_of}
use Rattle.roc_node_submit.specs.EachAnswered.{AreEachAnswered}
use Rattle.roc_node_submit.specs.SubmitEnd.{TurnsCall, turns_of, closing_text, end_of, any_address, IsUnbound}
use Rattle.roc_node_submit.specs.declared.ends.SubmitEnd.{SubmitEnd}
use Rattle.roc_node_submit.specs.declared.ends.SubmitEnd.TheVariants.{Done, LinkFault, SinkFault, NoMemory}
use Rattle.roc_program.specs.Program.{Workload}
use Rattle.roc_report.specs.Text.{lines_text}
use Rattle.roc_sched.specs.declared.line.Request.{Request}

-- the program of the second file names the procedures of both
abbrev pub naming : GrownNodeSetting → Workload
naming S = S.next.plan.program

-- the text of what a node wrote in its turns
abbrev pub grown_written_text : GrownNodeSetting → GrownCoordNodeState → List ℕ
grown_written_text S node = lines_text (naming S) node.lines

-- the lines at the end: the ids without a reply, rising, and the counts, that of requests not submitted over both files
abbrev pub grown_closing_text : GrownCoordNodeState → List ℕ
grown_closing_text node = closing_text (as_plain node)

-- The node, before or behind the drain and the submissions of a turn: `half` tells which
abbrev pub grown_half : GrownNodeSetting → GrownCoordNodeState → (half : Bool) → GrownCoordNodeState
grown_half S node half = if half then grown_submitted_node S node else node

-- all turns were taken; or the drain and the submissions before one leave all answered
abbrev pub AreGrownTurnsOver : GrownNodeSetting → (turns : ℕ) → List NodeEvent → GrownCoordNodeState → (half : Bool) → Type 0
AreGrownTurnsOver S turns events node false = length events ≡ turns
AreGrownTurnsOver S turns events node true = (length events < turns) × (are_all_answered (grown_submitted_node S node) ≡ true)

-- Turns end, and what they did until then. Each time the link was asked for the traffic of the node as far as it got, in its order, and the sink
-- for its lines. What is due goes to the sink first and then to the link
pub data SubmitsGrowing (S : GrownNodeSetting) (number : ℕ) (requests later : List Request) (turns : ℕ) (call : TurnsCall) : SubmitEnd → Type 0 where
  -- the receive of a turn failed, behind its submissions
  cut_off : (events : List NodeEvent) (node : GrownCoordNodeState) → IsGrownCoordRun S number requests later events node → are_all_answered (grown_submitted_node S node) ≡ false
      → length events < turns
      → Moves call.old call.new ((grown_submitted_node S node).traffic ++ receiving vain ∷ []) → Adds call.out.old call.out.new (grown_written_text S (grown_submitted_node S node))
      → SubmitsGrowing S number requests later turns call LinkFault
  -- memory was wanting; it may lose the datagram that was taken off last
  wanted : (events : List NodeEvent) (node : GrownCoordNodeState) (half : Bool) (last : List Reception) → IsGrownCoordRun S number requests later events node
      → length last ≤ 1 → length events + length last ≤ turns
      → Moves call.old call.new ((grown_half S node half).traffic ++ map receiving last) → Adds call.out.old call.out.new (grown_written_text S (grown_half S node half))
      → SubmitsGrowing S number requests later turns call NoMemory
  -- the sink failed at the lines of the submissions before a turn, which then sent nothing
  untold_submissions : (events : List NodeEvent) (node : GrownCoordNodeState) → IsGrownCoordRun S number requests later events node → length events < turns
      → Moves call.old call.new node.traffic
      → AddsThenFront call.out.old call.out.new (grown_written_text S node) (lines_text (naming S) (grown_submissions_of S node).lines)
      → SubmitsGrowing S number requests later turns call SinkFault
  -- the sink failed at the reply of a turn's event, which then sent nothing
  untold_reply : (events : List NodeEvent) (node : GrownCoordNodeState) (event : NodeEvent) → IsGrownCoordRun S number requests later events node
      → are_all_answered (grown_submitted_node S node) ≡ false → length events < turns
      → Moves call.old call.new ((grown_submitted_node S node).traffic ++ receive_of event ∷ [])
      → AddsThenFront call.out.old call.out.new (grown_written_text S (grown_submitted_node S node))
      (lines_text (naming S) (grown_reply_lines (grown_step_of_event S (grown_submitted_node S node).state event).answer))
      → SubmitsGrowing S number requests later turns call SinkFault
  -- the turns are over, and the sink failed at the last lines
  untold_end : (events : List NodeEvent) (node : GrownCoordNodeState) (half : Bool) → IsGrownCoordRun S number requests later events node → AreGrownTurnsOver S turns events node half
      → Moves call.old call.new (grown_half S node half).traffic
      → AddsThenFront call.out.old call.out.new (grown_written_text S (grown_half S node half)) (grown_closing_text (grown_half S node half))
      → SubmitsGrowing S number requests later turns call SinkFault
  -- the turns are over, and all lines were written; where all are answered, each request of both files has its id, in order, and its answer
  over : (events : List NodeEvent) (node : GrownCoordNodeState) (half : Bool) (end : SubmitEnd) → end ≡ end_of (as_plain (grown_half S node half))
      → IsGrownCoordRun S number requests later events node → AreGrownTurnsOver S turns events node half
      → (end ≡ Done → AreEachAnswered (naming S) number (requests ++ later) (as_plain (grown_half S node half)))
      → Moves call.old call.new (grown_half S node half).traffic
      → Adds call.out.old call.out.new (grown_written_text S (grown_half S node half) ++ grown_closing_text (grown_half S node half))
      → SubmitsGrowing S number requests later turns call end

-- the same, behind a bind
pub data BindsAndSubmitsGrowing (S : GrownNodeSetting) (number : ℕ) (requests later : List Request) (turns : ℕ) (call : NodeCall) : SubmitEnd → Type 0 where
  -- the link was not bound
  unbound : IsUnbound call → BindsAndSubmitsGrowing S number requests later turns call LinkFault
  bound : (end : SubmitEnd) → Adds call.link.bound_old call.link.bound_new (any_address ∷ []) → SubmitsGrowing S number requests later turns (turns_of call) end
      → BindsAndSubmitsGrowing S number requests later turns call end
