-- The run of a coordinator's node, which submits requests: docs/PROTOCOL.md, "Running nodes"
use Rattle.std.specs.Prelude.{◌≡◌, ℕ, ℤ, Bool, false, ◌==◌, ◌&&◌, List, [], ◌∷◌, ◌++◌, length, map, Option, Some, None, Result, Ok, Err, if◌then◌else◌}
use Rattle.std.specs.Result.{is_ok}
use Rattle.roc_base.specs.declared.id.TxnId.{TxnId}
use Rattle.roc_io.specs.Cause.{one_more}
use Rattle.roc_io.specs.Link.{LinkEvent, sending}
use Rattle.roc_msg.specs.declared.outbox.Outgoing.{Outgoing}
use Rattle.roc_plan.specs.Groups.{Plan}
use Rattle.roc_program.specs.LookUps.{procedure_named}
use Rattle.roc_report.specs.Line as line
use Rattle.roc_sched.specs.declared.line.Request.{Request}
use Rattle.roc_coord.specs.declared.handled.Handled.{Handled}
use Rattle.roc_coord.specs.declared.handled.Handled.TheVariants.{Done, Answered, Ignored}
use Rattle.roc_coord.specs.declared.handled.SubmitFault.{SubmitFault}
use Rattle.roc_coord.specs.State.{CoordState, CoordStep, first_coord}
use Rattle.roc_coord.specs.Step.{after_message}
use Rattle.roc_coord.specs.Submit.{Submission, after_submit}
use Rattle.roc_coord.specs.Tick.{tick_sends}
use Rattle.roc_wire.specs.declared.header.Header.{Header}
use Rattle.roc_log.specs.declared.line.LogLine.{LogLine}
use Rattle.roc_log.specs.declared.line.LogLine.TheVariants as log
use Rattle.roc_log.specs.Sent.{outs_logged}
use Rattle.roc_node.specs.Judgement.{judged}
use Rattle.roc_node.specs.declared.judging.Judged.{Judged}
use Rattle.roc_node.specs.declared.judging.Judged.TheVariants.{Delivery, Skipped}
use Rattle.roc_node.specs.Posting.{none_heard, packets_for}
use Rattle.roc_node.specs.NodeEvent.{NodeEvent, took, silent, receive_of, NodeSetting}

-- a coordinator's node so far
pub record CoordNodeState : Type 0 where
  -- its core
  pub state : CoordState
  -- the requests that were not submitted yet
  pub left : List Request
  -- all messages that the core sent
  pub messages : List Outgoing
  -- What it asked of its link, in order: in each turn the datagrams that went out for its submissions, then the receive, and behind that, before
  -- the next turn, the datagrams for what came of the receive. A coordinator answers nobody, so it keeps no addresses
  pub traffic : List LinkEvent
  -- what it wrote: submissions and answers
  pub lines : List line.Line
  -- the lines of its log, whether or not it keeps one
  pub logged : List LogLine
  -- how many transactions and views have their reply
  pub answered : ℕ

-- before any turn
abbrev pub first_coord_node_state : (number : ℕ) → List Request → CoordNodeState
first_coord_node_state number requests = record { state = first_coord number; left = requests; messages = []; traffic = []; lines = []; logged = []; answered = 0 }

-- no request is left, and none is unanswered
abbrev pub is_answered : CoordNodeState → Bool
is_answered node = length node.left == 0 && length node.state.unanswered == 0

-- ---- submissions

-- what comes of submissions: the core after them, the requests left behind them, what is sent, what is written, and the lines of the log
pub record Submissions : Type 0 where
  pub state : CoordState
  pub left : List Request
  pub messages : List Outgoing
  pub lines : List line.Line
  pub logged : List LogLine

abbrev pub submit_lines : (proc : ℕ) → List ℤ → Result TxnId SubmitFault → List line.Line
submit_lines proc args (Ok id) = line.Submit id proc args ∷ []
submit_lines proc args (Err fault) = []

-- a submission that was taken, and behind it what it sends; one that was refused is no line
abbrev pub submission_logged : Header → (proc : ℕ) → List ℤ → (sends : List Outgoing) → Result TxnId SubmitFault → List LogLine
submission_logged header proc args sends (Ok id) = log.Submit proc args ∷ outs_logged header sends
submission_logged header proc args sends (Err fault) = []

abbrev pub with_submission : NodeSetting → Submissions → (proc : ℕ) → List ℤ → Submission → Submissions
with_submission S s proc args sub = record {
  state = sub.state;
  left = s.left;
  messages = s.messages ++ sub.sends;
  lines = s.lines ++ submit_lines proc args sub.answer;
  logged = s.logged ++ submission_logged S.header proc args sub.sends sub.answer;
}

-- the call of a procedure that a request names; a name of none asks for nothing
abbrev pub submitted_call : NodeSetting → Submissions → List ℤ → Option ℕ → Submissions
submitted_call S s args None = s
submitted_call S s args (Some proc) = with_submission S s proc args (after_submit S.plan s.state proc args)

abbrev pub submitted : NodeSetting → Submissions → Request → Submissions
submitted S s request = submitted_call S s request.args (procedure_named S.plan.program request.name)

-- the coordinator accepts the call of the procedure that a request names, and gives it an id; a name of none it cannot accept
abbrev pub accepts_call : Plan → CoordState → List ℤ → Option ℕ → Bool
accepts_call plan s args None = false
accepts_call plan s args (Some proc) = is_ok (after_submit plan s proc args).answer

abbrev pub accepts : Plan → CoordState → Request → Bool
accepts plan s request = accepts_call plan s request.args (procedure_named plan.program request.name)

-- Requests, one after another, until the coordinator refuses one, as it does while sixteen are unanswered. That one is left, with all behind it:
-- so none is passed over
unfoldable pub submitted_all : NodeSetting → Submissions → List Request → Submissions
submitted_all S s [] = record s { left = [] }
submitted_all S s (request ∷ rest) = if accepts S.plan s.state request then submitted_all S (submitted S s request) rest else record s { left = request ∷ rest }

-- none of the requests was submitted
abbrev pub none_submitted : CoordState → Submissions
none_submitted state = record { state = state; left = []; messages = []; lines = []; logged = [] }

-- what comes of the submissions before a turn
abbrev pub submissions_of : NodeSetting → CoordNodeState → Submissions
submissions_of S node = submitted_all S (none_submitted node.state) node.left

abbrev pub with_submissions : NodeSetting → CoordNodeState → Submissions → CoordNodeState
with_submissions S node s =
    record node {
      state = s.state;
      left = s.left;
      messages = node.messages ++ s.messages;
      traffic = node.traffic ++ map sending (packets_for S.header S.cluster none_heard s.messages);
      lines = node.lines ++ s.lines;
      logged = node.logged ++ s.logged;
    }

-- a node that has made the submissions before a turn
abbrev pub coord_submitted : NodeSetting → CoordNodeState → CoordNodeState
coord_submitted S node = with_submissions S node (submissions_of S node)

-- ---- events

-- what the core makes of a datagram or of silence: a datagram that is skipped changes nothing, and silence is a tick
abbrev pub step_of_judged : Plan → CoordState → Judged → CoordStep
step_of_judged plan s (Delivery header msg) = after_message plan s msg
step_of_judged plan s (Skipped skip) = record { answer = Done; state = s; sends = [] }

abbrev pub step_of_event : NodeSetting → CoordState → NodeEvent → CoordStep
step_of_event S s (took packet) = step_of_judged S.plan s (judged S.header.tag packet.bytes)
step_of_event S s silent = record { answer = Done; state = s; sends = tick_sends S.plan s }

abbrev pub reply_lines : Handled → List line.Line
reply_lines Done = []
reply_lines (Answered id reply) = line.Answer id reply ∷ []
reply_lines (Ignored reason) = []

abbrev pub answered_then : ℕ → Handled → ℕ
answered_then n Done = n
answered_then n (Answered id reply) = one_more n
answered_then n (Ignored reason) = n

-- the line of an answer, where there is one
abbrev pub reply_logged : Handled → List LogLine
reply_logged Done = []
reply_logged (Answered id reply) = log.Answer id reply ∷ []
reply_logged (Ignored reason) = []

-- A datagram that was taken, behind it what the step sends, and then its answer; one that is skipped is no line
abbrev pub datagram_logged : Header → (bytes : List ℕ) → CoordStep → Judged → List LogLine
datagram_logged header bytes r (Delivery from msg) = log.In bytes ∷ (outs_logged header r.sends ++ reply_logged r.answer)
datagram_logged header bytes r (Skipped skip) = []

-- the lines of an event of which this step came
abbrev pub event_logged : Header → NodeEvent → CoordStep → List LogLine
event_logged header (took packet) r = datagram_logged header packet.bytes r (judged header.tag packet.bytes)
event_logged header silent r = log.Tick ∷ outs_logged header r.sends

abbrev pub with_step : NodeSetting → CoordNodeState → NodeEvent → CoordStep → CoordNodeState
with_step S node event r =
    record node {
      state = r.state;
      messages = node.messages ++ r.sends;
      traffic = node.traffic ++ map sending (packets_for S.header S.cluster none_heard r.sends);
      lines = node.lines ++ reply_lines r.answer;
      logged = node.logged ++ event_logged S.header event r;
      answered = answered_then node.answered r.answer;
    }

-- one receive gave an event
abbrev pub coord_received : CoordNodeState → NodeEvent → CoordNodeState
coord_received node event = record node { traffic = node.traffic ++ receive_of event ∷ [] }

-- a node, its submissions made, that takes an event: all that comes of it stands behind its receive
abbrev pub coord_took : NodeSetting → CoordNodeState → NodeEvent → CoordNodeState
coord_took S node event = with_step S (coord_received node event) event (step_of_event S node.state event)

-- ---- runs

-- a turn: the submissions before it, then the receive of its event and what comes of that
abbrev pub coord_turn : NodeSetting → CoordNodeState → NodeEvent → CoordNodeState
coord_turn S node event = coord_took S (coord_submitted S node) event

-- the events, one by one, lead from the first node to this one; a node with all answered takes no more turns
pub data IsCoordRun (S : NodeSetting) (number : ℕ) (requests : List Request) : List NodeEvent → CoordNodeState → Type 0 where
  begun : IsCoordRun S number requests [] (first_coord_node_state number requests)
  goes_on : {events : List NodeEvent} {node : CoordNodeState} (event : NodeEvent)
      → IsCoordRun S number requests events node → is_answered node ≡ false → IsCoordRun S number requests (events ++ event ∷ []) (coord_turn S node event)
