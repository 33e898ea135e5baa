-- The run of a coordinator's node that submits requests, goes over to a grown workload and submits later ones: docs/PROTOCOL.md, "Growth"
use Rattle.std.specs.Prelude.{◌≡◌, ℕ, ℤ, Bool, false, ◌==◌, ◌&&◌, List, [], ◌∷◌, ◌++◌, length, map, Option, Some, None, Result, Ok, Err, if◌then◌else◌}
use Rattle.std.specs.Result.{is_ok}
use Rattle.roc_base.specs.declared.id.TxnId.{TxnId}
use Rattle.roc_epoch.specs.Files.{own_plan}
use Rattle.roc_grown.specs.Coord.{GrownCoordState, GrownSubmission, GrownCoordStep, DrainStep, first_grown_coord, after_drain, after_grown_submit, after_grown_message, unchanged, grown_tick_sends}
use Rattle.roc_grown.specs.declared.handled.GrownAnswer.{GrownAnswer}
use Rattle.roc_grown.specs.declared.handled.GrownAnswer.TheVariants as seen
use Rattle.roc_grown.specs.declared.handled.GrownFault.{GrownFault}
use Rattle.roc_grown_node.specs.Judgement.{grown_judged}
use Rattle.roc_grown_node.specs.Posting.{Filed, filed, grown_packets_for}
use Rattle.roc_grown_node.specs.Setting.{GrownNodeSetting}
use Rattle.roc_grown_node.specs.declared.judging.GrownJudged.{GrownJudged}
use Rattle.roc_grown_node.specs.declared.judging.GrownJudged.TheVariants.{Delivery, Skipped}
use Rattle.roc_io.specs.Cause.{one_more}
use Rattle.roc_io.specs.Link.{LinkEvent, sending}
use Rattle.roc_msg.specs.declared.outbox.Outgoing.{Outgoing}
use Rattle.roc_node.specs.NodeEvent.{NodeEvent, took, silent, receive_of}
use Rattle.roc_node.specs.Posting.{none_heard}
use Rattle.roc_node_submit.specs.CoordRun.{CoordNodeState, is_answered}
use Rattle.roc_plan.specs.Groups.{Plan}
use Rattle.roc_program.specs.LookUps.{procedure_named}
use Rattle.roc_report.specs.Line.{Line, Submit, Answer}
use Rattle.roc_sched.specs.declared.line.Request.{Request}

-- a coordinator's node so far
pub record GrownCoordNodeState : Type 0 where
  -- its core
  pub state : GrownCoordState
  -- the requests of the first file that were not submitted yet
  pub left : List Request
  -- those of the second file
  pub later : List Request
  -- all messages that the core sent, each with its file
  pub messages : List Filed
  -- What it asked of its link, in order: in each turn the datagrams that went out for its drain and its submissions, then the receive, and behind that,
  -- before the next turn, the datagrams for what came of the receive. A coordinator answers nobody, so it keeps no addresses
  pub traffic : List LinkEvent
  -- what it wrote: submissions and answers
  pub lines : List Line
  -- how many transactions and views have their reply
  pub answered : ℕ

-- before any turn
abbrev pub first_grown_coord_node_state : (number : ℕ) → (requests later : List Request) → GrownCoordNodeState
first_grown_coord_node_state number requests later =
    record { state = first_grown_coord number; left = requests; later = later; messages = []; traffic = []; lines = []; answered = 0 }

-- What a node shows that never goes over: what its core keeps, the requests of both files that were not submitted yet, what it sent and wrote, and how many were answered
abbrev pub as_plain : GrownCoordNodeState → CoordNodeState
as_plain node = record {
  state = node.state.core;
  left = node.left ++ node.later;
  messages = map (λ m. m.out) node.messages;
  traffic = node.traffic;
  lines = node.lines;
  logged = [];
  answered = node.answered;
}

-- no request of either file is left, and none is unanswered
abbrev pub are_all_answered : GrownCoordNodeState → Bool
are_all_answered node = is_answered (as_plain node)

-- ---- before a turn

-- what comes of a drain and of submissions: the core after them, the requests left behind them, what is sent, and what is written
pub record GrownSubmissions : Type 0 where
  pub state : GrownCoordState
  pub left : List Request
  pub later : List Request
  pub messages : List Outgoing
  pub lines : List Line

-- nothing came of any yet
abbrev pub none_grown_submitted : GrownCoordNodeState → GrownSubmissions
none_grown_submitted node = record { state = node.state; left = node.left; later = node.later; messages = []; lines = [] }

-- a drain

abbrev pub with_drain : GrownSubmissions → DrainStep → GrownSubmissions
with_drain s d = record s { state = d.state; messages = s.messages ++ d.sends }

-- all requests of the first file are submitted and answered
abbrev pub is_first_answered : GrownSubmissions → Bool
is_first_answered s = length s.left == 0 && length s.state.core.unanswered == 0

-- then it drains. One that drains or has switched does nothing
abbrev pub drained_first : GrownNodeSetting → GrownSubmissions → GrownSubmissions
drained_first S s = if is_first_answered s then with_drain s (after_drain S.plan s.state) else s

-- submissions

-- the plan of the file that a coordinator runs
abbrev pub plan_of_file : GrownNodeSetting → GrownCoordState → Plan
plan_of_file S s = own_plan S.plan (Some S.next) s.switched

abbrev pub grown_submit_lines : (proc : ℕ) → List ℤ → Result TxnId GrownFault → List Line
grown_submit_lines proc args (Ok id) = Submit id proc args ∷ []
grown_submit_lines proc args (Err fault) = []

abbrev pub with_grown_submission : GrownSubmissions → (proc : ℕ) → List ℤ → GrownSubmission → GrownSubmissions
with_grown_submission s proc args sub = record s {
  state = sub.state;
  messages = s.messages ++ sub.sends;
  lines = s.lines ++ grown_submit_lines proc args sub.answer;
}

-- the call of a procedure that a request names; a name of none asks for nothing
abbrev pub grown_submitted_call : GrownNodeSetting → GrownSubmissions → List ℤ → Option ℕ → GrownSubmissions
grown_submitted_call S s args None = s
grown_submitted_call S s args (Some proc) = with_grown_submission s proc args (after_grown_submit S.plan (Some S.next) s.state proc args)

-- a request names a procedure of the file that the coordinator runs
abbrev pub grown_submitted : GrownNodeSetting → GrownSubmissions → Request → GrownSubmissions
grown_submitted S s request = grown_submitted_call S s request.args (procedure_named (plan_of_file S s.state).program request.name)

-- the coordinator accepts the call of the procedure that a request names, and gives it an id; a name of none it cannot accept
abbrev pub grown_accepts_call : GrownNodeSetting → GrownCoordState → List ℤ → Option ℕ → Bool
grown_accepts_call S s args None = false
grown_accepts_call S s args (Some proc) = is_ok (after_grown_submit S.plan (Some S.next) s proc args).answer

abbrev pub grown_accepts : GrownNodeSetting → GrownCoordState → Request → Bool
grown_accepts S s request = grown_accepts_call S s request.args (procedure_named (plan_of_file S s).program request.name)

-- Requests, one after another, until the coordinator refuses one, as it does while sixteen are unanswered, and while it drains. That one is left, with
-- all behind it: so none is passed over
unfoldable pub grown_submitted_all : GrownNodeSetting → GrownSubmissions → List Request → GrownSubmissions
grown_submitted_all S s [] = record s { left = [] }
grown_submitted_all S s (request ∷ rest) =
    if grown_accepts S s.state request then grown_submitted_all S (grown_submitted S s request) rest else record s { left = request ∷ rest }

-- those that are left of the first file
abbrev pub submitted_first : GrownNodeSetting → GrownSubmissions → GrownSubmissions
submitted_first S s = grown_submitted_all S s s.left

-- what is left of these is of the second file
abbrev pub of_later : GrownSubmissions → GrownSubmissions
of_later s = record s { left = []; later = s.left }

-- where it has switched, those of the second file stand behind what is left
abbrev pub submitted_later : GrownNodeSetting → GrownSubmissions → GrownSubmissions
submitted_later S s = if s.state.switched && length s.left == 0 then of_later (grown_submitted_all S s s.later) else s

-- what comes of all that a node does before a turn, in this order
abbrev pub grown_submissions_of : GrownNodeSetting → GrownCoordNodeState → GrownSubmissions
grown_submissions_of S node = submitted_later S (submitted_first S (drained_first S (none_grown_submitted node)))

-- all of it is sent as by a node that has switched as far as it had before
abbrev pub with_grown_submissions : GrownNodeSetting → GrownCoordNodeState → GrownSubmissions → GrownCoordNodeState
with_grown_submissions S node s =
    record node {
      state = s.state;
      left = s.left;
      later = s.later;
      messages = node.messages ++ map (filed s.state.switched) s.messages;
      traffic = node.traffic ++ map sending (grown_packets_for S s.state.switched none_heard s.messages);
      lines = node.lines ++ s.lines;
    }

-- a node that has drained, where it is to, and has made the submissions before a turn
abbrev pub grown_submitted_node : GrownNodeSetting → GrownCoordNodeState → GrownCoordNodeState
grown_submitted_node S node = with_grown_submissions S node (grown_submissions_of S node)

-- ---- events

-- what the core makes of a datagram or of silence: a datagram that is skipped changes nothing, and silence is a tick, at which one that drains tells again
-- that it is drained
abbrev pub grown_step_of_judged : GrownNodeSetting → GrownCoordState → GrownJudged → GrownCoordStep
grown_step_of_judged S s (Delivery header file msg) = after_grown_message S.plan (Some S.next) s file msg
grown_step_of_judged S s (Skipped skip) = unchanged s seen.Skipped

abbrev pub grown_step_of_event : GrownNodeSetting → GrownCoordState → NodeEvent → GrownCoordStep
grown_step_of_event S s (took packet) = grown_step_of_judged S s (grown_judged S s.switched packet.bytes)
grown_step_of_event S s silent = record { answer = seen.Done; state = s; sends = grown_tick_sends S.plan (Some S.next) s }

abbrev pub grown_reply_lines : GrownAnswer → List Line
grown_reply_lines (seen.Answered id reply) = Answer id reply ∷ []
grown_reply_lines seen.Done = []
grown_reply_lines seen.Skipped = []
grown_reply_lines (seen.Ignored reason) = []

abbrev pub grown_answered_then : ℕ → GrownAnswer → ℕ
grown_answered_then n (seen.Answered id reply) = one_more n
grown_answered_then n seen.Done = n
grown_answered_then n seen.Skipped = n
grown_answered_then n (seen.Ignored reason) = n

-- all of it is sent as by a node that has switched as far as it has behind the step
abbrev pub with_grown_step : GrownNodeSetting → GrownCoordNodeState → GrownCoordStep → GrownCoordNodeState
with_grown_step S node r =
    record node {
      state = r.state;
      messages = node.messages ++ map (filed r.state.switched) r.sends;
      traffic = node.traffic ++ map sending (grown_packets_for S r.state.switched none_heard r.sends);
      lines = node.lines ++ grown_reply_lines r.answer;
      answered = grown_answered_then node.answered r.answer;
    }

-- one receive gave an event
abbrev pub grown_coord_received : GrownCoordNodeState → NodeEvent → GrownCoordNodeState
grown_coord_received node event = record node { traffic = node.traffic ++ receive_of event ∷ [] }

-- a node, its submissions made, that takes an event: all that comes of it stands behind its receive
abbrev pub grown_coord_took : GrownNodeSetting → GrownCoordNodeState → NodeEvent → GrownCoordNodeState
grown_coord_took S node event = with_grown_step S (grown_coord_received node event) (grown_step_of_event S node.state event)

-- ---- runs

-- a turn: the drain and the submissions before it, then the receive of its event and what comes of that
abbrev pub grown_coord_turn : GrownNodeSetting → GrownCoordNodeState → NodeEvent → GrownCoordNodeState
grown_coord_turn S node event = grown_coord_took S (grown_submitted_node S node) event

-- The events, one by one, lead from the first node to this one. A node takes no more turns once its drain and its submissions leave all answered
pub data IsGrownCoordRun (S : GrownNodeSetting) (number : ℕ) (requests later : List Request) : List NodeEvent → GrownCoordNodeState → Type 0 where
  begun : IsGrownCoordRun S number requests later [] (first_grown_coord_node_state number requests later)
  goes_on : {events : List NodeEvent} {node : GrownCoordNodeState} (event : NodeEvent)
      → IsGrownCoordRun S number requests later events node → are_all_answered (grown_submitted_node S node) ≡ false
      → IsGrownCoordRun S number requests later (events ++ event ∷ []) (grown_coord_turn S node event)
