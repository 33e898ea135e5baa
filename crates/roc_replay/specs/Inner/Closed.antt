-- What comes of the closing lines, and of a line that cannot be played
use Rattle.std.specs.Prelude.{◌≡◌, ℕ, ◌-◌, nat_lt, ◌==◌, if◌then◌else◌, not, Bool, false, List, [], ◌∷◌, length, slice_get, Option, Some, None}
use Rattle.roc_base.specs.declared.node.Node.TheVariants.{Server}
use Rattle.roc_base.specs.declared.node.Shard.{Shard}
use Rattle.roc_base.specs.Node.{is_node}
use Rattle.roc_io.specs.Observed.{Adds, AddsFront}
use Rattle.roc_io.specs.Sink.{AddsCut}
use Rattle.roc_msg.specs.declared.msg.Envelope.{Envelope}
use Rattle.roc_program.specs.Program.{Workload}
use Rattle.roc_growth.specs.declared.event.Event.{Event}
use Rattle.roc_growth.specs.declared.event.Event.TheVariants as event
use Rattle.roc_growth.specs.World.{GrownWorld}
use Rattle.roc_report.specs.Line.{End}
use Rattle.roc_report.specs.ReportLine.{HaveSmallNumbers}
use Rattle.roc_report.specs.Text.{lines_text}
use Rattle.roc_replay.specs.declared.asked.Wanted.{Wanted}
use Rattle.roc_replay.specs.declared.asked.Wanted.TheVariants as wanted
use Rattle.roc_replay.specs.declared.ended.Ended.{Ended}
use Rattle.roc_replay.specs.declared.ended.Ended.TheVariants.{Done, Text, SinkFault, NoMemory}
use Rattle.roc_replay.specs.Report.{end_line, closing_lines}

-- the sink took the closing lines of a world, after so many submissions were refused as busy
abbrev pub IsClosed : Workload → GrownWorld → ℕ → Ended → (old new : Option (List ℕ)) → Type 0
IsClosed program w busy (Done summary) old new =
    Adds old new (lines_text program (closing_lines w)) × (end_line w ≡ End summary.answered summary.pending summary.messages) × (summary.busy ≡ busy)
    × HaveSmallNumbers (closing_lines w)
IsClosed program w busy SinkFault old new = AddsFront old new (lines_text program (closing_lines w))
IsClosed program w busy NoMemory old new = new ≡ old
IsClosed program w busy (Text line what) old new = ⊥

-- in one write, of which it took a front where it failed
abbrev pub ClosesReportInPiece : Workload → GrownWorld → Ended → (old new : Option (List (List ℕ))) → Type 0
ClosesReportInPiece program w (Done summary) old new = Adds old new (lines_text program (closing_lines w) ∷ [])
ClosesReportInPiece program w SinkFault old new = AddsCut old new [] (lines_text program (closing_lines w))
ClosesReportInPiece program w NoMemory old new = new ≡ old
ClosesReportInPiece program w (Text line what) old new = ⊥

-- a message, if any, goes to the server of a shard
abbrev pub goes_to : Shard → Option Envelope → Bool
goes_to shard None = false
goes_to shard (Some message) = is_node message.to (Server shard)

-- the message of this number, where these were sent, goes there
abbrev pub is_sent_to : Shard → ℕ → List Envelope → Bool
is_sent_to shard number sent = if number == 0 then false else goes_to shard (slice_get sent (number - 1))

-- the event is the delivery of a message that is not among those that were sent, or a stop at one that was not sent to the server
abbrev pub asks_unsent : Event → List Envelope → Bool
asks_unsent (event.Deliver number) sent = nat_lt (length sent) number
asks_unsent (event.Submit coord proc args) sent = false
asks_unsent (event.Tick node) sent = false
asks_unsent (event.Drain coord) sent = false
asks_unsent (event.Stop shard None) sent = false
asks_unsent (event.Stop shard (Some (number, kept))) sent = not (is_sent_to shard number sent)

-- the same of what a line asks for: a choice takes only what was sent
abbrev pub wants_unsent : Wanted → List Envelope → Bool
wants_unsent (wanted.Event e) sent = asks_unsent e sent
wants_unsent (wanted.Any place) sent = false
