-- The line that a line of the code shows, without what it borrows from
use Rattle.std.specs.Prelude.{List, [], map, Option, Some}
use Rattle.roc_base.specs.declared.id.TxnId.{TxnId}
use Rattle.roc_base.specs.Edge.{Dependency}
use Rattle.roc_msg.specs.declared.msg.Msg.{Msg}
use Rattle.roc_msg.specs.declared.msg.Msg.TheVariants as msg
use Rattle.roc_msg.specs.declared.msg.Envelope.{Envelope}
use Rattle.roc_msg.specs.Msg.{id_of}
use Rattle.roc_report.specs.declared.line.ReportLine.{ReportLine}
use Rattle.roc_report.specs.declared.line.ReportLine.TheVariants.{Submit, Busy, Spent, Deliver, Nothing, Tick, Stopped, Drain, Draining, NoProc, Skipped, Gone, Ignored, Send, Answer, Order, Row, Pending, End}
use Rattle.roc_report.specs.declared.line.CheckLine.{CheckLine}
use Rattle.roc_report.specs.declared.line.CheckLine.TheVariants.{Shards, Proc, Piece, Group, Conflict, Accepted, Apart, Blocked}
use Rattle.roc_report.specs.Checked as checked
use Rattle.roc_report.specs.Line as pure

-- ---- messages

abbrev pub message_kind : Msg → pure.MessageKind
message_kind (msg.Start id proc group args inputs) = pure.Start
message_kind (msg.StartOk id group shard bound outs edges facts) = pure.StartOk
message_kind (msg.Commit id edges facts) = pure.Commit
message_kind (msg.CommitOk id shard outs) = pure.CommitOk
message_kind (msg.Fetch id asker) = pure.Fetch
message_kind (msg.Known id edges) = pure.Known
message_kind msg.Stop = pure.Stop
message_kind (msg.Ended coord below) = pure.Ended
message_kind (msg.Settled id below) = pure.Settled
message_kind (msg.Read id round proc group args) = pure.Read
message_kind (msg.ReadOk id round group shard versions outs) = pure.ReadOk
message_kind (msg.Drained upto) = pure.Drained
message_kind (msg.Switched upto shard) = pure.Switched

-- what stands in the id's place: the transaction that a message is of, or the mark that it tells
abbrev pub named_by : Msg → Option TxnId
named_by (msg.Ended coord below) = Some (record { coord = coord; seq = below })
named_by (msg.Drained upto) = Some upto
named_by (msg.Switched upto shard) = Some upto
named_by m = id_of m

-- the edges that a message tells of its own transaction
abbrev pub edges_of : Msg → List Dependency
edges_of (msg.StartOk id group shard bound outs edges facts) = edges
edges_of (msg.Commit id edges facts) = edges
edges_of (msg.Known id edges) = edges
edges_of m = []

-- the transactions whose lists travel along
abbrev pub facts_of : Msg → List TxnId
facts_of (msg.StartOk id group shard bound outs edges facts) = map (λ fact. fact.of) facts
facts_of (msg.Commit id edges facts) = map (λ fact. fact.of) facts
facts_of m = []

abbrev pub shown_message : Envelope → pure.ShownMessage
shown_message s = record { kind = message_kind s.msg; named = named_by s.msg; from = s.from; to = s.to; edges = edges_of s.msg; facts = facts_of s.msg }

-- ---- lines

abbrev pub shown : ReportLine → pure.Line
shown (Submit id proc args) = pure.Submit id proc args.now
shown (Busy coord) = pure.Busy coord
shown (Spent coord) = pure.Spent coord
shown (Deliver number) = pure.Deliver number
shown Nothing = pure.Nothing
shown (Tick node) = pure.Tick node
shown (Stopped shard during) = pure.Stopped shard during
shown (Drain coord) = pure.Drain coord
shown (Draining coord) = pure.Draining coord
shown (NoProc coord) = pure.NoProc coord
shown Skipped = pure.Skipped
shown Gone = pure.Gone
shown (Ignored reason) = pure.Ignored reason
shown (Send number sent) = pure.Send number (shown_message sent.now)
shown (Answer id reply) = pure.Answer id reply.now
shown (Order ids) = pure.Order ids.now
shown (Row cell value) = pure.Row cell.now value
shown (Pending id) = pure.Pending id
shown (End answered pending messages) = pure.End answered pending messages

abbrev pub shown_check : CheckLine → checked.CheckedLine
shown_check (Shards count) = checked.Shards count
shown_check (Proc proc) = checked.Proc proc
shown_check (Piece id standing) = checked.Piece id standing
shown_check (Group proc number is_immediate pieces) = checked.Group proc number is_immediate pieces.now
shown_check (Conflict first second) = checked.Conflict first second
shown_check Accepted = checked.Accepted
shown_check (Apart p q cycle) = checked.Apart p q cycle.now
shown_check (Blocked p q x cycle) = checked.Blocked p q x cycle.now
