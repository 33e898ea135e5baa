-- The text of each line of a report: docs/FORMATS.md, "Report"
use Rattle.std.specs.Prelude.{ℕ, ℤ, Bool, List, [], ◌∷◌, ◌++◌, Option, Some, None, codes, if◌then◌else◌}
use Rattle.std.specs.List.{flat_map}
use Rattle.std.specs.Option.{option_to_list}
use Rattle.std.specs.Fmt.{decimal, signed_decimal}
use Rattle.roc_base.specs.declared.id.TxnId.{TxnId}
use Rattle.roc_base.specs.declared.node.Node.TheVariants.{Server, Coord}
use Rattle.roc_base.specs.TxnId.{txn_text}
use Rattle.roc_base.specs.Node.{node_text}
use Rattle.roc_base.specs.Edge.{Dependency}
use Rattle.roc_msg.specs.Reason.{reason_text}
use Rattle.roc_program.specs.Program.{Workload}
use Rattle.roc_program.specs.LookUps.{procedure_name, table_name, column_name}
use Rattle.roc_rows.specs.declared.cell.Cell.{Cell}
use Rattle.roc_report.specs.Line.{MessageKind, Start, StartOk, Commit, CommitOk, Fetch, Known, Stop, Ended, Settled, Read, ReadOk, Drained, Switched, ShownMessage, Line}
use Rattle.roc_report.specs.Line.{Submit, Busy, Spent, Deliver, Nothing, Tick, Stopped, Drain, Draining, NoProc, Skipped, Gone, Ignored, Send, Answer}
use Rattle.roc_report.specs.Line.{Order, Row, Pending, End}

-- a space, and a word behind it
abbrev pub spaced : List ℕ → List ℕ
spaced word = 32 ∷ word

abbrev pub numbers_text : List ℤ → List ℕ
numbers_text numbers = flat_map (λ n. spaced (signed_decimal n)) numbers

abbrev pub ids_text : List TxnId → List ℕ
ids_text ids = flat_map (λ id. spaced (txn_text id)) ids

-- i, d or id
abbrev pub tags_text : Bool → Bool → List ℕ
tags_text imm def = (if imm then codes "i" else []) ++ (if def then codes "d" else [])

-- C.S/T@N
abbrev pub edge_text : Dependency → List ℕ
edge_text d = txn_text d.from ++ codes "/" ++ tags_text d.imm d.def ++ codes "@" ++ decimal d.at.0

abbrev pub edges_text : List Dependency → List ℕ
edges_text edges = flat_map (λ d. spaced (edge_text d)) edges

-- the transactions of facts, each behind a +
abbrev pub facts_text : List TxnId → List ℕ
facts_text facts = flat_map (λ id. spaced (43 ∷ txn_text id)) facts

abbrev pub message_kind_text : MessageKind → List ℕ
message_kind_text Start = codes "start"
message_kind_text StartOk = codes "startok"
message_kind_text Commit = codes "commit"
message_kind_text CommitOk = codes "commitok"
message_kind_text Fetch = codes "fetch"
message_kind_text Known = codes "known"
message_kind_text Stop = codes "stop"
message_kind_text Ended = codes "ended"
message_kind_text Settled = codes "settled"
message_kind_text Read = codes "read"
message_kind_text ReadOk = codes "readok"
message_kind_text Drained = codes "drained"
message_kind_text Switched = codes "switched"

-- KIND C.S FROM TO EDGES FACTS, with a mark as C.BELOW
abbrev pub message_text : ShownMessage → List ℕ
message_text m = message_kind_text m.kind ++ ids_text (option_to_list m.named) ++ spaced (node_text m.from) ++ spaced (node_text m.to) ++ edges_text m.edges ++ facts_text m.facts

-- the integers of an id, a comma before each
abbrev pub key_text : List ℤ → List ℕ
key_text id = flat_map (λ n. codes "," ++ signed_decimal n) id

-- TABLE[PLACE,ID..].COLUMN
abbrev pub cell_text : Workload → Cell → List ℕ
cell_text program c = table_name program c.table ++ codes "[" ++ signed_decimal c.place ++ key_text c.id ++ codes "]." ++ column_name program c.table c.column

-- the message at which a server stopped, if any, and how many of those that come of it were sent, where its record was kept
abbrev pub during_text : Option (ℕ × Option ℕ) → List ℕ
during_text None = []
during_text (Some (number, None)) = spaced (decimal number) ++ codes " none"
during_text (Some (number, Some many)) = spaced (decimal number) ++ spaced (decimal many)

-- a line without its end. What the program does not have has no name.
abbrev pub words_of : Workload → Line → List ℕ
words_of program (Submit id proc args) = codes "submit " ++ txn_text id ++ spaced (procedure_name program proc) ++ numbers_text args
words_of program (Busy coord) = codes "busy " ++ decimal coord
words_of program (Spent coord) = codes "spent " ++ decimal coord
words_of program (Deliver number) = codes "deliver " ++ decimal number
words_of program Nothing = codes "none"
words_of program (Tick node) = codes "tick " ++ node_text node
words_of program (Stopped shard during) = codes "stop " ++ node_text (Server shard) ++ during_text during
words_of program (Drain coord) = codes "drain " ++ node_text (Coord coord)
words_of program (Draining coord) = codes "draining " ++ decimal coord
words_of program (NoProc coord) = codes "noproc " ++ decimal coord
words_of program Skipped = codes "skipped"
words_of program Gone = codes "gone"
words_of program (Ignored reason) = codes "ignored " ++ reason_text reason
words_of program (Send number message) = codes "send " ++ decimal number ++ spaced (message_text message)
words_of program (Answer id reply) = codes "answer " ++ txn_text id ++ numbers_text reply
words_of program (Order ids) = codes "order" ++ ids_text ids
words_of program (Row cell value) = codes "row " ++ cell_text program cell ++ spaced (signed_decimal value)
words_of program (Pending id) = codes "pending " ++ txn_text id
words_of program (End answered pending messages) =
    codes "end " ++ decimal answered ++ codes " answered " ++ decimal pending ++ codes " pending " ++ decimal messages ++ codes " messages"

-- a line, which ends with a line feed
abbrev pub line_text : Workload → Line → List ℕ
line_text program line = words_of program line ++ 10 ∷ []

-- lines, one after another
abbrev pub lines_text : Workload → List Line → List ℕ
lines_text program lines = flat_map (line_text program) lines
