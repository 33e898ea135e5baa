-- What a line of a log is, or what is wrong with it: docs/FORMATS.md, "Logs"
use Rattle.std.specs.Prelude.{ℕ, ℤ, Bool, false, ◌==◌, if◌then◌else◌, List, [], ◌∷◌, length, slice_index_or, Option, Some, None, Result, Ok, Err, codes}
use Rattle.std.specs.List.{list_any}
use Rattle.std.specs.Option.{option_map}
use Rattle.std.specs.Str.{bytes_eq}
use Rattle.roc_base.specs.declared.node.Node.{Node}
use Rattle.roc_base.specs.declared.node.Node.TheVariants.{Server, Coord}
use Rattle.roc_base.specs.Node.{is_node}
use Rattle.roc_program.specs.Program.{Workload}
use Rattle.roc_program.specs.LookUps.{no_procedure, procedure_named, is_view_in}
use Rattle.roc_sched.specs.Each.{◌>>=◌, each}
use Rattle.roc_sched.specs.Numbers.{integer_of, is_name}
use Rattle.roc_sched.specs.Acts.{node_of, is_there}
use Rattle.roc_log.specs.declared.fault.What.{What}
use Rattle.roc_log.specs.declared.fault.What.TheVariants as what
use Rattle.roc_log.specs.declared.line.LogLine.{LogLine}
use Rattle.roc_log.specs.declared.line.LogLine.TheVariants.{Submit, In, Tick, Out, Answer}
use Rattle.roc_log.specs.Words.{exact_words, id_of, datagram_of, is_stop}

-- ---- the first line

-- `node sN` or `node cN`
abbrev pub named_node : (words : List (List ℕ)) → Option Node
named_node [] = None
named_node (word ∷ []) = None
named_node (word ∷ node ∷ []) = if bytes_eq word (codes "node") then node_of node else None
named_node (word ∷ node ∷ other ∷ others) = None

-- the node is one of sixteen coordinators or of so many shards
abbrev pub or_there : (shards : ℕ) → Option Node → Result Node What
or_there shards None = Err what.Word
or_there shards (Some node) = if is_there shards node then Ok node else Err what.Node

-- there is no log of it yet
abbrev pub or_unseen : (seen : List Node) → Result Node What → Result Node What
or_unseen seen (Err fault) = Err fault
or_unseen seen (Ok node) = if list_any (is_node node) seen then Err (what.Twice node) else Ok node

unfoldable pub first_line : (shards : ℕ) (seen : List Node) (line : List ℕ) → Result Node What
first_line shards seen line = or_unseen seen (or_there shards (named_node (exact_words line)))

-- ---- submissions

-- how many arguments the procedure of a number takes
abbrev pub arguments_of : Workload → ℕ → ℕ
arguments_of program proc = (slice_index_or program.procedures proc no_procedure).arguments

-- the procedure is there, takes so many arguments, and is no view
abbrev pub call_of : Workload → Option ℕ → (args : List ℤ) → Result LogLine What
call_of program None args = Err what.Procedure
call_of program (Some proc) args =
    if length args == arguments_of program proc then (if is_view_in program proc then Err what.View else Ok (Submit proc args)) else Err what.Arguments

abbrev pub call_with : Workload → (name : List ℕ) → Option (List ℤ) → Result LogLine What
call_with program name None = Err what.Word
call_with program name (Some args) = call_of program (procedure_named program name) args

-- NAME A1 A2 ..
abbrev pub submission_of : Workload → (words : List (List ℕ)) → Result LogLine What
submission_of program [] = Err what.Word
submission_of program (name ∷ args) = if is_name name then call_with program name (each integer_of args) else Err what.Word

-- ---- lines

-- C.S V1 V2 ..
abbrev pub answer_of : (words : List (List ℕ)) → Option LogLine
answer_of [] = None
answer_of (id ∷ values) = id_of id >>= λ t. each integer_of values >>= λ reply. Some (Answer t reply)

-- HEX
abbrev pub one_datagram : (tag : List ℕ) (words : List (List ℕ)) → Option (List ℕ)
one_datagram tag [] = None
one_datagram tag (word ∷ []) = datagram_of tag word
one_datagram tag (word ∷ other ∷ others) = None

abbrev pub tick_of : (words : List (List ℕ)) → Option LogLine
tick_of [] = Some Tick
tick_of (word ∷ words) = None

abbrev pub or_word : {A : Type 0} → Option A → Result A What
or_word None = Err what.Word
or_word (Some read) = Ok read

-- `submit NAME A..` and `answer C.S V..`, which stand in a coordinator's log alone
abbrev pub coordinator_line : Workload → Node → (word : List ℕ) (words : List (List ℕ)) → Result LogLine What
coordinator_line program (Server shard) word words = Err what.Word
coordinator_line program (Coord number) word words =
    if bytes_eq word (codes "submit") then submission_of program words
    else if bytes_eq word (codes "answer") then or_word (answer_of words)
    else Err what.Word

-- `in HEX`, `tick`, `out HEX`, or a line of a coordinator's log
unfoldable pub line_of : Workload → (tag : List ℕ) → Node → (words : List (List ℕ)) → Result LogLine What
line_of program tag node [] = Err what.Word
line_of program tag node (word ∷ words) =
    if bytes_eq word (codes "in") then or_word (option_map In (one_datagram tag words))
    else if bytes_eq word (codes "tick") then or_word (tick_of words)
    else if bytes_eq word (codes "out") then or_word (option_map Out (one_datagram tag words))
    else coordinator_line program node word words

-- nothing stands behind a Stop that came to a server
abbrev pub ends : Node → LogLine → Bool
ends (Server shard) (In bytes) = is_stop bytes
ends (Server shard) (Submit proc args) = false
ends (Server shard) Tick = false
ends (Server shard) (Out bytes) = false
ends (Server shard) (Answer id reply) = false
ends (Coord number) line = false

-- a line behind the first, where the log has ended before it or has not
abbrev pub further_line : Workload → (tag : List ℕ) → Node → (ended : Bool) (line : List ℕ) → Result LogLine What
further_line program tag node ended line = if ended then Err what.Word else line_of program tag node (exact_words line)
