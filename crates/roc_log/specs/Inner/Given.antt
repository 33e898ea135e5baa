-- What the functions of the reader give
use Rattle.std.specs.Prelude.{◌≡◌, ℕ, ◌+◌, Bool, true, false, List, [], ◌∷◌, map, Result, Ok, Err, if◌then◌else◌}
use Rattle.std.specs.Borrow.{Bor}
use Rattle.roc_base.specs.declared.node.Node.{Node}
use Rattle.roc_base.specs.declared.node.Node.TheVariants.{Server, Coord}
use Rattle.roc_program.specs.Program.{Workload}
use Rattle.roc_log.specs.declared.fault.What.{What}
use Rattle.roc_log.specs.declared.fault.What.TheVariants.{Word}
use Rattle.roc_log.specs.declared.fault.LineFault.{LineFault}
use Rattle.roc_log.specs.declared.fault.LineFault.TheVariants as line
use Rattle.roc_log.specs.declared.fault.LogFault.{LogFault}
use Rattle.roc_log.specs.declared.fault.LogFault.TheVariants.{At, NoMemory}
use Rattle.roc_log.specs.declared.line.LogLine.{LogLine}
use Rattle.roc_log.specs.declared.line.Log.{Log}
use Rattle.roc_log.specs.Words.{is_datagram, is_stop}
use Rattle.roc_log.specs.Reading.{first_line, further_line, ends}

-- what a function on words returned, seen by `view`, is what reading them gives, unless memory ran out
abbrev pub Gives : {X Y : Type 0} → (X → Y) → Result X LineFault → Result Y What → Type 0
Gives view (Ok x) read = read ≡ Ok (view x)
Gives view (Err (line.Is fault)) read = read ≡ Err fault
Gives view (Err line.NoMemory) read = Unit {0}

-- the same of a function on lines, whose faults have their line
abbrev pub GivesAt : {X : Type 0} → Result X LogFault → Result X (ℕ × What) → Type 0
GivesAt (Ok x) read = read ≡ Ok x
GivesAt (Err (At number fault)) read = read ≡ Err (number, fault)
GivesAt (Err NoMemory) read = Unit {0}

-- a fault of words at the line of a number
abbrev pub with_line_number : ℕ → LineFault → LogFault
with_line_number number (line.Is fault) = At number fault
with_line_number number line.NoMemory = NoMemory

-- lists of bytes without where they lie in memory
abbrev pub views : List (Bor (List ℕ)) → List (List ℕ)
views parts = map (λ part. part.now) parts

abbrev pub is_server : Node → Bool
is_server (Server shard) = true
is_server (Coord number) = false

-- the bytes are a datagram of the workload; and whether it is a Stop
abbrev pub judged : (tag bytes : List ℕ) → Result Bool What
judged tag bytes = if is_datagram tag bytes then Ok (is_stop bytes) else Err Word

-- ---- lines one after the other

abbrev pub onto : LogLine → Result (List LogLine) (ℕ × What) → Result (List LogLine) (ℕ × What)
onto read (Ok reads) = Ok (read ∷ reads)
onto read (Err fault) = Err fault

-- a line of this number, and what stands behind it
abbrev pub before_lines : (number : ℕ) → Result LogLine What → (LogLine → Result (List LogLine) (ℕ × What)) → Result (List LogLine) (ℕ × What)
before_lines number (Err fault) behind = Err (number, fault)
before_lines number (Ok read) behind = onto read (behind read)

-- the lines, the first of which has this number, or their first fault
abbrev pub lines_read : Workload → (tag : List ℕ) → Node → (ended : Bool) (number : ℕ) → (lines : List (List ℕ)) → Result (List LogLine) (ℕ × What)
lines_read program tag node ended number [] = Ok []
lines_read program tag node ended number (line ∷ lines) =
    before_lines number (further_line program tag node ended line) (λ read. lines_read program tag node (ends node read) (number + 1) lines)

abbrev pub with_node : (tag : List ℕ) → Node → Result (List LogLine) (ℕ × What) → Result Log (ℕ × What)
with_node tag node (Ok reads) = Ok (record { tag = tag; node = node; lines = reads })
with_node tag node (Err fault) = Err fault

abbrev pub behind_node : Workload → (tag : List ℕ) → Result Node What → (further : List (List ℕ)) → Result Log (ℕ × What)
behind_node program tag (Err fault) further = Err (1, fault)
behind_node program tag (Ok node) further = with_node tag node (lines_read program tag node false 2 further)

abbrev pub log_of_lines : Workload → (tag : List ℕ) (seen : List Node) (lines : List (List ℕ)) → Result Log (ℕ × What)
log_of_lines program tag seen [] = Err (1, Word)
log_of_lines program tag seen (first ∷ further) = behind_node program tag (first_line program.shards seen first) further
