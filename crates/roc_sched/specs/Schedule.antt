-- Schedules and request files, and their first fault: docs/FORMATS.md, "Schedule" and "Requests".
-- What a text is of is said for any items: `read` tells which item the words of a line are, by the line's number, or why they are none.
use Rattle.std.specs.Prelude.{◌≡◌, ℕ, ◌+◌, ◌<◌, ◌≤◌, nat_lt, not, if◌then◌else◌, List, [], ◌∷◌, ◌++◌, length, filter, Option, Some, None, Result, Ok, Err}
use Rattle.std.specs.List.{enumerate_from}
use Rattle.roc_sched.specs.declared.fault.What.{What}
use Rattle.roc_sched.specs.declared.fault.What.TheVariants.{Limit}
use Rattle.roc_sched.specs.declared.forms.Forms.{Forms}
use Rattle.roc_sched.specs.declared.line.Line.{Line}
use Rattle.roc_sched.specs.declared.line.Request.{Request}
use Rattle.roc_sched.specs.Each.{each}
use Rattle.roc_sched.specs.Lines.{lines_of}
use Rattle.roc_sched.specs.Words.{words_of, is_skipped}
use Rattle.roc_sched.specs.Acts.{line_at, request_at}

abbrev pub most_bytes : ℕ
most_bytes = 8388608

abbrev pub most_lines : ℕ
most_lines = 65536

abbrev pub Reader : Type 0 → Type 0
Reader B = (number : ℕ) → (words : List (List ℕ)) → Result B What

-- the item, where there is one, and what is wrong, where there is none
abbrev pub item_of : {B : Type 0} → Result B What → Option B
item_of (Ok item) = Some item
item_of (Err fault) = None

abbrev pub fault_of : {B : Type 0} → Result B What → Option What
fault_of (Ok item) = None
fault_of (Err fault) = Some fault

-- ---- texts

-- the lines that are not skipped, with their numbers: the first line has this one, and skipped lines count
abbrev pub numbered : ℕ → (lines : List (List ℕ)) → List (ℕ × List ℕ)
numbered first lines = filter (λ line. not (is_skipped line.1)) (enumerate_from first lines)

-- the bytes are a text of these items: bytes and lines are not too many, and each line that is not skipped is one of them, in order
pub record IsTextOfItems {B : Type 0} (read : Reader B) (text : List ℕ) (items : List B) : Type 0 where
  pub size : length text ≤ most_bytes
  pub few_lines : length (lines_of text) ≤ most_lines
  pub written : each (λ line. item_of (read line.0 (words_of line.1))) (numbered 1 (lines_of text)) ≡ Some items

-- ---- faults

-- what is wrong with the line of a number, if anything is: that it is one too many comes first
abbrev pub line_fault : {B : Type 0} → Reader B → ℕ → (line : List ℕ) → Option What
line_fault read number line =
    if nat_lt most_lines number then Some Limit
    else if is_skipped line then None
    else fault_of (read number (words_of line))

-- nothing is wrong with lines, the first of which has this number
abbrev pub AreRight : {B : Type 0} → Reader B → ℕ → (lines : List (List ℕ)) → Type 0
AreRight read number [] = Unit {0}
AreRight read number (line ∷ lines) = (line_fault read number line ≡ None) × AreRight read (number + 1) lines

-- the first line that is wrong, and what is wrong with it; where there are too many bytes, it is the first line
pub data IsFirstWrongLine {B : Type 0} (read : Reader B) (text : List ℕ) : (line : ℕ) → What → Type 0 where
  too_long : most_bytes < length text → IsFirstWrongLine read text 1 Limit
  at_line : (before : List (List ℕ)) (line : List ℕ) (behind : List (List ℕ)) (what : What)
      → length text ≤ most_bytes → lines_of text ≡ before ++ line ∷ behind
      → AreRight read 1 before → line_fault read (1 + length before) line ≡ Some what
      → IsFirstWrongLine read text (1 + length before) what

-- ---- schedules and request files

-- the bytes are a schedule of these lines, of these forms and for so many shards
abbrev pub IsSchedule : Forms → (shards : ℕ) → (text : List ℕ) → List Line → Type 0
IsSchedule forms shards text lines = IsTextOfItems (line_at forms shards) text lines

-- the first fault of bytes that are no schedule
abbrev pub IsScheduleFault : Forms → (shards : ℕ) → (text : List ℕ) → (line : ℕ) → What → Type 0
IsScheduleFault forms shards text line what = IsFirstWrongLine (line_at forms shards) text line what

-- the bytes are a request file of these requests
abbrev pub AreRequests : (text : List ℕ) → List Request → Type 0
AreRequests text requests = IsTextOfItems request_at text requests

-- the first fault of bytes that are none
abbrev pub IsRequestFault : (text : List ℕ) → (line : ℕ) → What → Type 0
IsRequestFault text line what = IsFirstWrongLine request_at text line what
