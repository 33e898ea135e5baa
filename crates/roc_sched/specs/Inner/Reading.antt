-- What the reader's functions give, step by step
use Rattle.std.specs.Prelude.{◌≡◌, ℕ, ◌+◌, ◌-◌, ◌*◌, ◌<◌, nat_le, nat_lt, Bool, false, not, ◌&&◌, ◌||◌, ◌==◌, if◌then◌else◌, List, [], ◌∷◌}
use Rattle.std.specs.Prelude.{length, map, Option, Some, None, Result, Ok, Err}
use Rattle.std.specs.Borrow.{Bor}
use Rattle.std.specs.List.{fold, list_all}
use Rattle.std.specs.Char.{is_ascii_digit}
use Rattle.roc_base.specs.declared.node.Node.{Node}
use Rattle.roc_sched.specs.declared.fault.LineFault.{LineFault}
use Rattle.roc_sched.specs.declared.fault.LineFault.TheVariants as line
use Rattle.roc_sched.specs.declared.fault.TextFault.{TextFault}
use Rattle.roc_sched.specs.declared.fault.TextFault.TheVariants.{At, NoMemory}
use Rattle.roc_sched.specs.declared.fault.What.{What}
use Rattle.roc_sched.specs.declared.fault.What.TheVariants.{Limit}
use Rattle.roc_sched.specs.declared.fault.What.TheVariants as what
use Rattle.roc_sched.specs.Lines.{is_empty, parts_of, lines_of}
use Rattle.roc_sched.specs.Words.{words_of, is_skipped}
use Rattle.roc_sched.specs.Acts.{is_among}
use Rattle.roc_sched.specs.Schedule.{most_bytes, most_lines, Reader}

-- what a function on words returned is what reading them gives, unless memory ran out
abbrev pub Gives : {X : Type 0} → Result X LineFault → Result X What → Type 0
Gives (Ok x) read = read ≡ Ok x
Gives (Err (line.Is fault)) read = read ≡ Err fault
Gives (Err line.NoMemory) read = Unit {0}

-- the same of a function on lines, whose faults have their line
abbrev pub GivesAt : {X Y : Type 0} → (X → Y) → Result X TextFault → Result Y (ℕ × What) → Type 0
GivesAt view (Ok x) read = read ≡ Ok (view x)
GivesAt view (Err (At number fault)) read = read ≡ Err (number, fault)
GivesAt view (Err NoMemory) read = Unit {0}

-- a fault of words at the line of a number
abbrev pub with_line_number : ℕ → LineFault → TextFault
with_line_number number (line.Is fault) = At number fault
with_line_number number line.NoMemory = NoMemory

-- ---- parts, lines and words

-- lists of bytes without where they lie in memory
abbrev pub views : List (Bor (List ℕ)) → List (List ℕ)
views parts = map (λ part. part.now) parts

-- the parts behind a separator, if there is one
abbrev pub parts_behind : ℕ → Option (Bor (List ℕ)) → List (List ℕ)
parts_behind separator None = []
parts_behind separator (Some rest) = parts_of separator rest.now

-- what is left has fewer bytes than that
abbrev pub IsShorter : ℕ → Option (Bor (List ℕ)) → Type 0
IsShorter size None = Unit {0}
IsShorter size (Some rest) = length rest.now < size

-- a line and those of the bytes behind it, if there is one
abbrev pub lines_from : Option (Bor (List ℕ) × Bor (List ℕ)) → List (List ℕ)
lines_from None = []
lines_from (Some x) = x.0.now ∷ lines_of x.1.now

-- a fault before any line was read: there are too many bytes
abbrev pub IsTooLong : List ℕ → TextFault → Type 0
IsTooLong text (At number fault) = (number ≡ 1) × (fault ≡ Limit) × (most_bytes < length text)
IsTooLong text NoMemory = Unit {0}

-- ---- numbers

-- a number and one more digit
abbrev pub with_digit : ℕ → ℕ → ℕ
with_digit n d = n * 10 + (d - 48)

-- the number of digits behind those of a number, up to a greatest one
abbrev pub digits_onto : (greatest value : ℕ) → (digits : List ℕ) → Option ℕ
digits_onto greatest value digits = if list_all is_ascii_digit digits && nat_le (fold with_digit value digits) greatest then Some (fold with_digit value digits) else None

-- a first digit that is no zero before others
abbrev pub begins_number : List ℕ → Bool
begins_number [] = false
begins_number (d ∷ ds) = is_empty ds || not (d == 48)

-- ---- nodes

-- what a word names, where it is there
abbrev pub or_no_node : (coords shards : ℕ) → Result Node What → Result Node What
or_no_node coords shards (Ok node) = if is_among coords shards node then Ok node else Err what.Node
or_no_node coords shards (Err fault) = Err fault

-- ---- lines

-- what words are, at the line of a number
abbrev pub some_at : {B : Type 0} → ℕ → Result B What → Result (Option B) (ℕ × What)
some_at number (Ok item) = Ok (Some item)
some_at number (Err fault) = Err (number, fault)

-- the words of a line, where it is not skipped
abbrev pub line_words : (number : ℕ) (line : List ℕ) → Result (Option (List (List ℕ))) (ℕ × What)
line_words number line =
    if nat_lt most_lines number then Err (number, Limit)
    else if is_skipped line then Ok None
    else Ok (Some (words_of line))

-- the item of a line, where it is not skipped
abbrev pub line_item : {B : Type 0} → Reader B → (number : ℕ) (line : List ℕ) → Result (Option B) (ℕ × What)
line_item read number line =
    if nat_lt most_lines number then Err (number, Limit)
    else if is_skipped line then Ok None
    else some_at number (read number (words_of line))

-- an item and those behind it
abbrev pub before_items : {B : Type 0} → Result (Option B) (ℕ × What) → Result (List B) (ℕ × What) → Result (List B) (ℕ × What)
before_items (Err fault) behind = Err fault
before_items (Ok None) behind = behind
before_items (Ok (Some item)) (Ok items) = Ok (item ∷ items)
before_items (Ok (Some item)) (Err fault) = Err fault

-- the items of lines, the first of which has this number, or their first fault
abbrev pub line_items : {B : Type 0} → Reader B → (number : ℕ) → (lines : List (List ℕ)) → Result (List B) (ℕ × What)
line_items read number [] = Ok []
line_items read number (line ∷ lines) = before_items (line_item read number line) (line_items read (number + 1) lines)

-- the items of a text, or its first fault
unfoldable pub text_items : {B : Type 0} → Reader B → (text : List ℕ) → Result (List B) (ℕ × What)
text_items read text = if nat_le (length text) most_bytes then line_items read 1 (lines_of text) else Err (1, Limit)
