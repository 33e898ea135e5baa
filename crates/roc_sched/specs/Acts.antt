-- What a line asks for, and whether its node is there: docs/FORMATS.md, "Schedule" and "Requests".
use Rattle.std.specs.Prelude.{ℕ, nat_lt, Bool, true, ◌==◌, if◌then◌else◌, List, [], ◌∷◌, Option, Some, None, Result, Ok, Err}
use Rattle.std.specs.Option.{option_map}
use Rattle.std.specs.Str.{bytes_eq}
use lib.Chars.{codes}
use Rattle.roc_base.specs.declared.node.Node.{Node}
use Rattle.roc_base.specs.declared.node.Node.TheVariants.{Server, Coord}
use Rattle.roc_base.specs.declared.node.Shard.{Shard}
use Rattle.roc_sched.specs.declared.fault.What.{What}
use Rattle.roc_sched.specs.declared.fault.What.TheVariants as what
use Rattle.roc_sched.specs.declared.forms.Forms.{Forms}
use Rattle.roc_sched.specs.declared.line.Act.{Act}
use Rattle.roc_sched.specs.declared.line.Act.TheVariants.{Submit, Deliver, Any, Tick, Stop, Drain}
use Rattle.roc_sched.specs.declared.line.Line.{Line}
use Rattle.roc_sched.specs.declared.line.Request.{Request}
use Rattle.roc_sched.specs.Each.{◌>>=◌, each}
use Rattle.roc_sched.specs.Forms.{coordinators}
use Rattle.roc_sched.specs.Numbers.{node_number, message_of, choice_number, integer_of, is_name}

-- ---- what words ask for, whichever nodes there are

-- C NAME A1 A2 ..
abbrev pub submission_of : (words : List (List ℕ)) → Option Act
submission_of [] = None
submission_of (coord ∷ []) = None
submission_of (coord ∷ name ∷ args) = if is_name name then (node_number coord >>= λ c. each integer_of args >>= λ numbers. Some (Submit c name numbers)) else None

-- K
abbrev pub delivery_of : (words : List (List ℕ)) → Option Act
delivery_of [] = None
delivery_of (message ∷ []) = option_map Deliver (message_of message)
delivery_of (message ∷ other ∷ others) = None

-- J
abbrev pub choice_of : (words : List (List ℕ)) → Option Act
choice_of [] = None
choice_of (place ∷ []) = option_map Any (choice_number place)
choice_of (place ∷ other ∷ others) = None

abbrev pub server_of : ℕ → Node
server_of n = Server (record { 0 = n })

-- sN or cN
unfoldable pub node_of : (word : List ℕ) → Option Node
node_of [] = None
node_of (letter ∷ number) =
    if letter == 115 then option_map server_of (node_number number)
    else if letter == 99 then option_map Coord (node_number number)
    else None

abbrev pub tick_of : (words : List (List ℕ)) → Option Act
tick_of [] = None
tick_of (node ∷ []) = option_map Tick (node_of node)
tick_of (node ∷ other ∷ others) = None

-- the number of sN
unfoldable pub server_number : (word : List ℕ) → Option ℕ
server_number [] = None
server_number (letter ∷ number) = if letter == 115 then node_number number else None

-- the number of cN
unfoldable pub coordinator_number : (word : List ℕ) → Option ℕ
coordinator_number [] = None
coordinator_number (letter ∷ number) = if letter == 99 then node_number number else None

-- `none`, or how many messages
abbrev pub kept_of : (word : List ℕ) → Option (Option ℕ)
kept_of word = if bytes_eq word (codes "none") then Some None else option_map (λ many. Some many) (choice_number word)

-- nothing, K none, or K J
abbrev pub during_of : (words : List (List ℕ)) → Option (Option (ℕ × Option ℕ))
during_of [] = Some None
during_of (message ∷ []) = None
during_of (message ∷ kept ∷ []) = message_of message >>= λ k. option_map (λ many. Some (k, many)) (kept_of kept)
during_of (message ∷ kept ∷ other ∷ others) = None

abbrev pub shard_of : ℕ → Shard
shard_of n = record { 0 = n }

-- sN, and what it was about to take
abbrev pub stop_of : (words : List (List ℕ)) → Option Act
stop_of [] = None
stop_of (node ∷ words) = server_number node >>= λ n. option_map (Stop (shard_of n)) (during_of words)

-- cN
abbrev pub drain_of : (words : List (List ℕ)) → Option Act
drain_of [] = None
drain_of (node ∷ []) = option_map Drain (coordinator_number node)
drain_of (node ∷ other ∷ others) = None

abbrev pub drain_where : (coords : Option ℕ) (words : List (List ℕ)) → Option Act
drain_where None words = None
drain_where (Some coords) words = drain_of words

-- the forms that only some schedules have: `stop sN`, `stop sN K none`, `stop sN K J` and `drain cN`
abbrev pub further_act : Forms → (word : List ℕ) (words : List (List ℕ)) → Option Act
further_act forms word words =
    if bytes_eq word (codes "stop") then (if forms.stops then stop_of words else None)
    else if bytes_eq word (codes "drain") then drain_where forms.coords words
    else None

-- `submit C NAME A1 A2 ..`, `deliver K`, `any J`, `tick sN`, `tick cN`, or one of those
unfoldable pub act_of : Forms → (words : List (List ℕ)) → Option Act
act_of forms [] = None
act_of forms (word ∷ words) =
    if bytes_eq word (codes "submit") then submission_of words
    else if bytes_eq word (codes "deliver") then delivery_of words
    else if bytes_eq word (codes "any") then choice_of words
    else if bytes_eq word (codes "tick") then tick_of words
    else further_act forms word words

-- ---- nodes

-- one of so many coordinators, or one of so many shards
abbrev pub is_among : (coords shards : ℕ) → Node → Bool
is_among coords shards (Server shard) = nat_lt shard.0 shards
is_among coords shards (Coord number) = nat_lt number coords

-- one of sixteen coordinators, or one of so many shards
abbrev pub is_there : (shards : ℕ) → Node → Bool
is_there shards node = is_among 16 shards node

abbrev pub has_node : Forms → (shards : ℕ) → Act → Bool
has_node forms shards (Submit coord name args) = nat_lt coord (coordinators forms)
has_node forms shards (Deliver message) = true
has_node forms shards (Any place) = true
has_node forms shards (Tick node) = is_among (coordinators forms) shards node
has_node forms shards (Stop shard during) = nat_lt shard.0 shards
has_node forms shards (Drain coord) = nat_lt coord (coordinators forms)

-- ---- lines

-- what was asked for; else the words are none of these forms
abbrev pub or_word : {A : Type 0} → Option A → Result A What
or_word None = Err what.Word
or_word (Some asked) = Ok asked

-- the same, where the node is there
abbrev pub or_node : Forms → (shards : ℕ) → Result Act What → Result Act What
or_node forms shards (Ok act) = if has_node forms shards act then Ok act else Err what.Node
or_node forms shards (Err fault) = Err fault

abbrev pub numbered_line : (number : ℕ) → Result Act What → Result Line What
numbered_line number (Ok act) = Ok (record { number = number; act = act })
numbered_line number (Err fault) = Err fault

-- the line of these words and this number, or why they are none: that they have another form comes before a node that is not there
abbrev pub line_at : Forms → (shards number : ℕ) → (words : List (List ℕ)) → Result Line What
line_at forms shards number words = numbered_line number (or_node forms shards (or_word (act_of forms words)))

-- NAME A1 A2 ..
abbrev pub request_of : (number : ℕ) → (words : List (List ℕ)) → Option Request
request_of number [] = None
request_of number (name ∷ args) = if is_name name then option_map (λ numbers. record { line = number; name = name; args = numbers }) (each integer_of args) else None

abbrev pub request_at : (number : ℕ) → (words : List (List ℕ)) → Result Request What
request_at number words = or_word (request_of number words)
