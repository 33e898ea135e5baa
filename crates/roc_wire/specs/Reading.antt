-- A datagram as a grammar of fields, read from left to right, with the first fault that is met: docs/FORMATS.md, "Datagrams"
use Rattle.std.specs.Prelude.{◌≡◌, ◌<◌, get_or, not, ℕ, zero, suc, ℤ, Bool, List, [], ◌∷◌, length, take, drop, Option, None, Result, Ok, Err, nat_lt, nat_le, ◌==◌}
use Rattle.std.specs.Prelude.{◌&&◌, if◌then◌else◌, bytes_eq}
use Rattle.std.specs.Int.{Width, w8, w16, w32, w64, byte_len, from_be_bytes, cast_signed}
use Rattle.roc_base.specs.declared.id.TxnId.{TxnId}
use Rattle.roc_base.specs.declared.node.Shard.{Shard}
use Rattle.roc_base.specs.declared.node.Node.{Node}
use Rattle.roc_base.specs.declared.node.Node.TheVariants.{Server, Coord}
use Rattle.roc_base.specs.Edge.{Dependency}
use Rattle.roc_depgraph.specs.declared.known.KnownList.{KnownList}
use Rattle.roc_msg.specs.declared.msg.Msg.{Msg}
use Rattle.roc_msg.specs.declared.msg.Msg.TheVariants.{Start, StartOk, Commit, CommitOk, Fetch, Known, Stop, Ended, Settled, Read, ReadOk, Drained, Switched}
use Rattle.roc_msg.specs.Facts.{most_facts, most_fact_edges}
use Rattle.roc_wire.specs.declared.header.Header.{Header}
use Rattle.roc_wire.specs.declared.fault.WireFault.{WireFault}
use Rattle.roc_wire.specs.declared.fault.WireFault.TheVariants.{Short, Magic, Version, Kind, Count, Order, Rest, NoMemory}
use Rattle.roc_wire.specs.Spelling.{magic, version}
use Rattle.roc_wire.specs.Fits.{last_coordinator, last_shard, most_args, most_nums, most_versions, most_edges, rises, last_from, Room, room_behind}

infixl 10 ◌>>=◌
abbrev pub ◌>>=◌ : {A B : Type 0} → Result A WireFault → (A → Result B WireFault) → Result B WireFault
(Ok x) >>= f = f x
(Err e) >>= f = Err e

-- each is a byte
abbrev pub IsBytes : List ℕ → Type 0
IsBytes bytes = (i : ℕ) → get_or bytes i 0 < 256

-- a field: its value and the bytes behind it, or its fault
abbrev pub Field : Type 0 → Type 0
Field X = List ℕ → Result (X × List ℕ) WireFault

-- ---- fields of fields

-- one behind the other; what the second may be depends on the first
abbrev pub then_read : {A B : Type 0} → Field A → (A → Field B) → Field (A × B)
then_read first second bytes = first bytes >>= λ a. second a.0 a.1 >>= λ b. Ok ((a.0, b.0), b.1)

-- what is made of a field
abbrev pub made_read : {A B : Type 0} → (A → B) → Field A → Field B
made_read make read bytes = read bytes >>= λ a. Ok (make a.0, a.1)

-- a field that is judged once it is whole
abbrev pub judged_read : {A : Type 0} → (A → Bool) → WireFault → Field A → Field A
judged_read test fault read bytes = read bytes >>= λ a. if test a.0 then Ok (a.0, a.1) else Err fault

-- so many of a kind; what one may be depends on what `next` makes of those before it
unfoldable pub several_read : {A S : Type 0} → (S → Field A) → (S → A → S) → ℕ → S → Field (List A)
several_read read next zero s bytes = Ok ([], bytes)
several_read read next (suc n) s bytes = read s bytes >>= λ a. several_read read next n (next s a.0) a.1 >>= λ rest. Ok (a.0 ∷ rest.0, rest.1)

-- ---- bytes and numbers

abbrev pub bytes_read : ℕ → Field (List ℕ)
bytes_read n bytes = if nat_lt (length bytes) n then Err Short else Ok (take n bytes, drop n bytes)

abbrev pub number_read : Width → Field ℕ
number_read w bytes = if nat_lt (length bytes) (byte_len w) then Err Short else Ok (from_be_bytes w (take (byte_len w) bytes), drop (byte_len w) bytes)

-- a number in a range
unfoldable pub within_read : Width → ℕ → ℕ → Field ℕ
within_read w low high bytes = judged_read (λ n. nat_le low n && nat_le n high) Count (number_read w) bytes

-- a number past another
unfoldable pub above_read : Width → ℕ → Field ℕ
above_read w low bytes = judged_read (λ n. nat_lt low n) Count (number_read w) bytes

-- how many there are, at most so many, and each
abbrev pub counted_read : {A S : Type 0} → ℕ → (S → Field A) → (S → A → S) → S → Field (List A)
counted_read most read next s bytes = made_read (λ p. p.1) (then_read (within_read w16 0 most) (λ count. several_read read next count s)) bytes

-- in two's complement
unfoldable pub num_read : Unit {0} → Field ℤ
num_read s bytes = made_read (cast_signed w64) (number_read w64) bytes

unfoldable pub nums_read : ℕ → Field (List ℤ)
nums_read most bytes = counted_read most num_read (λ s n. s) tt bytes

unfoldable pub versions_read : Field (List ℕ)
versions_read bytes = counted_read most_versions (λ (s : Unit {0}). number_read w64) (λ s n. s) tt bytes

-- ---- ids, shards, edges, facts

abbrev pub id_of_parts : ℕ × ℕ → TxnId
id_of_parts p = record { coord = p.0; seq = p.1 }

unfoldable pub id_read : Field TxnId
id_read bytes = made_read id_of_parts (then_read (within_read w16 0 last_coordinator) (λ coord. number_read w32)) bytes

abbrev pub shard_of_parts : ℕ → Shard
shard_of_parts n = record { 0 = n }

unfoldable pub shard_read : Field Shard
shard_read bytes = made_read shard_of_parts (within_read w8 0 last_shard) bytes

-- an id behind the one before
unfoldable pub rising_read : Option TxnId → Field TxnId
rising_read last bytes = judged_read (rises last) Order id_read bytes

abbrev pub edge_of_parts : TxnId × (ℕ × Shard) → Dependency
edge_of_parts p = record { from = p.0; imm = not (p.1.0 == 2); def = not (p.1.0 == 1); at = p.1.1 }

unfoldable pub edge_read : Option TxnId → Field Dependency
edge_read last bytes = made_read edge_of_parts (then_read (rising_read last) (λ id. then_read (within_read w8 1 3) (λ tags. shard_read))) bytes

unfoldable pub edges_read : ℕ → Field (List Dependency)
edges_read most bytes = counted_read most edge_read last_from None bytes

abbrev pub fact_of_parts : TxnId × List Dependency → KnownList
fact_of_parts p = record { of = p.0; edges = p.1 }

unfoldable pub fact_read : Room → Field KnownList
fact_read room bytes = made_read fact_of_parts (then_read (rising_read room.0) (λ id. edges_read room.1)) bytes

unfoldable pub facts_read : Field (List KnownList)
facts_read bytes = counted_read most_facts fact_read room_behind (None, most_fact_edges) bytes

-- ---- messages by their kind

abbrev pub start_of_parts : TxnId × (ℕ × (ℕ × (List ℤ × List ℤ))) → Msg
start_of_parts p = Start p.0 p.1.0 p.1.1.0 p.1.1.1.0 p.1.1.1.1

unfoldable pub start_read : Field Msg
start_read bytes =
    made_read start_of_parts
    (then_read id_read (λ id. then_read (number_read w16) (λ proc. then_read (number_read w16) (λ group. then_read (nums_read most_args) (λ args. nums_read most_nums))))) bytes

abbrev pub start_ok_of_parts : TxnId × (ℕ × (Shard × (List ℤ × (List ℤ × (List Dependency × List KnownList))))) → Msg
start_ok_of_parts p = StartOk p.0 p.1.0 p.1.1.0 p.1.1.1.0 p.1.1.1.1.0 p.1.1.1.1.1.0 p.1.1.1.1.1.1

unfoldable pub start_ok_read : Field Msg
start_ok_read bytes =
    made_read start_ok_of_parts
    (then_read id_read (λ id. then_read (number_read w16) (λ group. then_read shard_read (λ shard. then_read (nums_read most_nums)
    (λ bound. then_read (nums_read most_nums) (λ outs. then_read (edges_read most_edges) (λ edges. facts_read))))))) bytes

abbrev pub commit_of_parts : TxnId × (List Dependency × List KnownList) → Msg
commit_of_parts p = Commit p.0 p.1.0 p.1.1

unfoldable pub commit_read : Field Msg
commit_read bytes = made_read commit_of_parts (then_read id_read (λ id. then_read (edges_read most_edges) (λ edges. facts_read))) bytes

abbrev pub commit_ok_of_parts : TxnId × (Shard × List ℤ) → Msg
commit_ok_of_parts p = CommitOk p.0 p.1.0 p.1.1

unfoldable pub commit_ok_read : Field Msg
commit_ok_read bytes = made_read commit_ok_of_parts (then_read id_read (λ id. then_read shard_read (λ shard. nums_read most_nums))) bytes

abbrev pub fetch_of_parts : TxnId × Shard → Msg
fetch_of_parts p = Fetch p.0 p.1

unfoldable pub fetch_read : Field Msg
fetch_read bytes = made_read fetch_of_parts (then_read id_read (λ id. shard_read)) bytes

abbrev pub known_of_parts : TxnId × List Dependency → Msg
known_of_parts p = Known p.0 p.1

unfoldable pub known_read : Field Msg
known_read bytes = made_read known_of_parts (then_read id_read (λ id. edges_read most_edges)) bytes

abbrev pub stop_read : Field Msg
stop_read bytes = Ok (Stop, bytes)

abbrev pub ended_of_parts : ℕ × ℕ → Msg
ended_of_parts p = Ended p.0 p.1

unfoldable pub ended_read : Field Msg
ended_read bytes = made_read ended_of_parts (then_read (within_read w16 0 last_coordinator) (λ coord. number_read w32)) bytes

abbrev pub settled_of_parts : TxnId × ℕ → Msg
settled_of_parts p = Settled p.0 p.1

unfoldable pub settled_read : Field Msg
settled_read bytes = made_read settled_of_parts (then_read id_read (λ id. above_read w32 id.seq)) bytes

abbrev pub read_of_parts : TxnId × (ℕ × (ℕ × (ℕ × List ℤ))) → Msg
read_of_parts p = Read p.0 p.1.0 p.1.1.0 p.1.1.1.0 p.1.1.1.1

unfoldable pub read_read : Field Msg
read_read bytes =
    made_read read_of_parts
    (then_read id_read (λ id. then_read (number_read w32) (λ round. then_read (number_read w16) (λ proc. then_read (number_read w16) (λ group. nums_read most_args))))) bytes

abbrev pub read_ok_of_parts : TxnId × (ℕ × (ℕ × (Shard × (List ℕ × List ℤ)))) → Msg
read_ok_of_parts p = ReadOk p.0 p.1.0 p.1.1.0 p.1.1.1.0 p.1.1.1.1.0 p.1.1.1.1.1

unfoldable pub read_ok_read : Field Msg
read_ok_read bytes =
    made_read read_ok_of_parts
    (then_read id_read (λ id. then_read (number_read w32) (λ round. then_read (number_read w16) (λ group. then_read shard_read
    (λ shard. then_read versions_read (λ versions. nums_read most_nums)))))) bytes

abbrev pub drained_of_parts : TxnId → Msg
drained_of_parts upto = Drained upto

unfoldable pub drained_read : Field Msg
drained_read bytes = made_read drained_of_parts id_read bytes

abbrev pub switched_of_parts : TxnId × Shard → Msg
switched_of_parts p = Switched p.0 p.1

unfoldable pub switched_read : Field Msg
switched_read bytes = made_read switched_of_parts (then_read id_read (λ upto. shard_read)) bytes

-- the body of a kind from 1 to 13
unfoldable pub body_read : ℕ → Field Msg
body_read kind bytes =
    if kind == 1 then start_read bytes else
    if kind == 2 then start_ok_read bytes else
    if kind == 3 then commit_read bytes else
    if kind == 4 then commit_ok_read bytes else
    if kind == 5 then fetch_read bytes else
    if kind == 6 then known_read bytes else
    if kind == 7 then stop_read bytes else
    if kind == 8 then ended_read bytes else
    if kind == 9 then settled_read bytes else
    if kind == 10 then read_read bytes else
    if kind == 11 then read_ok_read bytes else
    if kind == 12 then drained_read bytes else switched_read bytes

-- ---- the header, and the whole

unfoldable pub magic_read : Field (List ℕ)
magic_read bytes = judged_read (λ text. bytes_eq text magic) Magic (bytes_read 4) bytes

unfoldable pub version_read : Field ℕ
version_read bytes = judged_read (λ n. n == version) Version (number_read w8) bytes

unfoldable pub kind_read : Field ℕ
kind_read bytes = judged_read (λ n. nat_le 1 n && nat_le n 13) Kind (number_read w8) bytes

-- the last number that a sender in a role has
abbrev pub last_sender : ℕ → ℕ
last_sender role = if role == 0 then last_shard else last_coordinator

abbrev pub node_of_parts : ℕ × ℕ → Node
node_of_parts p = if p.0 == 0 then Server (shard_of_parts p.1) else Coord p.1

unfoldable pub node_read : Field Node
node_read bytes = made_read node_of_parts (then_read (within_read w8 0 1) (λ role. within_read w16 0 (last_sender role))) bytes

abbrev pub whole_of_parts : List ℕ × (ℕ × (ℕ × (List ℕ × (Node × Msg)))) → Header × Msg
whole_of_parts p = (record { tag = p.1.1.1.0; from = p.1.1.1.1.0 }, p.1.1.1.1.1)

unfoldable pub whole_read : Field (Header × Msg)
whole_read bytes =
    made_read whole_of_parts
    (then_read magic_read (λ text. then_read version_read (λ number. then_read kind_read (λ kind. then_read (bytes_read 8) (λ tag. then_read node_read (λ from. body_read kind)))))) bytes

-- a datagram is all of the bytes
unfoldable pub datagram : List ℕ → Result (Header × Msg) WireFault
datagram bytes = whole_read bytes >>= λ whole. if length whole.1 == 0 then Ok whole.0 else Err Rest

-- ---- what a function returned

abbrev pub pair : Header → Msg → Header × Msg
pair header msg = (header, msg)

-- the fault is the one that reading meets; want of memory says nothing
abbrev pub IsReadFault : {Y : Type 0} → WireFault → Result Y WireFault → Type 0
IsReadFault NoMemory read = Unit {0}
IsReadFault Short read = read ≡ Err Short
IsReadFault Magic read = read ≡ Err Magic
IsReadFault Version read = read ≡ Err Version
IsReadFault Kind read = read ≡ Err Kind
IsReadFault Count read = read ≡ Err Count
IsReadFault Order read = read ≡ Err Order
IsReadFault Rest read = read ≡ Err Rest

-- what was returned, seen by `view`, is what reading gives
abbrev pub IsRead : {X Y : Type 0} → (X → Y) → Result X WireFault → Result Y WireFault → Type 0
IsRead view (Ok x) read = read ≡ Ok (view x)
IsRead view (Err e) read = IsReadFault e read
