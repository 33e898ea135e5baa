-- Tests that say together whether a list is a serial witness
use Rattle.std.specs.Prelude.{◌≡◌, Bool, true, false, not, ◌&&◌, ◌||◌, if◌then◌else◌}
use Rattle.std.specs.Prelude.{ℕ, ℤ, ◌+◌, max, nat_lt, nat_le, List, [], ◌∷◌, ◌++◌, map, Option, Some, None, find}
use Rattle.std.specs.List.{cons_option}
use Rattle.roc_sequence.specs.Places.{place_of, is_listed}
use Rattle.roc_base.specs.declared.id.TxnId.{TxnId}
use Rattle.roc_base.specs.TxnId.{is_txn}
use Rattle.roc_base.specs.Equality.{is_nums}
use Rattle.roc_program.specs.Program.{Workload}
use Rattle.roc_rows.specs.Store.{Store}
use Rattle.roc_whole.specs.Serial.{Call, Answer, serial_answers}
use Rattle.roc_audit.specs.declared.entry.Entry.{Entry}
use Rattle.roc_audit.specs.declared.entry.Entry.TheVariants.{Submitted, Answered}
use Rattle.roc_audit_witness.specs.declared.runs.Replied.{Replied}

-- nothing of the list is among what was seen, or in it twice
abbrev pub repeats_none : (seen : List TxnId) → List TxnId → Bool
repeats_none seen [] = true
repeats_none seen (x ∷ xs) = not (is_listed is_txn seen x) && repeats_none (seen ++ x ∷ []) xs

-- the entry submits t
abbrev pub submits : TxnId → Entry → Bool
submits t (Submitted u proc args) = is_txn u t
submits t (Answered u reply) = false

-- the procedure that an entry names is one of so many
abbrev pub names_below : ℕ → Entry → Bool
names_below count (Submitted u proc args) = nat_lt proc count
names_below count (Answered u reply) = true

-- the place behind all that are answered up to an entry; nothing, where one that the entry submits is listed before the place
abbrev pub latest_after : List TxnId → ℕ → Entry → Option ℕ
latest_after order latest (Submitted u proc args) = if not (is_listed is_txn order u) || nat_le latest (place_of (is_txn u) order) then Some latest else None
latest_after order latest (Answered u reply) = Some (max latest (place_of (is_txn u) order + 1))

-- there is a number, and it passes
abbrev pub passes : (ℕ → Bool) → Option ℕ → Bool
passes test None = false
passes test (Some n) = test n

-- each listed transaction that the entries submit stands at this place or later, and behind all that they answer before
abbrev pub stands_behind : List TxnId → ℕ → List Entry → Bool
stands_behind order latest [] = true
stands_behind order latest (e ∷ es) = passes (λ n. stands_behind order n es) (latest_after order latest e)

-- a transaction with its reply, as the definitions have it
abbrev pub answer_of : Replied → Answer
answer_of r = record { id = r.id; reply = r.reply }

-- a reply was found, and it is this one
abbrev pub is_reply : List ℤ → Option Replied → Bool
is_reply reply None = false
is_reply reply (Some found) = is_nums found.reply reply

-- the reply of an answered transaction is the one that was found
abbrev pub is_answer_right : List Replied → Entry → Bool
is_answer_right replies (Submitted u proc args) = true
is_answer_right replies (Answered u reply) = is_reply reply (find (λ r. is_txn r.id u) replies)

-- the call of t that an entry submits
abbrev pub call_in : TxnId → Entry → Option Call
call_in t (Submitted u proc args) = Some (record { id = t; procedure = proc; arguments = args })
call_in t (Answered u reply) = None

-- one more transaction ran, where it called: whatever runs next, all answers together stay the same
abbrev pub RunsOne : Workload → Option Call → Store → List Replied → Store → List Replied → Type 0
RunsOne program call store replies store2 replies2 =
    (calls : List Call)
    → map answer_of replies2 ++ serial_answers program store2 calls
    ≡ map answer_of replies ++ serial_answers program store (cons_option call calls)
