-- A submission: docs/PROTOCOL.md, "Coordinator"
use Rattle.std.specs.Prelude.{◌≡◌, ℕ, ℤ, not, ◌+◌, ◌==◌, nat_le, nat_lt, List, [], ◌∷◌, ◌++◌, Option, Some, None, Result, Ok, Err, length, if◌then◌else◌}
use Rattle.roc_base.specs.declared.id.TxnId.{TxnId}
use Rattle.roc_msg.specs.Outbox.{Collected, HasSent}
use Rattle.roc_msg.specs.declared.outbox.Outgoing.{Outgoing}
use Rattle.roc_plan.specs.Groups.{Plan, procedure_of, is_view_of}
use Rattle.roc_coord.specs.declared.handled.SubmitFault.{SubmitFault}
use Rattle.roc_coord.specs.declared.handled.SubmitFault.TheVariants.{NoProc, Args, Spent, Busy, NoMemory}
use Rattle.roc_coord.specs.declared.transaction.Transaction.{Transaction}
use Rattle.roc_readonly.specs.Round.{first_round, reads_of}
use Rattle.roc_readonly.specs.declared.view.View.{View}
use Rattle.roc_coord.specs.State.{CoordState}
use Rattle.roc_coord.specs.Starts.{with_starts, starts_of}

-- how many transactions and views a coordinator may submit, and how many of them may be unanswered at a time
abbrev pub most_transactions : ℕ
most_transactions = 4294967295

abbrev pub most_pending : ℕ
most_pending = 16

-- what comes of a submission: the transaction's id or why there is none, the state after it, and what is sent
pub record Submission : Type 0 where
  pub answer : Result TxnId SubmitFault
  pub state : CoordState
  pub sends : List Outgoing

-- a refused submission changes nothing and sends nothing
abbrev pub refused : CoordState → SubmitFault → Submission
refused s fault = record { answer = Err fault; state = s; sends = [] }

abbrev pub next_id : CoordState → TxnId
next_id s = record { coord = s.number; seq = s.next }

-- a transaction of which nothing was sent
abbrev pub unstarted : TxnId → ℕ → List ℤ → Transaction
unstarted id proc args = record { id = id; proc = proc; args = args; starts = []; startoks = []; asked = []; commitoks = [] }

abbrev pub new_transaction : CoordState → ℕ → List ℤ → Transaction
new_transaction s proc args = unstarted (next_id s) proc args

abbrev pub accepted : Plan → CoordState → Transaction → Submission
accepted plan s x =
    record {
      answer = Ok x.id;
      state = record s { next = s.next + 1; pending = s.pending ++ with_starts plan x ∷ []; unanswered = s.unanswered ++ x.id ∷ [] };
      sends = starts_of plan x;
    }

-- the first round of a view begins
abbrev pub accepted_view : Plan → CoordState → View → Submission
accepted_view plan s v =
    record {
      answer = Ok v.id;
      state = record s { next = s.next + 1; views = s.views ++ v ∷ []; unanswered = s.unanswered ++ v.id ∷ [] };
      sends = reads_of plan v;
    }

abbrev pub accepted_call : Plan → CoordState → ℕ → List ℤ → Submission
accepted_call plan s proc args =
    if is_view_of plan proc then accepted_view plan s (first_round (next_id s) proc args) else accepted plan s (new_transaction s proc args)

-- why a submission is refused: the first reason that holds
abbrev pub refusal_of : Plan → CoordState → ℕ → List ℤ → Option SubmitFault
refusal_of plan s proc args =
    if not (nat_lt proc (length plan.program.procedures)) then Some NoProc
    else if not (length args == (procedure_of plan proc).arguments) then Some Args
    else if nat_le most_transactions s.next then Some Spent
    else if nat_le most_pending (length s.unanswered) then Some Busy
    else None

-- where there is a reason to, a submission is refused
abbrev pub refused_or_accepted : Plan → CoordState → ℕ → List ℤ → Option SubmitFault → Submission
refused_or_accepted plan s proc args (Some fault) = refused s fault
refused_or_accepted plan s proc args None = accepted_call plan s proc args

-- what comes of a submission
abbrev pub after_submit : Plan → CoordState → ℕ → List ℤ → Submission
after_submit plan s proc args = refused_or_accepted plan s proc args (refusal_of plan s proc args)

-- this was answered, the state is now this one, and an outbox has gained what is sent
pub record IsSubmitted (submission : Submission) (answered : Result TxnId SubmitFault) (reached : CoordState) (before after : Collected) : Type 0 where
  pub answer : answered ≡ submission.answer
  pub state : reached ≡ submission.state
  pub sent : HasSent before after (submission.sends)

-- there was no memory for what comes of the submission, or else the fact holds
abbrev pub UnlessNoMemory : Result TxnId SubmitFault → Type 0 → Type 0
UnlessNoMemory (Ok id) fact = fact
UnlessNoMemory (Err NoMemory) fact = Unit {0}
UnlessNoMemory (Err NoProc) fact = fact
UnlessNoMemory (Err Args) fact = fact
UnlessNoMemory (Err Spent) fact = fact
UnlessNoMemory (Err Busy) fact = fact
