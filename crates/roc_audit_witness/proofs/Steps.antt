-- Runs one after another, and what is found in lists
use Rattle.std.proofs.Common.{◌≡◌, ℕ, ℤ, ◌+◌, ◌<◌, Bool, true, false, cond, List, [], ◌∷◌, ◌++◌, length, drop, map, find, get_or, option_map, Option, Some, None, refl, sym, ap, ◌∙◌}
use Rattle.std.specs.List.{cons_option}
use Rattle.roc_sequence.proofs.Found.{found_has}
use Rattle.roc_sequence.proofs.Fronts.{rest_at}
use Rattle.roc_sequence.specs.Lists.{Has}
use Rattle.roc_base.specs.declared.id.TxnId.{TxnId}
use Rattle.roc_base.specs.TxnId.{is_txn}
use Rattle.roc_program.specs.Program.{Workload}
use Rattle.roc_rows.specs.Store.{Store}
use Rattle.roc_whole.specs.Run.{whole_run}
use Rattle.roc_whole.specs.Serial.{Call, Answer, procedure_at, serial_answers, serial_run, start_store}
use Rattle.roc_audit.specs.declared.entry.Entry.{Entry}
use Rattle.roc_audit.specs.declared.entry.Entry.TheVariants.{Submitted, Answered}
use Rattle.roc_audit.specs.Witness.{submitted_call, submitted_calls, reply_in}
use Rattle.roc_audit_witness.specs.declared.runs.Replied.{Replied}
use Rattle.roc_audit_witness.specs.Inner.Tests.{answer_of, call_in, submits, RunsOne}

-- the call of a submission that was found
found_call : TxnId → Option Entry → Option Call
found_call t None = None
found_call t (Some e) = call_in t e

call_found : (t : TxnId) (h : List Entry) → submitted_call t h ≡ found_call t (find (submits t) h)
unfolding found_call
call_found t [] = refl
call_found t (Submitted u proc args ∷ h) = go (is_txn u t) (call_found t h)
  where
    go : (b : Bool) → submitted_call t h ≡ found_call t (find (submits t) h) → cond b (Some (record { id = t; procedure = proc; arguments = args })) (submitted_call t h) ≡ found_call t (cond b (Some (Submitted u proc args)) (find (submits t) h))
    go true ih = refl
    go false ih = ih
call_found t (Answered u reply ∷ h) = call_found t h

pub no_call : (t : TxnId) (h : List Entry) → find (submits t) h ≡ None → submitted_call t h ≡ None
unfolding found_call
no_call t h e = call_found t h ∙ ap (found_call t) e

pub call_is : (t : TxnId) (e : Entry) (h : List Entry) → find (submits t) h ≡ Some e → submitted_call t h ≡ call_in t e
unfolding found_call
call_is t e h f = call_found t h ∙ ap (found_call t) f

pub entry_there : (t : TxnId) (e : Entry) (h : List Entry) → find (submits t) h ≡ Some e → Has e h
entry_there t e h f = (found_has (submits t) h e f).0

-- ---- serial runs

pub runs_none : (program : Workload) (call : Option Call) (store : Store) (replies : List Replied) → call ≡ None → RunsOne program call store replies store replies
runs_none program call store replies e calls = ap (λ o. map answer_of replies ++ serial_answers program store (cons_option o calls)) (sym e)

module _ (program : Workload) (t : TxnId) (proc : ℕ) (args : List ℤ) (store store2 : Store) (replies replies2 : List Replied) (reply : List ℤ)
    (runs : store2 ≡ (whole_run (procedure_at program proc) args store).store)
    (says : reply ≡ (whole_run (procedure_at program proc) args store).reply)
    (more : replies2 ≡ replies ++ (record { id = t; reply = reply }) ∷ []) where
  moved : (rs : List Replied) (rest : List Answer) → map answer_of (rs ++ (record { id = t; reply = reply }) ∷ []) ++ rest ≡ map answer_of rs ++ (record { id = t; reply = reply }) ∷ rest
  moved [] rest = refl
  moved (r ∷ rs) rest = ap (λ l. answer_of r ∷ l) (moved rs rest)

  pub runs_it : RunsOne program (Some (record { id = t; procedure = proc; arguments = args })) store replies store2 replies2
  runs_it calls =
      ap (λ (rs : List Replied). map answer_of rs ++ serial_answers program store2 calls) more
      ∙ (moved replies (serial_answers program store2 calls)
      ∙ (ap (λ (s : Store). map answer_of replies ++ (record { id = t; reply = reply }) ∷ serial_answers program s calls) runs
      ∙ ap (λ (r : List ℤ). map answer_of replies ++ (record { id = t; reply = r }) ∷ serial_answers program (whole_run (procedure_at program proc) args store).store calls) says))

-- one more of the order ran
pub run_more : (program : Workload) (h : List Entry) (order : List TxnId) (i : ℕ) (d : TxnId) (store store2 : Store) (replies replies2 : List Replied) (all : List Answer) → i < length order
    → RunsOne program (submitted_call (get_or order i d) h) store replies store2 replies2
    → map answer_of replies ++ serial_answers program store (submitted_calls h (drop i order)) ≡ all
    → map answer_of replies2 ++ serial_answers program store2 (submitted_calls h (drop (i + 1) order)) ≡ all
run_more program h order i d store store2 replies replies2 all l runs so_far =
    runs (submitted_calls h (drop (i + 1) order))
    ∙ (ap (λ (ts : List TxnId). map answer_of replies ++ serial_answers program store (submitted_calls h ts)) (sym (rest_at order i d l))
    ∙ so_far)

-- nothing of the order is left
pub all_ran : (program : Workload) (h : List Entry) (left : List TxnId) (store : Store) (replies : List Replied) (all : List Answer) → left ≡ [] → map answer_of replies ++ serial_answers program store (submitted_calls h left) ≡ all → map answer_of replies ≡ all
all_ran program h left store replies all e so_far =
    sym (none_behind (map answer_of replies))
    ∙ (ap (λ (ts : List TxnId). map answer_of replies ++ serial_answers program store (submitted_calls h ts)) (sym e) ∙ so_far)
  where
    none_behind : (xs : List Answer) → xs ++ [] ≡ xs
    none_behind [] = refl
    none_behind (x ∷ xs) = ap (λ l. x ∷ l) (none_behind xs)

-- ---- replies

pub reply_found : (t : TxnId) (replies : List Replied) → reply_in t (map answer_of replies) ≡ option_map (λ r. r.reply) (find (λ r. is_txn r.id t) replies)
reply_found t [] = refl
reply_found t (r ∷ rs) = go (is_txn r.id t) (reply_found t rs)
  where
    go : (b : Bool) → reply_in t (map answer_of rs) ≡ option_map (λ r. r.reply) (find (λ r. is_txn r.id t) rs) → cond b (Some r.reply) (reply_in t (map answer_of rs)) ≡ option_map (λ r. r.reply) (cond b (Some r) (find (λ r. is_txn r.id t) rs))
    go true ih = refl
    go false ih = ih

pub start_ran : (program : Workload) (h : List Entry) (order : List TxnId) (store : Store) (replies : List Replied) → replies ≡ [] → store ≡ start_store program → map answer_of replies ++ serial_answers program store (submitted_calls h order) ≡ serial_run program (submitted_calls h order)
start_ran program h order store replies e f =
    ap (λ (rs : List Replied). map answer_of rs ++ serial_answers program store (submitted_calls h order)) e
    ∙ ap (λ (s : Store). serial_answers program s (submitted_calls h order)) f
