-- Serial runs one by one, and wrong replies over several logs
use Rattle.std.proofs.Common.{◌≡◌, ℕ, zero, suc, ◌+◌, ◌<◌, ℤ, Bool, true, false, cond, List, [], ◌∷◌, ◌++◌, length, take, drop, get_or, arith, Option, Some, None, refl, sym, ap, ◌∙◌}
use Rattle.std.specs.List.{filter_map}
use Rattle.roc_base.specs.declared.id.TxnId.{TxnId}
use Rattle.roc_base.specs.TxnId.{is_txn}
use Rattle.roc_rows.specs.Store.{Store}
use Rattle.roc_program.specs.Program.{Workload}
use Rattle.roc_whole.specs.Serial.{Call, run_of, serial_store, serial_answers}
use Rattle.roc_audit.specs.declared.entry.Entry.{Entry}
use Rattle.roc_audit.specs.Witness.{reply_in}
use Rattle.roc_judge.specs.declared.folded.Folded.{Folded}
use Rattle.roc_judge.specs.Before.{told}
use Rattle.roc_judge.specs.Inner.Sets.{first_of, found_at}
use Rattle.roc_judge.specs.Inner.Replies.{one_call, RunsOne, first_wrong, wrong_of}
use Rattle.roc_judge.proofs.Called.{first_assoc}

pub first_none : {A : Type 0} (a : Option A) → first_of a None ≡ a
first_none (Some x) = refl
first_none None = refl

one_more : (w : Workload) (o : Option Call) (store : Store) (t : TxnId) (calls : List Call)
    → first_of (reply_in t (serial_answers w store (one_call o))) (reply_in t (serial_answers w (serial_store w store (one_call o)) calls))
    ≡ reply_in t (serial_answers w store (one_call o ++ calls))
one_more w None store t calls = refl
one_more w (Some c) store t calls = go (is_txn c.id t)
  where
    go : (b : Bool) → first_of (cond b (Some (run_of w store c).reply) None) (reply_in t (serial_answers w (run_of w store c).store calls))
        ≡ cond b (Some (run_of w store c).reply) (reply_in t (serial_answers w (run_of w store c).store calls))
    go true = refl
    go false = refl

calls_cons : (calls : TxnId → Option Call) (id : TxnId) (rest : List TxnId) → one_call (calls id) ++ filter_map calls rest ≡ filter_map calls (id ∷ rest)
calls_cons calls id rest = go (calls id) refl
  where
    go : (o : Option Call) → calls id ≡ o → one_call (calls id) ++ filter_map calls rest ≡ filter_map calls (id ∷ rest)
    go None e = rw e refl
    go (Some c) e = rw e refl

pub runs_step : (w : Workload) (calls : TxnId → Option Call) (store after : Store) (runs more : List (TxnId × List ℤ)) (id : TxnId) (left rest : List TxnId) (t : TxnId)
    → RunsOne w (calls id) store runs after more → left ≡ id ∷ rest
    → first_of (found_at t more) (reply_in t (serial_answers w after (filter_map calls rest))) ≡ first_of (found_at t runs) (reply_in t (serial_answers w store (filter_map calls left)))
runs_step w calls store after runs more id left rest t r l =
    ap (λ o. first_of o (reply_in t (serial_answers w after (filter_map calls rest)))) (r.1 t)
    ∙ (ap (λ s. first_of (first_of (found_at t runs) (reply_in t (serial_answers w store (one_call (calls id))))) (reply_in t (serial_answers w s (filter_map calls rest)))) r.0
    ∙ (first_assoc (found_at t runs) (reply_in t (serial_answers w store (one_call (calls id))))
    (reply_in t (serial_answers w (serial_store w store (one_call (calls id))) (filter_map calls rest)))
    ∙ (ap (first_of (found_at t runs)) (one_more w (calls id) store t (filter_map calls rest))
    ∙ ap (λ cs. first_of (found_at t runs) (reply_in t (serial_answers w store cs))) (calls_cons calls id rest ∙ ap (filter_map calls) (sym l)))))

wrong_more : (runs : TxnId → Option (List ℤ)) (t : TxnId) (h more : List Entry) → first_of (first_wrong runs t h) (first_wrong runs t more) ≡ first_wrong runs t (h ++ more)
wrong_more runs t [] more = refl
wrong_more runs t (e ∷ h) more = first_assoc (wrong_of runs t e) (first_wrong runs t h) (first_wrong runs t more) ∙ ap (first_of (wrong_of runs t e)) (wrong_more runs t h more)

pub wrong_step : (runs : TxnId → Option (List ℤ)) (t : TxnId) (was now : Option (List ℤ)) (told_now : List Entry) (f : Folded) (left rest : List Folded)
    → now ≡ first_of was (first_wrong runs t told_now) → told_now ≡ f.told → left ≡ f ∷ rest
    → first_of now (first_wrong runs t (told rest)) ≡ first_of was (first_wrong runs t (told left))
wrong_step runs t was now told_now f left rest e s l =
    ap (λ o. first_of o (first_wrong runs t (told rest))) (e ∙ ap (λ es. first_of was (first_wrong runs t es)) s)
    ∙ (first_assoc was (first_wrong runs t f.told) (first_wrong runs t (told rest))
    ∙ (ap (first_of was) (wrong_more runs t f.told (told rest)) ∙ ap (λ fs. first_of was (first_wrong runs t (told fs))) (sym l)))

pub parts_of : {A : Type 0} (xs : List A) (i : ℕ) (d : A) → i < length xs → xs ≡ take i xs ++ get_or xs i d ∷ drop (suc i) xs
parts_of [] i d h = absurd (omega arith)
parts_of (x ∷ xs) zero d h = refl
parts_of {A} (x ∷ xs) (suc i) d h = ap (λ (ys : List A). x ∷ ys) (parts_of xs i d (omega arith))
