-- Runs of old procedures under a grown program
use Rattle.std.proofs.Common.{◌≡◌, ◌∙◌, ℕ, ℤ, ◌<◌, List, [], ◌∷◌, length, Some, refl, sym, ap, subst, inl, inr}
use Rattle.std.specs.Prelude.{slice_index_or}
use Rattle.std.proofs.lemmas.List.{get_or_append_left}
use Rattle.roc_sequence.specs.Lists.{Has}
use Rattle.roc_base.specs.declared.id.TxnId.{TxnId}
use Rattle.roc_base.specs.Equalities.{is_txn-true}
use Rattle.roc_rows.specs.Store.{Store}
use Rattle.roc_program.specs.Program.{Workload, Procedure}
use Rattle.roc_program.specs.LookUps.{no_procedure}
use Rattle.roc_whole.specs.Run.{whole_run}
use Rattle.roc_whole.specs.Serial.{Call, Answer, procedure_at, run_of, serial_store, serial_answers}
use Rattle.roc_audit.specs.declared.entry.Entry.{Entry}
use Rattle.roc_audit.specs.declared.entry.Entry.TheVariants.{Submitted}
use Rattle.roc_audit.specs.Witness.{submitted_call, submitted_calls, reply_in, IsSerialWitnessFrom}
use Rattle.roc_audit.proofs.Histories.{call_of-from, call_of-id}
use Rattle.std.specs.List.{cons_option}
use Rattle.std.proofs.Common.{Option, None}
use Rattle.roc_epoch.specs.Grown.{IsGrownFrom}

-- what is called was submitted
pub calls_submitted : (history : List Entry) (order : List TxnId) (c : Call) → Has c (submitted_calls history order) → Has (Submitted c.id c.procedure c.arguments) history
calls_submitted history [] c i = absurd i
calls_submitted history (t ∷ order) c i = go (submitted_call t history) refl i (calls_submitted history order c)
  where
    go : (o : Option Call) → submitted_call t history ≡ o → Has c (cons_option o (submitted_calls history order))
        → (Has c (submitted_calls history order) → Has (Submitted c.id c.procedure c.arguments) history) → Has (Submitted c.id c.procedure c.arguments) history
    go None e j ih = ih j
    go (Some d) e (inl j) ih =
        let own = subst (λ (t : TxnId). Has (Submitted t d.procedure d.arguments) history) (sym (call_of-id history t d e)) (call_of-from is_txn-true history t d e) in
        subst (λ (x : Call). Has (Submitted x.id x.procedure x.arguments) history) (sym j) own
    go (Some d) e (inr j) ih = ih j

module _ (old new : Workload) (grown : IsGrownFrom old new) where
  pub procedure_stays : (p : ℕ) → p < length old.procedures → procedure_at new p ≡ procedure_at old p
  procedure_stays p l = ap (λ (ps : List Procedure). slice_index_or ps p no_procedure) grown.procedures.1 ∙ get_or_append_left old.procedures grown.procedures.0 no_procedure p l

  pub runs_alike : (call : Call) → call.procedure < length old.procedures → (store : Store) → run_of new store call ≡ run_of old store call
  runs_alike call l store = ap (λ p. whole_run p call.arguments store) (procedure_stays call.procedure l)

  stores_alike : (calls : List Call) (s : Store) → ((c : Call) → Has c calls → c.procedure < length old.procedures) → serial_store new s calls ≡ serial_store old s calls
  stores_alike [] s f = refl
  stores_alike (c ∷ calls) s f =
      ap (λ z. serial_store new z calls) (ap (λ r. r.store) (runs_alike c (f c (inl refl)) s)) ∙ stores_alike calls (run_of old s c).store (λ d i. f d (inr i))

  answers_alike : (calls : List Call) (s : Store) → ((c : Call) → Has c calls → c.procedure < length old.procedures) → serial_answers new s calls ≡ serial_answers old s calls
  answers_alike [] s f = refl
  answers_alike (c ∷ calls) s f =
      let one = runs_alike c (f c (inl refl)) s in
      let rest = ap (λ z. serial_answers new z calls) (ap (λ r. r.store) one) ∙ answers_alike calls (run_of old s c).store (λ d i. f d (inr i)) in
      let put : Answer → List Answer → List Answer = λ a bs. a ∷ bs in
      λ i. put (record { id = c.id; reply = (one i).reply }) (rest i)

  module _ (history : List Entry) (of_old : (t : TxnId) (proc : ℕ) (args : List ℤ) → Has (Submitted t proc args) history → proc < length old.procedures) where
    calls_old : (order : List TxnId) (c : Call) → Has c (submitted_calls history order) → c.procedure < length old.procedures
    calls_old order c i = of_old c.id c.procedure c.arguments (calls_submitted history order c i)

    pub same_store : (s : Store) (order : List TxnId) → serial_store new s (submitted_calls history order) ≡ serial_store old s (submitted_calls history order)
    same_store s order = stores_alike (submitted_calls history order) s (calls_old order)

    pub witness_stays : (s : Store) (order : List TxnId) → IsSerialWitnessFrom old s history order → IsSerialWitnessFrom new s history order
    witness_stays s order w =
        record {
          once = w.once;
          submitted = w.submitted;
          answered = w.answered;
          replies = λ t reply a. ap (reply_in t) (answers_alike (submitted_calls history order) s (calls_old order)) ∙ w.replies t reply a;
          real_time = w.real_time;
        }
