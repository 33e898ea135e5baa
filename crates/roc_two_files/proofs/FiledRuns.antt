-- Where each id of the first file calls an old procedure, each call may be run by the program of its file
use Rattle.std.proofs.Common.{◌≡◌, ◌∙◌, ℕ, ℤ, ◌<◌, ◌≤◌, nat_le, Bool, true, false, cond, List, [], ◌∷◌, ◌++◌, length, refl, sym, ap, arith, inl, inr}
use Rattle.std.proofs.lemmas.Bool.{false≢true}
use Rattle.roc_sequence.specs.Lists.{Has}
use Rattle.roc_sequence.proofs.Members.{has_append}
use Rattle.roc_base.specs.declared.id.TxnId.{TxnId}
use Rattle.roc_plan.specs.Groups.{Plan}
use Rattle.roc_rows.specs.Store.{Store}
use Rattle.roc_program.specs.Program.{Workload}
use Rattle.roc_whole.specs.Run.{Progress}
use Rattle.roc_whole.specs.Serial.{Call, Answer, run_of, serial_answers}
use Rattle.roc_audit.specs.declared.entry.Entry.{Entry}
use Rattle.roc_audit.specs.declared.entry.Entry.TheVariants.{Submitted}
use Rattle.roc_audit.specs.Witness.{submitted_calls, reply_in, IsSerialWitnessFrom}
use Rattle.roc_law_world.specs.World.{World, Beginning}
use Rattle.roc_law_world.specs.Run.{Stepped, IsRunFrom}
use Rattle.roc_epoch.specs.Grown.{IsGrownFrom}
use Rattle.roc_two_files.specs.Left.{left_behind}
use Rattle.roc_two_files.specs.Filed.{file_by, filed_answers, IsFiledWitness, is_behind}
use Rattle.roc_two_files.proofs.GrownRuns.{runs_alike, calls_submitted}
use Rattle.roc_two_files.proofs.Late.{run_late}

module _ (old new : Workload) (grown : IsGrownFrom old new) (is_second : TxnId → Bool) where
  one_run : (c : Call) → (is_second c.id ≡ false → c.procedure < length old.procedures) → (s : Store) → run_of (file_by old new is_second c.id) s c ≡ run_of new s c
  one_run c known s = go (is_second c.id) refl
    where
      go : (b : Bool) → is_second c.id ≡ b → run_of (cond b new old) s c ≡ run_of new s c
      go true e = refl
      go false e = sym (runs_alike old new grown c (known e) s)

  pub filed_are_serial : (calls : List Call) (s : Store) → ((c : Call) → Has c calls → is_second c.id ≡ false → c.procedure < length old.procedures)
      → filed_answers (file_by old new is_second) s calls ≡ serial_answers new s calls
  filed_are_serial [] s known = refl
  filed_are_serial (c ∷ calls) s known =
      let one = one_run c (known c (inl refl)) s in
      let rest = ap (λ (p : Progress). filed_answers (file_by old new is_second) p.store calls) one ∙ filed_are_serial calls (run_of new s c).store (λ d i. known d (inr i)) in
      let put : Answer → List Answer → List Answer = λ a bs. a ∷ bs in
      λ i. put (record { id = c.id; reply = (one i).reply }) (rest i)

  module _ (history : List Entry) (of_old : (t : TxnId) (proc : ℕ) (args : List ℤ) → Has (Submitted t proc args) history → is_second t ≡ false → proc < length old.procedures) where
    known : (order : List TxnId) (c : Call) → Has c (submitted_calls history order) → is_second c.id ≡ false → c.procedure < length old.procedures
    known order c i e = of_old c.id c.procedure c.arguments (calls_submitted history order c i) e

    pub filed : (s : Store) (order : List TxnId) → IsSerialWitnessFrom new s history order → IsFiledWitness old new is_second s history order
    filed s order w =
        record {
          once = w.once;
          submitted = w.submitted;
          answered = w.answered;
          replies = λ t reply a. ap (reply_in t) (filed_are_serial (submitted_calls history order) s (known order)) ∙ w.replies t reply a;
          real_time = w.real_time;
        }

-- of two runs one behind the other, those of the first call old procedures
pub first_are_old : (plan grown : Plan) (b : Beginning) (coords : ℕ) (steps more : List Stepped) (w v : World)
    → IsRunFrom plan b coords steps w → IsRunFrom grown (left_behind plan b w) coords more v
    → (t : TxnId) (proc : ℕ) (args : List ℤ) → Has (Submitted t proc args) (w.history ++ v.history) → is_behind plan b w t ≡ false → proc < length plan.program.procedures
first_are_old plan grown b coords steps more w v run later t proc args h e = elim (has_append (Submitted t proc args) w.history v.history h) [
  | inl k ↦ ((run_late plan b coords steps w run).known t proc args k).0
  | inr k ↦
      (let low = (run_late grown (left_behind plan b w) coords more v later).late t proc args k in
      absurd (false≢true (sym e ∙ test ((left_behind plan b w).of_transactions.nexts t.coord) t.seq low)))
]
  where
    test : (n k : ℕ) → n ≤ k → nat_le n k ≡ true
    test n k l = grind arith
