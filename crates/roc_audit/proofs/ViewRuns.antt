-- Serial runs with views, and without them
use Rattle.std.proofs.Common.{◌≡◌, Bool, true, false, not, cond, List, [], ◌∷◌, Option, Some, None, refl, sym, ap, ◌∙◌}
use Rattle.std.proofs.lemmas.Bool.{cond-true, cond-false, false≢true}
use Rattle.std.specs.List.{filter, cons_option}
use Rattle.roc_base.specs.declared.id.TxnId.{TxnId}
use Rattle.roc_base.specs.TxnId.{is_txn}
use Rattle.roc_base.specs.Equalities.{is_txn-true}
use Rattle.roc_rows.specs.Store.{Store}
use Rattle.roc_program.specs.Program.{Workload}
use Rattle.roc_whole.specs.Serial.{Call, run_of, serial_store, serial_answers}
use Rattle.roc_audit.specs.declared.entry.Entry.{Entry}
use Rattle.roc_audit.specs.Witness.{submitted_call, submitted_calls, reply_in}
use Rattle.roc_audit.proofs.Histories.{call_of-id}
use Rattle.roc_audit.specs.Woven.{LeaveTheStore}
use Rattle.roc_audit.proofs.Weave.{is_other}

module _ (program : Workload) (is_view : TxnId → Bool) (H : List Entry) (leaves : LeaveTheStore program is_view H) where
  abbrev calls : List TxnId → List Call
  calls xs = submitted_calls H xs

  abbrev others : List TxnId → List TxnId
  others xs = filter (is_other is_view) xs

  -- with views and without them: one store, and one reply of each transaction
  pub record Alike (W : List TxnId) (s : Store) : Type 0 where
    pub store : serial_store program s (calls W) ≡ serial_store program s (calls (others W))
    pub replies : (t : TxnId) → is_view t ≡ false → reply_in t (serial_answers program s (calls W)) ≡ reply_in t (serial_answers program s (calls (others W)))

  pub alike : (W : List TxnId) (s : Store) → Alike W s
  alike [] s = record { store = refl; replies = λ t e. refl }
  alike (x ∷ W) s = go (is_view x) refl (submitted_call x H) refl (alike W)
    where
      one : (c : Call) → submitted_call x H ≡ Some c → c.id ≡ x
      one c e = call_of-id H x c e

      apart : (c : Call) → c.id ≡ x → is_view x ≡ true → (t : TxnId) → is_view t ≡ false → is_txn c.id t ≡ false
      apart c f e t n = none (is_txn c.id t) refl
        where
          none : (b : Bool) → is_txn c.id t ≡ b → b ≡ false
          none false h = refl
          none true h = absurd (false≢true (sym n ∙ (ap is_view (sym (is_txn-true c.id t h) ∙ f) ∙ e)))

      go : (b : Bool) → is_view x ≡ b → (o : Option Call) → submitted_call x H ≡ o → ((s : Store) → Alike W s) → Alike (x ∷ W) s
      go b e None f ih =
          let left : calls (x ∷ W) ≡ calls W = ap (λ o. cons_option o (calls W)) f in
          let right : calls (others (x ∷ W)) ≡ calls (others W) = drops b e None f in
          same left right (ih s)
        where
          same : calls (x ∷ W) ≡ calls W → calls (others (x ∷ W)) ≡ calls (others W) → Alike W s → Alike (x ∷ W) s
          same l r a =
              record {
                store = ap (serial_store program s) l ∙ (a.store ∙ sym (ap (serial_store program s) r));
                replies = λ t n. ap (λ cs. reply_in t (serial_answers program s cs)) l ∙ (a.replies t n ∙ sym (ap (λ cs. reply_in t (serial_answers program s cs)) r));
              }

          drops : (b : Bool) → is_view x ≡ b → (o : Option Call) → submitted_call x H ≡ None → calls (others (x ∷ W)) ≡ calls (others W)
          drops true e o f = ap calls (cond-false (is_other is_view x) (x ∷ others W) (others W) (ap not e))
          drops false e o f = ap calls (cond-true (is_other is_view x) (x ∷ others W) (others W) (ap not e)) ∙ ap (λ o. cons_option o (calls (others W))) f
      go true e (Some c) f ih =
          let l : calls (x ∷ W) ≡ c ∷ calls W = ap (λ o. cons_option o (calls W)) f in
          let r : calls (others (x ∷ W)) ≡ calls (others W) = ap calls (cond-false (is_other is_view x) (x ∷ others W) (others W) (ap not e)) in
          let still : (run_of program s c).store ≡ s = leaves x c e f s in
          let a = ih s in
          record {
            store = ap (serial_store program s) l ∙ (ap (λ z. serial_store program z (calls W)) still ∙ (a.store ∙ sym (ap (serial_store program s) r)));
            replies = λ t n.
                ap (λ cs. reply_in t (serial_answers program s cs)) l
                ∙ (cond-false (is_txn c.id t) (Some (run_of program s c).reply) (reply_in t (serial_answers program (run_of program s c).store (calls W))) (apart c (one c f) e t n)
                ∙ (ap (λ z. reply_in t (serial_answers program z (calls W))) still ∙ (a.replies t n ∙ sym (ap (λ cs. reply_in t (serial_answers program s cs)) r))));
          }
      go false e (Some c) f ih =
          let l : calls (x ∷ W) ≡ c ∷ calls W = ap (λ o. cons_option o (calls W)) f in
          let r : calls (others (x ∷ W)) ≡ c ∷ calls (others W) = ap calls (cond-true (is_other is_view x) (x ∷ others W) (others W) (ap not e)) ∙ ap (λ o. cons_option o (calls (others W))) f in
          let z = (run_of program s c).store in
          let a = ih z in
          record {
            store = ap (serial_store program s) l ∙ (a.store ∙ sym (ap (serial_store program s) r));
            replies = λ t n.
                ap (λ cs. reply_in t (serial_answers program s cs)) l
                ∙ (ap (cond (is_txn c.id t) (Some (run_of program s c).reply)) (a.replies t n)
                ∙ sym (ap (λ cs. reply_in t (serial_answers program s cs)) r));
          }
