-- The replies of serial runs
use Rattle.std.proofs.Common.{◌≡◌, ℤ, Bool, true, false, cond, List, [], ◌∷◌, ◌++◌, Some, None, refl, inl, inr}
use Rattle.roc_sequence.specs.Lists.{Has}
use Rattle.roc_base.specs.declared.id.TxnId.{TxnId}
use Rattle.roc_base.specs.TxnId.{is_txn}
use Rattle.roc_rows.specs.Store.{Store}
use Rattle.roc_program.specs.Program.{Workload}
use Rattle.roc_whole.specs.Serial.{Call, Answer, run_of, serial_answers}
use Rattle.roc_audit.specs.Witness.{reply_in}

pub reply_in-front : (t : TxnId) (xs ys : List Answer) (reply : List ℤ) → reply_in t xs ≡ Some reply → reply_in t (xs ++ ys) ≡ Some reply
reply_in-front t [] ys reply e = absurd (cc)
reply_in-front t (x ∷ xs) ys reply e = go (is_txn x.id t) e (reply_in-front t xs ys reply)
  where
    go : (b : Bool) → cond b (Some x.reply) (reply_in t xs) ≡ Some reply → (reply_in t xs ≡ Some reply → reply_in t (xs ++ ys) ≡ Some reply) → cond b (Some x.reply) (reply_in t (xs ++ ys)) ≡ Some reply
    go true k ih = k
    go false k ih = ih k

pub reply_in-behind : (t : TxnId) (xs ys : List Answer) → reply_in t xs ≡ None → reply_in t (xs ++ ys) ≡ reply_in t ys
reply_in-behind t [] ys e = refl
reply_in-behind t (x ∷ xs) ys e = go (is_txn x.id t) e (reply_in-behind t xs ys)
  where
    go : (b : Bool) → cond b (Some x.reply) (reply_in t xs) ≡ None → (reply_in t xs ≡ None → reply_in t (xs ++ ys) ≡ reply_in t ys) → cond b (Some x.reply) (reply_in t (xs ++ ys)) ≡ reply_in t ys
    go true k ih = absurd (cc)
    go false k ih = ih k

-- who did not call has no reply
pub reply_in-none : (program : Workload) (t : TxnId) (store : Store) (calls : List Call) → ((c : Call) → Has c calls → is_txn c.id t ≡ false) → reply_in t (serial_answers program store calls) ≡ None
reply_in-none program t store [] f = refl
reply_in-none program t store (c ∷ calls) f = rw (f c (inl refl)) (reply_in-none program t (run_of program store c).store calls (λ d i. f d (inr i)))
