-- What a coordinator's step keeps of its transactions and views, and whom it answers
use Rattle.std.proofs.Common.{◌≡◌, ◌≢◌, ℕ, ℤ, Bool, true, false, not, cond, List, Option, Some, None, refl, sym, ap, subst, ◌∙◌, inl, inr, ◌⊎◌}
use Rattle.std.proofs.lemmas.Bool.{false≢true, not-true}
use Rattle.roc_sequence.specs.Lists.{Has}
use Rattle.roc_sequence.proofs.Found.{found_has}
use Rattle.roc_sequence.proofs.Members.{from_has_map, from_has_filter}
use Rattle.roc_base.specs.declared.id.TxnId.{TxnId}
use Rattle.roc_base.specs.declared.node.Shard.{Shard}
use Rattle.roc_base.specs.TxnId.{is_txn}
use Rattle.roc_base.specs.Equalities.{is_txn-true, is_txn-same}
use Rattle.roc_msg.specs.declared.msg.Msg.{Msg}
use Rattle.roc_msg.specs.declared.msg.Msg.TheVariants.{StartOk, CommitOk, ReadOk}
use Rattle.roc_msg.specs.declared.reason.Reason.{Reason}
use Rattle.roc_plan.specs.Groups.{Plan}
use Rattle.roc_readonly.specs.declared.view.View.{View}
use Rattle.roc_readonly.specs.declared.view.TakenRead.{TakenRead}
use Rattle.roc_readonly.specs.declared.view.Round.{Round}
use Rattle.roc_readonly.specs.declared.view.Round.TheVariants.{Waits, Ends, GoesOn}
use Rattle.roc_readonly.specs.Round.{with_readok, readok_refusal, round_of}
use Rattle.roc_coord.specs.declared.handled.Handled.{Handled}
use Rattle.roc_coord.specs.declared.handled.Handled.TheVariants as handled
use Rattle.roc_coord.specs.declared.transaction.Transaction.{Transaction}
use Rattle.roc_coord.specs.declared.transaction.TakenStart.{TakenStart}
use Rattle.roc_coord.specs.declared.transaction.TakenCommit.{TakenCommit}
use Rattle.roc_coord.specs.State.{CoordState, find_transaction, find_view, with_transaction, with_view}
use Rattle.roc_coord.specs.Step.{after_message, after_startok, after_commitok, after_readok, unless_refused, startok_refusal, startok_taken}
use Rattle.roc_coord.specs.Step.{with_startok, commitok_refusal, commitok_taken, with_commitok, reply_now, readok_taken, without_transaction, without_view}

-- each that is left had its id before
pub record Keeps (c d : CoordState) : Type 0 where
  pub number : d.number ≡ c.number
  pub next : d.next ≡ c.next
  pub pending : (x : Transaction) → Has x d.pending → (y : Transaction) × Has y c.pending × (y.id ≡ x.id)
  pub views : (v : View) → Has v d.views → (w : View) × Has w c.views × (w.id ≡ v.id)

keeps_all : (c : CoordState) → Keeps c c
keeps_all c = record { number = refl; next = refl; pending = λ x h. (x, h, refl); views = λ v h. (v, h, refl) }

-- one that stands in another's place has its id
in_its_place : {A : Type 0} (id_of : A → TxnId) (b : Bool) (x y : A) → is_txn (id_of y) (id_of x) ≡ b → (z : A) → z ≡ cond b x y → id_of y ≡ id_of z
in_its_place id_of true x y e z is = is_txn-true (id_of y) (id_of x) e ∙ ap id_of (sym is)
in_its_place id_of false x y e z is = ap id_of (sym is)

keeps_with : (c : CoordState) (x : Transaction) → Keeps c (with_transaction c x)
keeps_with c x =
    record {
      number = refl;
      next = refl;
      pending = λ z h. (let y = from_has_map (λ (y : Transaction). cond (is_txn y.id x.id) x y) z c.pending h in
          (y.0, y.1, in_its_place (λ (t : Transaction). t.id) (is_txn y.0.id x.id) x y.0 refl z y.2));
      views = λ v h. (v, h, refl);
    }

keeps_with_view : (c : CoordState) (x : View) → Keeps c (with_view c x)
keeps_with_view c x =
    record {
      number = refl;
      next = refl;
      pending = λ y h. (y, h, refl);
      views = λ z h. (let y = from_has_map (λ (y : View). cond (is_txn y.id x.id) x y) z c.views h in (y.0, y.1, in_its_place (λ (v : View). v.id) (is_txn y.0.id x.id) x y.0 refl z y.2));
    }

keeps_without : (c : CoordState) (id : TxnId) → Keeps c (without_transaction c id)
keeps_without c id = record { number = refl; next = refl; pending = λ x h. (x, (from_has_filter (λ (x : Transaction). not (is_txn x.id id)) x c.pending h).0, refl); views = λ v h. (v, h, refl) }

keeps_without_view : (c : CoordState) (id : TxnId) → Keeps c (without_view c id)
keeps_without_view c id = record { number = refl; next = refl; pending = λ x h. (x, h, refl); views = λ v h. (v, (from_has_filter (λ (v : View). not (is_txn v.id id)) v c.views h).0, refl) }

-- no transaction and view have one id
abbrev pub Apart : CoordState → Type 0
Apart c = (x : Transaction) (v : View) → Has x c.pending → Has v c.views → x.id ≢ v.id

-- it had no reply, and is gone
pub record IsOver (c d : CoordState) (id : TxnId) : Type 0 where
  pub was : ((x : Transaction) × Has x c.pending × (x.id ≡ id)) ⊎ ((v : View) × Has v c.views × (v.id ≡ id))
  pub pending : (x : Transaction) → Has x d.pending → x.id ≢ id
  pub views : (v : View) → Has v d.views → v.id ≢ id

abbrev pub Answers : CoordState → CoordState → Handled → Type 0
Answers c d (handled.Answered id reply) = Keeps c d × IsOver c d id
Answers c d handled.Done = Keeps c d
Answers c d (handled.Ignored reason) = Keeps c d

other_id : (id of : TxnId) → not (is_txn of id) ≡ true → of ≢ id
other_id id of h e = false≢true (sym (not-true (is_txn of id) h) ∙ subst (λ (t : TxnId). is_txn of t ≡ true) e (is_txn-same of))

module _ (plan : Plan) (c : CoordState) (apart : Apart c) where
  ends : (x : Transaction) → Has x c.pending → IsOver c (without_transaction c x.id) x.id
  ends x h =
      record {
        was = inl (x, h, refl);
        pending = λ y i. other_id x.id y.id (from_has_filter (λ (y : Transaction). not (is_txn y.id x.id)) y c.pending i).1;
        views = λ v i e. apart x v h i (sym e);
      }

  ends_view : (v : View) → Has v c.views → IsOver c (without_view c v.id) v.id
  ends_view v h =
      record {
        was = inr (v, h, refl);
        pending = λ x i e. apart x v i h e;
        views = λ w i. other_id v.id w.id (from_has_filter (λ (w : View). not (is_txn w.id v.id)) w c.views i).1;
      }

  startok_answers : (id : TxnId) (o : Option Transaction) (ok : TakenStart) (shard : Shard) → Answers c (after_startok plan c id o ok shard).state (after_startok plan c id o ok shard).answer
  startok_answers id None ok shard = keeps_all c
  startok_answers id (Some x) ok shard = go (startok_refusal plan x ok shard)
    where
      go : (r : Option Reason) → Answers c (unless_refused c r (startok_taken plan c (with_startok x ok))).state (unless_refused c r (startok_taken plan c (with_startok x ok))).answer
      go (Some reason) = keeps_all c
      go None = keeps_with c _

  commitok_answers : (id : TxnId) (o : Option Transaction) (ok : TakenCommit) → find_transaction id c.pending ≡ o
      → Answers c (after_commitok plan c id o ok).state (after_commitok plan c id o ok).answer
  commitok_answers id None ok e = keeps_all c
  commitok_answers id (Some x) ok e = go (commitok_refusal plan x ok) (reply_now plan (with_commitok x ok))
    where
      go : (r : Option Reason) (reply : Option (List ℤ)) → Answers c (unless_refused c r (commitok_taken plan c (with_commitok x ok) reply)).state
          (unless_refused c r (commitok_taken plan c (with_commitok x ok) reply)).answer
      go (Some reason) reply = keeps_all c
      go None None = keeps_with c (with_commitok x ok)
      go None (Some reply) = (keeps_without c x.id, ends x (found_has (λ (y : Transaction). is_txn y.id id) c.pending x e).0)

  readok_answers : (id : TxnId) (o : Option View) (round : ℕ) (ok : TakenRead) (shard : Shard) → find_view id c.views ≡ o
      → Answers c (after_readok plan c id o round ok shard).state (after_readok plan c id o round ok shard).answer
  readok_answers id None round ok shard e = keeps_all c
  readok_answers id (Some v) round ok shard e = go (readok_refusal plan v round ok shard) (round_of plan (with_readok v ok))
    where
      go : (r : Option Reason) (round : Round) → Answers c (unless_refused c r (readok_taken plan c (with_readok v ok) round)).state
          (unless_refused c r (readok_taken plan c (with_readok v ok) round)).answer
      go (Some reason) round = keeps_all c
      go None Waits = keeps_with_view c (with_readok v ok)
      go None (Ends reply) = (keeps_without_view c v.id, ends_view v (found_has (λ (w : View). is_txn w.id id) c.views v e).0)
      go None GoesOn = keeps_with_view c _

  pub message_answers : (msg : Msg) → Answers c (after_message plan c msg).state (after_message plan c msg).answer
  message_answers (StartOk id group shard bound outs edges facts) = startok_answers id (find_transaction id c.pending) _ shard
  message_answers (CommitOk id shard outs) = commitok_answers id (find_transaction id c.pending) _ refl
  message_answers (ReadOk id round group shard versions outs) = readok_answers id (find_view id c.views) round _ shard refl
  message_answers msg = keeps_all c
