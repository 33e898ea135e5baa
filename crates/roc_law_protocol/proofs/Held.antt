-- What coordinators hold of transactions that have started, and whose lists are known
use Rattle.std.proofs.Common.{◌≡◌, ◌≢◌, ℕ, ℤ, ◌==◌, Bool, true, false, not, cond, ◌&&◌, List, [], ◌∷◌, ◌++◌, Option, Some, None, map, refl, sym, ap, subst, ◌∙◌, ◌⊎◌, inl, inr, is_some}
use Rattle.std.proofs.lemmas.Bool.{false≢true, and_from, eq-eqb}
use Rattle.std.specs.Prelude.{find, if◌then◌else◌}
use Rattle.roc_sequence.specs.Lists.{Has}
use Rattle.roc_sequence.proofs.Holds.{any_has, has_any, every_has, has_every}
use Rattle.roc_sequence.proofs.Found.{found_has}
use Rattle.roc_sequence.proofs.Members.{has_append, has_one, has_left, has_right, has_map, from_has_map, from_has_filter}
use Rattle.roc_base.specs.declared.node.Shard.{Shard}
use Rattle.roc_base.specs.TxnId.{is_txn}
use Rattle.roc_base.proofs.Ids.{is_txn-eq}
use Rattle.roc_msg.specs.declared.msg.Msg.{Msg}
use Rattle.roc_msg.specs.declared.msg.Msg.TheVariants.{StartOk, CommitOk, ReadOk}
use Rattle.roc_msg.specs.declared.reason.Reason.{Reason}
use Rattle.roc_plan.specs.Groups.{Plan}
use Rattle.roc_coord.specs.declared.transaction.Transaction.{Transaction}
use Rattle.roc_coord.specs.declared.transaction.SentStart.{SentStart}
use Rattle.roc_coord.specs.declared.transaction.TakenStart.{TakenStart}
use Rattle.roc_coord.specs.State.{find_transaction, with_transaction, find_startok, was_asked, CoordState}
use Rattle.roc_coord.specs.Starts.{group_numbers, ready_groups, shard_for, sent_start, with_starts, all_started, shards_of}
use Rattle.roc_coord.specs.Step.{unless_refused, with_commits, with_startok, startok_taken, startok_refusal, after_startok, with_commitok, reply_now, without_transaction, commitok_taken, commitok_refusal, after_commitok, after_message}
use Rattle.roc_coord.specs.Submit.{next_id, new_transaction, accepted}
use Rattle.roc_law_protocol.proofs.Submissions.{readok_pending}

-- ---- a transaction goes on

-- it was asked to start what it was, and stays whole
pub record GoesOn (plan : Plan) (x y : Transaction) : Type 0 where
  pub id : y.id ≡ x.id
  pub asked : (g : ℕ) (s : Shard) → was_asked x g s ≡ true → was_asked y g s ≡ true
  pub whole : all_started plan x ≡ true → x.asked ≡ shards_of x → (all_started plan y ≡ true) × (y.asked ≡ shards_of y)

-- a step of a coordinator: each transaction went on, or is new
pub record Advances (plan : Plan) (s after : CoordState) : Type 0 where
  pub from : (y : Transaction) → Has y after.pending → ((x : Transaction) × Has x s.pending × GoesOn plan x y) ⊎ (y.id ≡ next_id s)
  pub once : (y z : Transaction) → Has y after.pending → Has z after.pending → y.id ≡ z.id → y ≡ z

module _ (plan : Plan) (s : CoordState) (once : (y z : Transaction) → Has y s.pending → Has z s.pending → y.id ≡ z.id → y ≡ z) where
  -- where its transactions stay
  pub stays_aside : (after : CoordState) → after.pending ≡ s.pending → Advances plan s after
  stays_aside after e =
      let old = λ (y : Transaction) (h : Has y after.pending). subst (λ l. Has y l) e h in
      record { from = λ y h. inl (y, old y h, record { id = refl; asked = λ g s k. k; whole = λ a b. (a, b) }); once = λ y z h k. once y z (old y h) (old z k) }

  pub stays : Advances plan s s
  stays = stays_aside s refl

  pub with_cases : (x z : Transaction) → Has z (with_transaction s x).pending → (z ≡ x) ⊎ (Has z s.pending × (z.id ≢ x.id))
  with_cases x z h = let q = from_has_map (λ (y : Transaction). if is_txn y.id x.id then x else y) z s.pending h in go q.0 q.1 (is_txn q.0.id x.id) refl q.2
    where
      go : (y : Transaction) → Has y s.pending → (b : Bool) → is_txn y.id x.id ≡ b → z ≡ cond b x y → (z ≡ x) ⊎ (Has z s.pending × (z.id ≢ x.id))
      go y k true t e = inl e
      go y k false t e = inr (subst (λ z. Has z s.pending) (sym e) k, λ f. false≢true (sym t ∙ is_txn-eq y.id x.id (ap (λ (z : Transaction). z.id) (sym e) ∙ f)))

  pub changes : (x y : Transaction) → Has x s.pending → GoesOn plan x y → Advances plan s (with_transaction s y)
  changes x y h g =
      record {
        from = λ z k. elim (with_cases y z k) [ inl e ↦ inl (x, h, subst (GoesOn plan x) (sym e) g) | inr j ↦ inl (z, j.0, record { id = refl; asked = λ g s k. k; whole = λ a b. (a, b) }) ];
        once = λ u v k l e. elim (with_cases y u k) [
          | inl a ↦ elim (with_cases y v l) [ inl b ↦ a ∙ sym b | inr b ↦ absurd (b.1 (sym e ∙ ap (λ (z : Transaction). z.id) a)) ]
          | inr a ↦ elim (with_cases y v l) [ inl b ↦ absurd (a.1 (e ∙ ap (λ (z : Transaction). z.id) b)) | inr b ↦ once u v a.0 b.0 e ]
        ];
      }

-- ---- a startok

pub more_found : {A : Type 0} (p : A → Bool) (xs ys : List A) → is_some (find p xs) ≡ true → is_some (find p (xs ++ ys)) ≡ true
more_found p [] ys h = absurd (false≢true h)
more_found p (x ∷ xs) ys h = go (p x) h (more_found p xs ys)
  where
    go : (b : Bool) → is_some (cond b (Some x) (find p xs)) ≡ true → (is_some (find p xs) ≡ true → is_some (find p (xs ++ ys)) ≡ true) → is_some (cond b (Some x) (find p (xs ++ ys))) ≡ true
    go true k ih = refl
    go false k ih = ih k

-- after the commits of a transaction were sent, it is whole
pub committed : (plan : Plan) (y : Transaction) → all_started plan y ≡ true → (all_started plan (with_commits plan y) ≡ true) × ((with_commits plan y).asked ≡ shards_of (with_commits plan y))
committed plan y all = go (all_started plan y) refl
  where
    go : (b : Bool) → all_started plan y ≡ b → (all_started plan (cond b (record y { asked = shards_of y }) y) ≡ true) × ((cond b (record y { asked = shards_of y }) y).asked ≡ shards_of (cond b (record y { asked = shards_of y }) y))
    go true e = (all, refl)
    go false e = absurd (false≢true (sym e ∙ all))

commits_keep : (plan : Plan) (y : Transaction) (g : ℕ) (s : Shard) → was_asked y g s ≡ true → was_asked (with_commits plan y) g s ≡ true
commits_keep plan y g s h = go (all_started plan y)
  where
    go : (b : Bool) → was_asked (cond b (record y { asked = shards_of y }) y) g s ≡ true
    go true = h
    go false = h

pub commits_id : (plan : Plan) (y : Transaction) → (with_commits plan y).id ≡ y.id
commits_id plan y = go (all_started plan y)
  where
    go : (b : Bool) → (cond b (record y { asked = shards_of y }) y).id ≡ y.id
    go true = refl
    go false = refl

pub startok_goes_on : (plan : Plan) (x : Transaction) (ok : TakenStart) → GoesOn plan x (with_commits plan (with_starts plan (with_startok x ok)))
startok_goes_on plan x ok =
    let z = with_startok x ok in
    let y = with_starts plan z in
    record {
      id = commits_id plan y;
      asked = λ g s h. commits_keep plan y g s
          (let a = any_has (λ (b : SentStart). b.group == g && b.shard.0 == s.0) x.starts h in
          has_any (λ (b : SentStart). b.group == g && b.shard.0 == s.0) (x.starts ++ map (sent_start plan z) (ready_groups plan z)) a.0 (has_left a.0 x.starts (map (sent_start plan z) (ready_groups plan z)) a.1) a.2);
      whole = λ all same. committed plan y
          (has_every (λ g. is_some (find_startok g (x.startoks ++ ok ∷ []))) (group_numbers plan x.proc)
          (λ g k. more_found (λ (o : TakenStart). o.group == g) x.startoks (ok ∷ []) (every_has (λ g. is_some (find_startok g x.startoks)) (group_numbers plan x.proc) all g k)));
    }

-- a start that is sent was asked for
pub starts_asked : (plan : Plan) (z : Transaction) (g : ℕ) → Has g (ready_groups plan z) → was_asked (with_starts plan z) g (shard_for plan z g) ≡ true
starts_asked plan z g h =
    has_any (λ (b : SentStart). b.group == g && b.shard.0 == (shard_for plan z g).0) (z.starts ++ map (sent_start plan z) (ready_groups plan z)) (sent_start plan z g)
    (has_right (sent_start plan z g) z.starts (map (sent_start plan z) (ready_groups plan z)) (has_map (sent_start plan z) g (ready_groups plan z) h))
    (and_from (g == g) ((shard_for plan z g).0 == (shard_for plan z g).0) (eq-eqb g g refl) (eq-eqb (shard_for plan z g).0 (shard_for plan z g).0 refl))

pub new_asked : (plan : Plan) (z : Transaction) (g : ℕ) → Has g (ready_groups plan z) → was_asked (with_commits plan (with_starts plan z)) g (shard_for plan z g) ≡ true
new_asked plan z g h = commits_keep plan (with_starts plan z) g (shard_for plan z g) (starts_asked plan z g h)

-- ---- messages and submissions

module _ (plan : Plan) (s : CoordState) (once : (y z : Transaction) → Has y s.pending → Has z s.pending → y.id ≡ z.id → y ≡ z) where
  pub message_advances : (msg : Msg) → Advances plan s (after_message plan s msg).state
  message_advances (StartOk id group shard bound outs edges facts) = go (find_transaction id s.pending) refl
    where
      go : (x : Option Transaction) → find_transaction id s.pending ≡ x → Advances plan s (after_startok plan s id x (record { group = group; bound = bound; outs = outs; edges = edges; facts = facts }) shard).state
      go None e = stays plan s once
      go (Some x) e = refused (startok_refusal plan x (record { group = group; bound = bound; outs = outs; edges = edges; facts = facts }) shard)
        where
          refused : (o : Option Reason) → Advances plan s (unless_refused s o (startok_taken plan s (with_startok x (record { group = group; bound = bound; outs = outs; edges = edges; facts = facts })))).state
          refused (Some why) = stays plan s once
          refused None = changes plan s once x (with_commits plan (with_starts plan (with_startok x (record { group = group; bound = bound; outs = outs; edges = edges; facts = facts })))) (found_has (λ (x : Transaction). is_txn x.id id) s.pending x e).0 (startok_goes_on plan x (record { group = group; bound = bound; outs = outs; edges = edges; facts = facts }))
  message_advances (CommitOk id shard outs) = go (find_transaction id s.pending) refl
    where
      go : (x : Option Transaction) → find_transaction id s.pending ≡ x → Advances plan s (after_commitok plan s id x (record { shard = shard; outs = outs })).state
      go None e = stays plan s once
      go (Some x) e = refused (commitok_refusal plan x (record { shard = shard; outs = outs })) (reply_now plan (with_commitok x (record { shard = shard; outs = outs })))
        where
          refused : (o : Option Reason) (reply : Option (List ℤ)) → Advances plan s (unless_refused s o (commitok_taken plan s (with_commitok x (record { shard = shard; outs = outs })) reply)).state
          refused (Some why) reply = stays plan s once
          refused None None = changes plan s once x (with_commitok x (record { shard = shard; outs = outs })) (found_has (λ (x : Transaction). is_txn x.id id) s.pending x e).0 (record { id = refl; asked = λ g s k. k; whole = λ a b. (a, b) })
          refused None (Some reply) =
              let old = λ (z : Transaction) (h : Has z (without_transaction s x.id).pending). (from_has_filter (λ (z : Transaction). not (is_txn z.id x.id)) z s.pending h).0 in
              record { from = λ y h. inl (y, old y h, record { id = refl; asked = λ g s k. k; whole = λ a b. (a, b) }); once = λ y z h k e. once y z (old y h) (old z k) e }
  message_advances (ReadOk id round group shard versions outs) = stays_aside plan s once (after_message plan s (ReadOk id round group shard versions outs)).state (readok_pending plan s id round group shard versions outs)
  message_advances msg = stays plan s once

  pub submission_advances : (proc : ℕ) (args : List ℤ) → ((x : Transaction) → Has x s.pending → x.id ≢ next_id s) → Advances plan s (accepted plan s (new_transaction s proc args)).state
  submission_advances proc args fresh =
      let x = new_transaction s proc args in
      let cases : (y : Transaction) → Has y (s.pending ++ with_starts plan x ∷ []) → Has y s.pending ⊎ (y ≡ with_starts plan x) = λ y h. elim (has_append y s.pending (with_starts plan x ∷ []) h) [ inl k ↦ inl k | inr k ↦ inr (has_one y (with_starts plan x) k) ] in
      record {
        from = λ y h. elim (cases y h) [ inl k ↦ inl (y, k, record { id = refl; asked = λ g s k. k; whole = λ a b. (a, b) }) | inr k ↦ inr (ap (λ (y : Transaction). y.id) k) ];
        once = λ y z h k e. elim (cases y h) [
          | inl a ↦ elim (cases z k) [ inl b ↦ once y z a b e | inr b ↦ absurd (fresh y a (e ∙ ap (λ (y : Transaction). y.id) b)) ]
          | inr a ↦ elim (cases z k) [ inl b ↦ absurd (fresh z b (sym e ∙ ap (λ (y : Transaction). y.id) a)) | inr b ↦ a ∙ sym b ]
        ];
      }
