-- What comes of a message at a coordinator, of transactions and aside of them
use Rattle.std.proofs.Common.{◌≡◌, ◌≢◌, ◌∙◌, inl, inr, ℕ, ℤ, Bool, true, false, not, cond, List, [], ◌∷◌, Option, Some, None, map, refl, sym, ap, subst}
use Rattle.std.proofs.lemmas.Bool.{false≢true}
use Rattle.std.specs.Prelude.{if◌then◌else◌}
use Rattle.std.specs.List.{filter}
use Rattle.roc_sequence.specs.Lists.{Has}
use Rattle.roc_sequence.proofs.Members.{has_append, has_left, has_map, from_has_map, from_has_filter}
use Rattle.roc_sequence.proofs.Found.{found_has}
use Rattle.roc_base.specs.declared.id.TxnId.{TxnId}
use Rattle.roc_base.specs.declared.node.Shard.{Shard}
use Rattle.roc_base.specs.TxnId.{is_txn}
use Rattle.roc_base.specs.Equalities.{is_txn-true}
use Rattle.roc_msg.specs.declared.msg.Msg.{Msg}
use Rattle.roc_msg.specs.declared.msg.Msg.TheVariants.{StartOk, CommitOk, ReadOk}
use Rattle.roc_msg.specs.declared.outbox.Outgoing.{Outgoing}
use Rattle.roc_msg.specs.declared.reason.Reason.{Reason}
use Rattle.roc_plan.specs.Groups.{Plan}
use Rattle.roc_readonly.specs.declared.view.Round.{Round}
use Rattle.roc_readonly.specs.declared.view.Round.TheVariants.{Waits, Ends, GoesOn}
use Rattle.roc_readonly.specs.declared.view.TakenRead.{TakenRead}
use Rattle.roc_readonly.specs.declared.view.View.{View}
use Rattle.roc_readonly.specs.Round.{view_groups, read_for, reads_of, with_readok, next_round, round_of, readok_refusal}
use Rattle.roc_coord.specs.declared.handled.Handled.TheVariants.{Done, Answered, Ignored}
use Rattle.roc_coord.specs.declared.transaction.TakenStart.{TakenStart}
use Rattle.roc_coord.specs.declared.transaction.TakenCommit.{TakenCommit}
use Rattle.roc_coord.specs.declared.transaction.Transaction.{Transaction}
use Rattle.roc_coord.specs.Ids.{ids_of, view_ids}
use Rattle.roc_coord.specs.Marks.{passes_mark, ended_sends}
use Rattle.roc_coord.specs.Starts.{start_for, with_starts, starts_of, all_started, commit_to, shards_of, commits_of, ready_groups}
use Rattle.roc_coord.specs.State.{ignored, find_transaction, find_view, with_transaction, with_view, CoordState, CoordStep}
use Rattle.roc_coord.specs.Step.{unless_refused, with_commits, commits_for, with_startok, startok_taken, startok_refusal, after_startok, with_commitok, reply_now, without_transaction, answered_sends, commitok_taken, commitok_refusal, after_commitok, without_view, readok_taken, after_readok, after_message}
use Rattle.roc_audit.specs.declared.entry.Entry.TheVariants as entry
use Rattle.roc_audit.specs.Woven.{without_views}
use Rattle.roc_law_protocol.specs.Happens.{answer_entries}
use Rattle.roc_law_protocol.specs.Aside.{KeepsTransactions, Asides, reads, ends}
use Rattle.roc_law_protocol.proofs.Tells.{all_kept}
use Rattle.roc_law_world.specs.Beside.{is_of_view}
use Rattle.roc_law_world.proofs.Sent.{AreOfTransactions, AreOfViews}
use Rattle.roc_law_world.proofs.TickSends.{are_endeds}
use Rattle.roc_law_world.proofs.Coordinators.{IsCoordSound, pending_no_view, sound_same, sound_less, ids_left}

-- ---- what is sent

are_starts : (plan : Plan) (x : Transaction) → AreOfTransactions (starts_of plan x)
are_starts plan x out h = let q = from_has_map (start_for plan x) out (ready_groups plan x) h in ap (λ (o : Outgoing). is_of_view o.msg) q.2

are_commits : (plan : Plan) (x : Transaction) → AreOfTransactions (commits_for plan x)
are_commits plan x out h = go (all_started plan x) h
  where
    go : (b : Bool) → Has out (cond b (commits_of x) []) → is_of_view out.msg ≡ false
    go true k = let q = from_has_map (commit_to x) out (shards_of x) k in ap (λ (o : Outgoing). is_of_view o.msg) q.2
    go false k = absurd k

pub are_marks : (plan : Plan) (old new : CoordState) → AreOfTransactions (answered_sends plan old new)
are_marks plan old new out h = go (passes_mark old new) h
  where
    go : (b : Bool) → Has out (cond b (ended_sends plan new) []) → is_of_view out.msg ≡ false
    go true k = are_endeds plan new out k
    go false k = absurd k

pub are_reads : (plan : Plan) (v : View) → AreOfViews (reads_of plan v)
are_reads plan v out h = let q = from_has_map (read_for plan v) out (view_groups plan v) h in ap (λ (o : Outgoing). is_of_view o.msg) q.2

-- ---- ids

-- the transaction of an id is another one of that id
ids_with : (s : CoordState) (x : Transaction) → ids_of (with_transaction s x).pending ≡ ids_of s.pending
ids_with s x = go s.pending
  where
    one : (y : Transaction) (b : Bool) → is_txn y.id x.id ≡ b → (cond b x y).id ≡ y.id
    one y true e = sym (is_txn-true y.id x.id e)
    one y false e = refl

    go : (ys : List Transaction) → ids_of (map (λ y. if is_txn y.id x.id then x else y) ys) ≡ ids_of ys
    go [] = refl
    go (y ∷ ys) = ap (λ (t : TxnId). t ∷ ids_of (map (λ y. if is_txn y.id x.id then x else y) ys)) (one y (is_txn y.id x.id) refl) ∙ ap (λ l. y.id ∷ l) (go ys)

view_ids_with : (v : View) (ws : List View) → view_ids (map (λ u. if is_txn u.id v.id then v else u) ws) ≡ view_ids ws
view_ids_with v [] = refl
view_ids_with v (w ∷ ws) = ap (λ (t : TxnId). t ∷ view_ids (map (λ u. if is_txn u.id v.id then v else u) ws)) (one w (is_txn w.id v.id) refl) ∙ ap (λ l. w.id ∷ l) (view_ids_with v ws)
  where
    one : (u : View) (b : Bool) → is_txn u.id v.id ≡ b → (cond b v u).id ≡ u.id
    one u true e = sym (is_txn-true u.id v.id e)
    one u false e = refl

views_with : (is_view : TxnId → Bool) (v : View) (ws : List View) → is_view v.id ≡ true → ((w : View) → Has w ws → is_view w.id ≡ true)
    → (w : View) → Has w (map (λ u. if is_txn u.id v.id then v else u) ws) → is_view w.id ≡ true
views_with is_view v ws own all w h =
    let q = from_has_map (λ (u : View). if is_txn u.id v.id then v else u) w ws h in
    ap (λ (u : View). is_view u.id) q.2 ∙ one q.0 (is_txn q.0.id v.id) (all q.0 q.1)
  where
    one : (u : View) (b : Bool) → is_view u.id ≡ true → is_view (if b then v else u).id ≡ true
    one u true k = own
    one u false k = k

-- ---- a message of transactions

module _ (plan : Plan) (is_view : TxnId → Bool) (s : CoordState) (o : IsCoordSound is_view s) where
  -- what comes of it keeps the ids in order and sends nothing for views
  pub record IsForTransactions (r : CoordStep) : Type 0 where
    pub sound : IsCoordSound is_view r.state
    pub sends : AreOfTransactions r.sends
    pub told : without_views is_view (answer_entries r.answer) ≡ answer_entries r.answer
    pub views : r.state.views ≡ s.views
    pub next : r.state.next ≡ s.next
    pub number : r.state.number ≡ s.number

  nothing : (reason : Reason) → IsForTransactions (ignored s reason)
  nothing reason = record { sound = o; sends = λ out h. absurd h; told = refl; views = refl; next = refl; number = refl }

  unless : (r : Option Reason) (t : CoordStep) → IsForTransactions t → IsForTransactions (unless_refused s r t)
  unless (Some reason) t k = nothing reason
  unless None t k = k

  startok_sound : (id : TxnId) (x : Option Transaction) (ok : TakenStart) (shard : Shard) → IsForTransactions (after_startok plan s id x ok shard)
  startok_sound id None ok shard = nothing _
  startok_sound id (Some x) ok shard =
      unless (startok_refusal plan x ok shard) (startok_taken plan s (with_startok x ok)) (record {
        sound = sound_same is_view s o (startok_taken plan s (with_startok x ok)).state refl refl (ids_with s (with_commits plan (with_starts plan (with_startok x ok)))) o.views;
        sends = λ out h. elim (has_append out (starts_of plan (with_startok x ok)) (commits_for plan (with_starts plan (with_startok x ok))) h) [
          | inl k ↦ are_starts plan (with_startok x ok) out k
          | inr k ↦ are_commits plan (with_starts plan (with_startok x ok)) out k
        ];
        told = refl;
        views = refl;
        next = refl;
        number = refl;
      })

  commitok_sound : (id : TxnId) (x : Option Transaction) → ((y : Transaction) → x ≡ Some y → is_view y.id ≡ false) → (ok : TakenCommit) → IsForTransactions (after_commitok plan s id x ok)
  commitok_sound id None own ok = nothing _
  commitok_sound id (Some x) own ok =
      unless (commitok_refusal plan x ok) (commitok_taken plan s (with_commitok x ok) (reply_now plan (with_commitok x ok))) (taken (reply_now plan (with_commitok x ok)))
    where
      taken : (reply : Option (List ℤ)) → IsForTransactions (commitok_taken plan s (with_commitok x ok) reply)
      taken None = record { sound = sound_same is_view s o (with_transaction s (with_commitok x ok)) refl refl (ids_with s (with_commitok x ok)) o.views; sends = λ out h. absurd h; told = refl; views = refl; next = refl; number = refl }
      taken (Some reply) =
          record {
            sound = sound_less is_view s o (without_transaction s x.id) x.id refl refl (ids_left x.id s.pending) (λ v h. h);
            sends = are_marks plan s (without_transaction s x.id);
            told = ap (λ b. cond (not b) (entry.Answered x.id reply ∷ []) []) (own x refl);
            views = refl;
            next = refl;
            number = refl;
          }

  pub for_transactions : (msg : Msg) → is_of_view msg ≡ false → IsForTransactions (after_message plan s msg)
  for_transactions (StartOk id group shard bound outs edges facts) k = startok_sound id (find_transaction id s.pending) (record { group = group; bound = bound; outs = outs; edges = edges; facts = facts }) shard
  for_transactions (CommitOk id shard outs) k = commitok_sound id (find_transaction id s.pending) (λ x e. pending_no_view is_view s o x (found_has (λ (y : Transaction). is_txn y.id id) s.pending x e).0) (record { shard = shard; outs = outs })
  for_transactions (ReadOk id round group shard versions outs) k = absurd (false≢true (sym k))
  for_transactions msg k = nothing _

  -- ---- a message of views

  -- what comes of it is something aside, told and sent; or nothing is
  pub data IsForViews (r : CoordStep) : Type 0 where
    is_nothing : r.state ≡ s → r.sends ≡ [] → (reason : Reason) → r.answer ≡ Ignored reason → IsForViews r
    is_read : IsCoordSound is_view r.state → Asides plan s r.state [] → AreOfViews r.sends → r.answer ≡ Done → IsForViews r
    is_ended : IsCoordSound is_view r.state → Asides plan s r.state r.sends → AreOfTransactions r.sends → (id : TxnId) (reply : List ℤ) → is_view id ≡ true → r.answer ≡ Answered id reply → IsForViews r

  keeps : (t : CoordState) → t.number ≡ s.number → t.pending ≡ s.pending → ((u : TxnId) → Has u (view_ids t.views) → Has u (view_ids s.views)) → KeepsTransactions plan s t []
  keeps t number pending views = record { number = number; pending = pending; views = λ u h. has_left u (view_ids s.views) [] (views u h) }

  same_views : (v : View) (u : TxnId) → Has u (view_ids (with_view s v).views) → Has u (view_ids s.views)
  same_views v u h = subst (λ l. Has u l) (view_ids_with v s.views) h

  fewer_views : (id : TxnId) (u : TxnId) → Has u (view_ids (without_view s id).views) → Has u (view_ids s.views)
  fewer_views id u h =
      let q = from_has_map (λ (v : View). v.id) u (filter (λ v. not (is_txn v.id id)) s.views) h in
      subst (λ (t : TxnId). Has t (view_ids s.views)) (sym q.2) (has_map (λ (v : View). v.id) q.0 s.views (from_has_filter (λ (v : View). not (is_txn v.id id)) q.0 s.views q.1).0)

  readok_for_views : (id : TxnId) (v : Option View) → ((w : View) → v ≡ Some w → is_view w.id ≡ true) → (round : ℕ) (ok : TakenRead) (shard : Shard) → IsForViews (after_readok plan s id v round ok shard)
  readok_for_views id None own round ok shard = is_nothing refl refl _ refl
  readok_for_views id (Some v) own round ok shard = refused (readok_refusal plan v round ok shard)
    where
      taken : View
      taken = with_readok v ok

      ended : (b : Round) → IsForViews (readok_taken plan s taken b)
      ended Waits =
          is_read
          (sound_same is_view s o (with_view s taken) refl refl refl (views_with is_view taken s.views (own v refl) o.views))
          (reads (keeps (with_view s taken) refl refl (same_views taken)) refl refl) (λ out h. absurd h) refl
      ended GoesOn =
          is_read
          (sound_same is_view s o (with_view s (next_round taken)) refl refl refl (views_with is_view (next_round taken) s.views (own v refl) o.views))
          (reads (keeps (with_view s (next_round taken)) refl refl (same_views (next_round taken))) refl refl) (are_reads plan (next_round taken)) refl
      ended (Ends reply) =
          is_ended
          (sound_less is_view s o (without_view s v.id) v.id refl refl none_less (λ w h. (from_has_filter (λ (u : View). not (is_txn u.id v.id)) w s.views h).0))
          (ends (keeps (without_view s v.id) refl refl (fewer_views v.id)) refl v.id refl other) (are_marks plan s (without_view s v.id)) v.id reply (own v refl) refl
        where
          other : (x : Transaction) → Has x s.pending → x.id ≢ v.id
          other x h e = false≢true (sym (pending_no_view is_view s o x h) ∙ (ap is_view e ∙ own v refl))

          apart : (x : Transaction) → Has x s.pending → (b : Bool) → is_txn x.id v.id ≡ b → not (is_txn x.id v.id) ≡ true
          apart x h true e = absurd (other x h (is_txn-true x.id v.id e))
          apart x h false e = ap not e

          none_less : ids_of s.pending ≡ filter (λ u. not (is_txn u v.id)) (ids_of s.pending)
          none_less = sym (all_kept (λ u. not (is_txn u v.id)) (ids_of s.pending) (λ t h. let q = from_has_map (λ (x : Transaction). x.id) t s.pending h in ap (λ t. not (is_txn t v.id)) q.2 ∙ apart q.0 q.1 (is_txn q.0.id v.id) refl))

      refused : (r : Option Reason) → IsForViews (unless_refused s r (readok_taken plan s taken (round_of plan taken)))
      refused (Some reason) = is_nothing refl refl reason refl
      refused None = ended (round_of plan taken)

  pub for_views : (msg : Msg) → is_of_view msg ≡ true → IsForViews (after_message plan s msg)
  for_views (ReadOk id round group shard versions outs) k =
      readok_for_views id (find_view id s.views) (λ w e. o.views w (found_has (λ (v : View). is_txn v.id id) s.views w e).0) round (record { group = group; versions = versions; outs = outs }) shard
  for_views (StartOk id group shard bound outs edges facts) k = absurd (false≢true k)
  for_views (CommitOk id shard outs) k = absurd (false≢true k)
  for_views msg k = is_nothing refl refl _ refl
