-- The watermarks that a coordinator tells, none of which is above its own
use Rattle.std.proofs.Common.{◌≡◌, ◌∙◌, inl, inr, ℕ, ℤ, ◌+◌, ◌<◌, ◌≤◌, ◌==◌, min, Bool, true, false, not, cond, List, [], ◌∷◌, ◌++◌, Option, Some, None, map, refl, sym, ap, subst, arith}
use Rattle.std.proofs.lemmas.Bool.{false≢true, not_from_false, false_from_ne_true}
use Rattle.std.specs.Prelude.{flat_map, if◌then◌else◌}
use Rattle.std.specs.List.{filter, range_with_len}
use Rattle.roc_sequence.specs.Lists.{Has}
use Rattle.roc_sequence.proofs.Members.{has_append, has_filter, from_has_map, from_has_flat_map}
use Rattle.roc_sequence.proofs.Found.{found_has}
use Rattle.roc_base.specs.declared.id.TxnId.{TxnId}
use Rattle.roc_base.specs.declared.node.Shard.{Shard}
use Rattle.roc_base.specs.TxnId.{is_txn}
use Rattle.roc_base.specs.Equalities.{is_txn-true}
use Rattle.roc_msg.specs.declared.msg.Msg.{Msg}
use Rattle.roc_msg.specs.declared.msg.Msg.TheVariants.{StartOk, CommitOk, ReadOk}
use Rattle.roc_msg.specs.declared.outbox.Outgoing.{Outgoing}
use Rattle.roc_msg.specs.declared.reason.Reason.{Reason}
use Rattle.roc_plan.specs.Groups.{Plan}
use Rattle.roc_readonly.specs.declared.view.Round.{Round}
use Rattle.roc_readonly.specs.declared.view.Round.TheVariants.{Waits, Ends, GoesOn}
use Rattle.roc_readonly.specs.declared.view.TakenRead.{TakenRead}
use Rattle.roc_readonly.specs.declared.view.View.{View}
use Rattle.roc_readonly.specs.Round.{view_groups, read_for, reads_of, with_readok, next_round, round_of, readok_refusal}
use Rattle.roc_coord.specs.declared.transaction.TakenStart.{TakenStart}
use Rattle.roc_coord.specs.declared.transaction.TakenCommit.{TakenCommit}
use Rattle.roc_coord.specs.declared.transaction.Transaction.{Transaction}
use Rattle.roc_coord.specs.Marks.{least_seq, watermark, ended_to, ended_sends, passes_mark}
use Rattle.roc_coord.specs.Starts.{group_numbers, start_for, with_starts, starts_of, all_started, commit_to, shards_of, commits_of, ready_groups}
use Rattle.roc_coord.specs.State.{ignored, find_transaction, find_view, has_commitok, CoordState, CoordStep}
use Rattle.roc_coord.specs.Step.{unless_refused, commits_for, with_startok, startok_taken, startok_refusal, after_startok, with_commitok, reply_now}
use Rattle.roc_coord.specs.Step.{without_transaction, commitok_taken, commitok_refusal, after_commitok, without_view, answered_sends, readok_taken, after_readok, after_message}
use Rattle.roc_coord.specs.Tick.{awaits_startok, transaction_again, view_again, again_of, tick_sends, commits_again, starts_again}
use Rattle.roc_law_world.specs.Beside.{is_of_view}
use Rattle.roc_law_world.proofs.Coordinators.{IsCoordSound, pending_no_view}
use Rattle.roc_law_world.proofs.ServerMarks.{IsAbove}

-- ---- the least of what is unanswered

-- it does not fall where some are answered
least_left : (p : TxnId → Bool) (ids : List TxnId) (next : ℕ) → least_seq ids next ≤ least_seq (filter p ids) next
least_left p [] next = omega arith
least_left p (id ∷ ids) next = go (p id) (least_left p ids next)
  where
    go : (b : Bool) → least_seq ids next ≤ least_seq (filter p ids) next → min id.seq (least_seq ids next) ≤ least_seq (cond b (id ∷ filter p ids) (filter p ids)) next
    go true h = omega arith
    go false h = omega arith

-- nor does it where the next is given
pub least_more : (ids : List TxnId) (id : TxnId) (next : ℕ) → id.seq ≡ next → least_seq ids next ≤ least_seq (ids ++ id ∷ []) (next + 1)
least_more [] id next e = omega arith
least_more (u ∷ ids) id next e = let h = least_more ids id next e in omega arith

-- ---- what is told

-- by its step a coordinator's watermark does not fall, and what it tells is no higher
pub record TellsMarks (s : CoordState) (r : CoordStep) : Type 0 where
  pub rises : watermark s ≤ watermark r.state
  pub told : (out : Outgoing) → Has out r.sends → (t : TxnId) → IsAbove out.msg t → (t.coord ≡ r.state.number) × (t.seq < watermark r.state)

abbrev pub TellsNone : List Outgoing → Type 0
TellsNone outs = (out : Outgoing) → Has out outs → (t : TxnId) → ¬ IsAbove out.msg t

starts_none : (plan : Plan) (x : Transaction) (gs : List ℕ) → TellsNone (map (start_for plan x) gs)
starts_none plan x gs out h t k = let q = from_has_map (start_for plan x) out gs h in subst (λ (o : Outgoing). IsAbove o.msg t) q.2 k

pub new_starts_none : (plan : Plan) (x : Transaction) → TellsNone (starts_of plan x)
new_starts_none plan x = starts_none plan x (ready_groups plan x)

commits_none : (x : Transaction) (shards : List Shard) → TellsNone (map (commit_to x) shards)
commits_none x shards out h t k = let q = from_has_map (commit_to x) out shards h in subst (λ (o : Outgoing). IsAbove o.msg t) q.2 k

group_reads_none : (plan : Plan) (v : View) (gs : List ℕ) → TellsNone (map (read_for plan v) gs)
group_reads_none plan v gs out h t k = let q = from_has_map (read_for plan v) out gs h in subst (λ (o : Outgoing). IsAbove o.msg t) q.2 k

pub reads_none : (plan : Plan) (v : View) → TellsNone (reads_of plan v)
reads_none plan v = group_reads_none plan v (view_groups plan v)

-- a watermark that a coordinator tells is its own
abbrev TellsOwn : CoordState → List Outgoing → Type 0
TellsOwn s outs = (out : Outgoing) → Has out outs → (t : TxnId) → IsAbove out.msg t → (t.coord ≡ s.number) × (t.seq < watermark s)

marks_own : (plan : Plan) (s : CoordState) → TellsOwn s (ended_sends plan s)
marks_own plan s = go (watermark s == 0)
  where
    go : (b : Bool) → TellsOwn s (if b then [] else map (ended_to s) (range_with_len 0 plan.program.shards))
    go true = λ out h. absurd h
    go false = λ out h t k. (let q = from_has_map (ended_to s) out (range_with_len 0 plan.program.shards) h in subst (λ (o : Outgoing). IsAbove o.msg t) q.2 k)

answer_own : (plan : Plan) (old new : CoordState) → TellsOwn new (answered_sends plan old new)
answer_own plan old new = go (passes_mark old new)
  where
    go : (b : Bool) → TellsOwn new (if b then ended_sends plan new else [])
    go true = marks_own plan new
    go false = λ out h. absurd h

module _ (plan : Plan) (s : CoordState) where
  -- with the same unanswered ids and no watermark
  same_mark : (after : CoordState) (r : CoordStep) → r.state ≡ after → watermark after ≡ watermark s → TellsNone r.sends → TellsMarks s r
  same_mark after r state mark none =
      record {
        rises = (let e = ap watermark state ∙ mark in omega arith);
        told = λ out h t k. absurd (none out h t k);
      }

  nothing : (reason : Reason) → TellsMarks s (ignored s reason)
  nothing reason = same_mark s (ignored s reason) refl refl (λ out h. absurd h)

  unless : (r : Option Reason) (t : CoordStep) → TellsMarks s t → TellsMarks s (unless_refused s r t)
  unless (Some reason) t k = nothing reason
  unless None t k = k

  startok_tells : (id : TxnId) (x : Option Transaction) (ok : TakenStart) (shard : Shard) → TellsMarks s (after_startok plan s id x ok shard)
  startok_tells id None ok shard = nothing _
  startok_tells id (Some x) ok shard =
      unless (startok_refusal plan x ok shard) (startok_taken plan s (with_startok x ok))
      (same_mark (startok_taken plan s (with_startok x ok)).state (startok_taken plan s (with_startok x ok)) refl refl
      (λ out h. elim (has_append out (starts_of plan y) (commits_for plan (with_starts plan y)) h)
      [ inl k ↦ new_starts_none plan y out k | inr k ↦ commits (with_starts plan y) (all_started plan (with_starts plan y)) out k ]))
    where
      y : Transaction
      y = with_startok x ok

      commits : (z : Transaction) (b : Bool) → TellsNone (cond b (commits_of z) [])
      commits z true = commits_none z (shards_of z)
      commits z false = λ out h. absurd h

  commitok_tells : (id : TxnId) (x : Option Transaction) (ok : TakenCommit) → TellsMarks s (after_commitok plan s id x ok)
  commitok_tells id None ok = nothing _
  commitok_tells id (Some x) ok = unless (commitok_refusal plan x ok) (commitok_taken plan s (with_commitok x ok) (reply_now plan (with_commitok x ok))) (taken (reply_now plan (with_commitok x ok)))
    where
      taken : (reply : Option (List ℤ)) → TellsMarks s (commitok_taken plan s (with_commitok x ok) reply)
      taken None = same_mark (commitok_taken plan s (with_commitok x ok) None).state (commitok_taken plan s (with_commitok x ok) None) refl refl (λ out h. absurd h)
      taken (Some reply) =
          record {
            rises = least_left (λ u. not (is_txn u x.id)) s.unanswered s.next;
            told = answer_own plan s (without_transaction s x.id);
          }

  -- where a view is answered
  pub ended_tells : (v : View) (reply : List ℤ) → TellsMarks s (readok_taken plan s v (Ends reply))
  ended_tells v reply =
      record {
        rises = least_left (λ u. not (is_txn u v.id)) s.unanswered s.next;
        told = answer_own plan s (without_view s v.id);
      }

  readok_tells : (id : TxnId) (v : Option View) (round : ℕ) (ok : TakenRead) (shard : Shard) → TellsMarks s (after_readok plan s id v round ok shard)
  readok_tells id None round ok shard = nothing _
  readok_tells id (Some v) round ok shard = unless (readok_refusal plan v round ok shard) (readok_taken plan s (with_readok v ok) (round_of plan (with_readok v ok)))
      (taken (round_of plan (with_readok v ok)))
    where
      y : View
      y = with_readok v ok

      taken : (b : Round) → TellsMarks s (readok_taken plan s (with_readok v ok) b)
      taken Waits = same_mark (readok_taken plan s y Waits).state (readok_taken plan s y Waits) refl refl (λ out h. absurd h)
      taken GoesOn = same_mark (readok_taken plan s y GoesOn).state (readok_taken plan s y GoesOn) refl refl (reads_none plan (next_round y))
      taken (Ends reply) = ended_tells y reply

  pub tells_marks : (msg : Msg) → TellsMarks s (after_message plan s msg)
  tells_marks (StartOk id group shard bound outs edges facts) = startok_tells id (find_transaction id s.pending)
      (record { group = group; bound = bound; outs = outs; edges = edges; facts = facts }) shard
  tells_marks (CommitOk id shard outs) = commitok_tells id (find_transaction id s.pending) (record { shard = shard; outs = outs })
  tells_marks (ReadOk id round group shard versions outs) = readok_tells id (find_view id s.views) round (record { group = group; versions = versions; outs = outs }) shard
  tells_marks msg = nothing _

  -- and so it is at a tick
  pub tick_tells : (out : Outgoing) → Has out (tick_sends plan s) → (t : TxnId) → IsAbove out.msg t → (t.coord ≡ s.number) × (t.seq < watermark s)
  tick_tells out h t above = elim (has_append out (flat_map (again_of plan s) s.unanswered) (ended_sends plan s) h) [
    | inl k ↦
        (let q = from_has_flat_map (again_of plan s) out s.unanswered k in
        absurd (elim (has_append out (transaction_again plan (find_transaction q.0 s.pending)) (view_again plan (find_view q.0 s.views)) q.2) [
          | inl j ↦ transaction (find_transaction q.0 s.pending) out j t above
          | inr j ↦ view (find_view q.0 s.views) out j t above
        ]))
    | inr k ↦ marks_own plan s out k t above
  ]
    where
      transaction : (x : Option Transaction) → TellsNone (transaction_again plan x)
      transaction None out h = absurd h
      transaction (Some x) out h = again (all_started plan x) out h
        where
          again : (b : Bool) → TellsNone (cond b (commits_again x) (starts_again plan x))
          again true = commits_none x (filter (λ shard. not (has_commitok shard x.commitoks)) x.asked)
          again false = starts_none plan x (filter (awaits_startok x) (group_numbers plan x.proc))

      view : (v : Option View) → TellsNone (view_again plan v)
      view None out h = absurd h
      view (Some v) out h = group_reads_none plan v _ out h

-- ---- what is unanswered

-- by a message of transactions no view is answered
module _ (plan : Plan) (is_view : TxnId → Bool) (s : CoordState) (o : IsCoordSound is_view s) (u : TxnId) (viewed : is_view u ≡ true) (h : Has u s.unanswered) where
  abbrev Stays : CoordStep → Type 0
  Stays r = Has u r.state.unanswered

  unless_stays : (r : Option Reason) (t : CoordStep) → Stays t → Stays (unless_refused s r t)
  unless_stays (Some reason) t k = h
  unless_stays None t k = k

  startok_stays : (id : TxnId) (x : Option Transaction) (ok : TakenStart) (shard : Shard) → Stays (after_startok plan s id x ok shard)
  startok_stays id None ok shard = h
  startok_stays id (Some x) ok shard = unless_stays (startok_refusal plan x ok shard) (startok_taken plan s (with_startok x ok)) h

  commitok_stays : (id : TxnId) (x : Option Transaction) → ((y : Transaction) → x ≡ Some y → is_view y.id ≡ false) → (ok : TakenCommit) → Stays (after_commitok plan s id x ok)
  commitok_stays id None own ok = h
  commitok_stays id (Some x) own ok = unless_stays (commitok_refusal plan x ok) (commitok_taken plan s (with_commitok x ok) (reply_now plan (with_commitok x ok)))
      (taken (reply_now plan (with_commitok x ok)))
    where
      other : is_txn u x.id ≡ false
      other = false_from_ne_true (is_txn u x.id) (λ e. false≢true (sym (own x refl) ∙ (ap is_view (sym (is_txn-true u x.id e)) ∙ viewed)))

      taken : (reply : Option (List ℤ)) → Stays (commitok_taken plan s (with_commitok x ok) reply)
      taken None = h
      taken (Some reply) = has_filter (λ u. not (is_txn u x.id)) u s.unanswered h (not_from_false (is_txn u x.id) other)

  pub view_stays : (msg : Msg) → is_of_view msg ≡ false → Has u (after_message plan s msg).state.unanswered
  view_stays (StartOk id group shard bound outs edges facts) e = startok_stays id (find_transaction id s.pending)
      (record { group = group; bound = bound; outs = outs; edges = edges; facts = facts }) shard
  view_stays (CommitOk id shard outs) e = commitok_stays id (find_transaction id s.pending)
      (λ x f. pending_no_view is_view s o x (found_has (λ (y : Transaction). is_txn y.id id) s.pending x f).0) (record { shard = shard; outs = outs })
  view_stays (ReadOk id round group shard versions outs) e = absurd (false≢true (sym e))
  view_stays msg e = h
