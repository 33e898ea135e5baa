-- What comes of an answer, for each way that its handling ends
use Rattle.std.proofs.Common.{◌≡◌, ℕ, ℤ, ◌<◌, Bool, not, List, [], length, get_or, set, Option, Some, None, refl, sym, ap, subst, ◌∙◌}
use Rattle.std.specs.List.{filter, position}
use Rattle.roc_base.specs.declared.id.TxnId.{TxnId}
use Rattle.roc_base.specs.declared.node.Shard.{Shard}
use Rattle.roc_base.specs.TxnId.{is_txn, txn_lt}
use Rattle.roc_base.specs.Equalities.{is_txn-true}
use Rattle.roc_base.proofs.Ids.{is_txn-eq}
use Rattle.roc_msg.specs.Outbox.{Collected, HasSent}
use Rattle.roc_msg.proofs.Sent.{sent_none}
use Rattle.roc_msg.specs.declared.reason.Reason.{Reason}
use Rattle.roc_plan.specs.Groups.{Plan}
use Rattle.roc_readonly.specs.declared.view.Round.{Round}
use Rattle.roc_readonly.specs.declared.view.Round.TheVariants.{Waits, Ends, GoesOn}
use Rattle.roc_readonly.specs.declared.view.TakenRead.{TakenRead}
use Rattle.roc_readonly.specs.declared.view.View.{View}
use Rattle.roc_readonly.specs.Round.{with_readok, readok_refusal, round_of}
use Rattle.roc_coord.specs.declared.handled.Handled.TheVariants.{Done, Answered, Ignored}
use Rattle.roc_coord.specs.declared.transaction.TakenStart.{TakenStart}
use Rattle.roc_coord.specs.declared.transaction.TakenCommit.{TakenCommit}
use Rattle.roc_coord.specs.declared.transaction.Transaction.{Transaction}
use Rattle.roc_coord.specs.Ids.{ids_of, view_ids}
use Rattle.roc_sequence.specs.Rising.{IsRising}
use Rattle.roc_sequence.proofs.Found.{not_found}
use Rattle.roc_coord.specs.State.{ignored, find_transaction, with_transaction, find_view, with_view, CoordState, CoordStep}
use Rattle.roc_coord.specs.Inner.Reads.{view_after, round_reply, round_sends}
use Rattle.roc_coord.specs.Inner.Rises.{rise_of, rise_sends}
use Rattle.roc_coord.specs.Starts.{with_starts}
use Rattle.roc_coord.specs.Step.{IsOutcome, unless_refused, startok_refusal, startok_taken, with_startok, with_commits, sends_after, after_startok, commitok_refusal, commitok_taken, with_commitok, without_transaction, reply_now, after_commitok, unasked, unread, readok_taken, without_view, after_readok}
use Rattle.roc_coord.proofs.Among.{place_found, replaced, filter-set}

module _ (plan : Plan) (s : CoordState) where
  -- an ignored message leaves all, and sends nothing
  ignored_outcome : (step : CoordStep) (reason : Reason) (out : Collected) → step ≡ ignored s reason → IsOutcome step (Ignored reason) s out out
  ignored_outcome step reason out e = subst (λ t. IsOutcome t (Ignored reason) s out out) (sym e) (record { answer = refl; state = refl; sent = sent_none out })

  module _ (id : TxnId) where
    -- of no transaction here
    pub startok_absent : (ok : TakenStart) (shard : Shard) (reason : Reason) (out : Collected) → position (λ x. is_txn x.id id) s.pending ≡ None → unasked (find_view id s.views) ≡ reason
        → IsOutcome (after_startok plan s id (find_transaction id s.pending) ok shard) (Ignored reason) s out out
    startok_absent ok shard reason out h e =
        ignored_outcome (after_startok plan s id (find_transaction id s.pending) ok shard) reason out
        (ap (λ o. after_startok plan s id o ok shard) (not_found (λ x. is_txn x.id id) s.pending h) ∙ ap (ignored s) e)

    pub commitok_absent : (ok : TakenCommit) (reason : Reason) (out : Collected) → position (λ x. is_txn x.id id) s.pending ≡ None → unasked (find_view id s.views) ≡ reason
        → IsOutcome (after_commitok plan s id (find_transaction id s.pending) ok) (Ignored reason) s out out
    commitok_absent ok reason out h e =
        ignored_outcome (after_commitok plan s id (find_transaction id s.pending) ok) reason out
        (ap (λ o. after_commitok plan s id o ok) (not_found (λ x. is_txn x.id id) s.pending h) ∙ ap (ignored s) e)

    -- of no view here
    pub readok_absent : (round : ℕ) (ok : TakenRead) (shard : Shard) (reason : Reason) (out : Collected) → position (λ v. is_txn v.id id) s.views ≡ None → unread (find_transaction id s.pending) ≡ reason
        → IsOutcome (after_readok plan s id (find_view id s.views) round ok shard) (Ignored reason) s out out
    readok_absent round ok shard reason out h e =
        ignored_outcome (after_readok plan s id (find_view id s.views) round ok shard) reason out
        (ap (λ o. after_readok plan s id o round ok shard) (not_found (λ v. is_txn v.id id) s.views h) ∙ ap (ignored s) e)

    -- ---- of a transaction at a place
    module _ (at : ℕ) (place : position (λ x. is_txn x.id id) s.pending ≡ Some at) (x : Transaction) (is : x ≡ get_or s.pending at x) where
      found : find_transaction id s.pending ≡ Some x
      found = (place_found (λ v. is_txn v.id id) s.pending at place).found x ∙ ap Some (sym is)

      own_id : x.id ≡ id
      own_id = is_txn-true x.id id (ap (λ v. is_txn v.id id) is ∙ (place_found (λ v. is_txn v.id id) s.pending at place).passes x)

      within : at < length s.pending
      within = (place_found (λ v. is_txn v.id id) s.pending at place).within

      -- the transaction there is now another one of its id
      put_back : (y : Transaction) → IsRising txn_lt (ids_of s.pending) → y.id ≡ x.id → record s { pending = set s.pending at y } ≡ with_transaction s y
      put_back y rising own =
          let with_list : List Transaction → CoordState = λ pending. record s { pending = pending } in
          ap with_list (sym (replaced (λ v. v.id) s.pending at y x rising within (ap (λ (v : Transaction). v.id) (sym is) ∙ sym own)))

      -- a StartOk that there is a reason to ignore, and one that is taken
      pub startok_refused : (ok : TakenStart) (shard : Shard) (out : Collected) (reason : Reason) → startok_refusal plan x ok shard ≡ Some reason
          → IsOutcome (after_startok plan s id (find_transaction id s.pending) ok shard) (Ignored reason) s out out
      startok_refused ok shard out reason h =
          ignored_outcome (after_startok plan s id (find_transaction id s.pending) ok shard) reason out
          (ap (λ o. after_startok plan s id o ok shard) found ∙ ap (λ o. unless_refused s o (startok_taken plan s (with_startok x ok))) h)

      pub startok_done : (ok : TakenStart) (shard : Shard) (before after : Collected) (y : Transaction) → IsRising txn_lt (ids_of s.pending) → startok_refusal plan x ok shard ≡ None
          → y ≡ with_commits plan (with_starts plan (with_startok x ok)) → y.id ≡ x.id → HasSent before after (sends_after plan (with_startok x ok))
          → IsOutcome (after_startok plan s id (find_transaction id s.pending) ok shard) Done (record s { pending = set s.pending at y }) before after
      startok_done ok shard before after y rising h e f g =
          let taken : CoordStep = startok_taken plan s (with_startok x ok) in
          let step : after_startok plan s id (find_transaction id s.pending) ok shard ≡ taken = ap (λ o. after_startok plan s id o ok shard) found ∙ ap (λ o. unless_refused s o taken) h in
          let outcome : IsOutcome taken Done (record s { pending = set s.pending at y }) before after =
          record { answer = refl; state = put_back y rising f ∙ ap (with_transaction s) e; sent = g }
          in subst (λ t. IsOutcome t Done (record s { pending = set s.pending at y }) before after) (sym step) outcome

      pub commitok_refused : (ok : TakenCommit) (out : Collected) (reason : Reason) → commitok_refusal plan x ok ≡ Some reason
          → IsOutcome (after_commitok plan s id (find_transaction id s.pending) ok) (Ignored reason) s out out
      commitok_refused ok out reason h =
          ignored_outcome (after_commitok plan s id (find_transaction id s.pending) ok) reason out
          (ap (λ o. after_commitok plan s id o ok) found ∙ ap (λ o. unless_refused s o (commitok_taken plan s (with_commitok x ok) (reply_now plan (with_commitok x ok)))) h)

      commitok_step : (ok : TakenCommit) (reply : Option (List ℤ)) → commitok_refusal plan x ok ≡ None → reply_now plan (with_commitok x ok) ≡ reply
          → after_commitok plan s id (find_transaction id s.pending) ok ≡ commitok_taken plan s (with_commitok x ok) reply
      commitok_step ok reply h k =
          let taken : Option (List ℤ) → CoordStep = commitok_taken plan s (with_commitok x ok) in
          ap (λ o. after_commitok plan s id o ok) found ∙ ap (λ o. unless_refused s o (taken (reply_now plan (with_commitok x ok)))) h ∙ ap taken k

      pub commitok_done : (ok : TakenCommit) (before after : Collected) (y : Transaction) → IsRising txn_lt (ids_of s.pending) → commitok_refusal plan x ok ≡ None
          → y ≡ with_commitok x ok → reply_now plan (with_commitok x ok) ≡ None → HasSent before after []
          → IsOutcome (after_commitok plan s id (find_transaction id s.pending) ok) Done (record s { pending = set s.pending at y }) before after
      commitok_done ok before after y rising h e k g =
          let same_id : y.id ≡ x.id = ap (λ (v : Transaction). v.id) e in
          let outcome : IsOutcome (commitok_taken plan s (with_commitok x ok) None) Done (record s { pending = set s.pending at y }) before after =
          record { answer = refl; state = put_back y rising same_id ∙ ap (with_transaction s) e; sent = g }
          in subst (λ t. IsOutcome t Done (record s { pending = set s.pending at y }) before after) (sym (commitok_step ok None h k)) outcome

      -- the last CommitOk: what is told is of the ids without the answered one
      pub commitok_answered : (ok : TakenCommit) (before after : Collected) (y : Transaction) (reply : List ℤ) → commitok_refusal plan x ok ≡ None
          → y ≡ with_commitok x ok → reply_now plan (with_commitok x ok) ≡ Some reply → HasSent before after (rise_sends plan (rise_of s.number s.next s.unanswered id))
          → IsOutcome (after_commitok plan s id (find_transaction id s.pending) ok) (Answered id reply)
          (record s { pending = filter (λ v. not (is_txn v.id id)) (set s.pending at y); unanswered = filter (λ u. not (is_txn u id)) s.unanswered }) before after
      commitok_answered ok before after y reply h e k g =
          let others : Transaction → Bool = λ v. not (is_txn v.id id) in
          let with_list : List Transaction → CoordState = λ pending. record s { pending = pending; unanswered = filter (λ u. not (is_txn u id)) s.unanswered } in
          let same_id : y.id ≡ id = ap (λ (v : Transaction). v.id) e ∙ own_id in
          let is_out = ap not ((place_found (λ v. is_txn v.id id) s.pending at place).passes x) in
          let left : with_list (filter others (set s.pending at y)) ≡ without_transaction s id = ap with_list (filter-set others s.pending at y x within is_out (ap not (is_txn-eq y.id id same_id))) in
          let answered : TxnId → CoordStep = λ v. record { answer = Answered v reply; state = without_transaction s v; sends = rise_sends plan (rise_of s.number s.next s.unanswered v) } in
          let step : after_commitok plan s id (find_transaction id s.pending) ok ≡ answered id = commitok_step ok (Some reply) h k ∙ ap answered own_id in
          let outcome : IsOutcome (answered id) (Answered id reply) (with_list (filter others (set s.pending at y))) before after = record { answer = refl; state = left; sent = g } in
          subst (λ t. IsOutcome t (Answered id reply) (with_list (filter others (set s.pending at y))) before after) (sym step) outcome

    -- ---- of a view at a place
    module _ (at : ℕ) (place : position (λ v. is_txn v.id id) s.views ≡ Some at) (x : View) (is : x ≡ get_or s.views at x) where
      found_view : find_view id s.views ≡ Some x
      found_view = (place_found (λ v. is_txn v.id id) s.views at place).found x ∙ ap Some (sym is)

      own_view : x.id ≡ id
      own_view = is_txn-true x.id id (ap (λ v. is_txn v.id id) is ∙ (place_found (λ v. is_txn v.id id) s.views at place).passes x)

      within_views : at < length s.views
      within_views = (place_found (λ v. is_txn v.id id) s.views at place).within

      view_back : (y : View) → IsRising txn_lt (view_ids s.views) → y.id ≡ x.id → record s { views = set s.views at y } ≡ with_view s y
      view_back y rising own =
          let with_list : List View → CoordState = λ views. record s { views = views } in
          ap with_list (sym (replaced (λ v. v.id) s.views at y x rising within_views (ap (λ (v : View). v.id) (sym is) ∙ sym own)))

      pub readok_refused : (round : ℕ) (ok : TakenRead) (shard : Shard) (out : Collected) (reason : Reason) → readok_refusal plan x round ok shard ≡ Some reason
          → IsOutcome (after_readok plan s id (find_view id s.views) round ok shard) (Ignored reason) s out out
      readok_refused round ok shard out reason h =
          ignored_outcome (after_readok plan s id (find_view id s.views) round ok shard) reason out
          (ap (λ o. after_readok plan s id o round ok shard) found_view ∙ ap (λ o. unless_refused s o (readok_taken plan s (with_readok x ok) (round_of plan (with_readok x ok)))) h)

      readok_step : (round : ℕ) (ok : TakenRead) (shard : Shard) → readok_refusal plan x round ok shard ≡ None
          → after_readok plan s id (find_view id s.views) round ok shard ≡ readok_taken plan s (with_readok x ok) (round_of plan (with_readok x ok))
      readok_step round ok shard h =
          ap (λ o. after_readok plan s id o round ok shard) found_view ∙ ap (λ o. unless_refused s o (readok_taken plan s (with_readok x ok) (round_of plan (with_readok x ok)))) h

      -- a ReadOk behind which there is no reply yet
      pub readok_done : (round : ℕ) (ok : TakenRead) (shard : Shard) (before after : Collected) (y : View) → IsRising txn_lt (view_ids s.views) → readok_refusal plan x round ok shard ≡ None
          → y ≡ view_after (round_of plan (with_readok x ok)) (with_readok x ok) → round_reply (round_of plan (with_readok x ok)) ≡ None
          → HasSent before after (round_sends plan (rise_of s.number s.next s.unanswered id) (round_of plan (with_readok x ok)) (with_readok x ok))
          → IsOutcome (after_readok plan s id (find_view id s.views) round ok shard) Done (record s { views = set s.views at y }) before after
      readok_done round ok shard before after y rising h e k g =
          subst (λ t. IsOutcome t Done (record s { views = set s.views at y }) before after) (sym (readok_step round ok shard h)) (go (round_of plan (with_readok x ok)) e k g)
        where
          go : (r : Round) → y ≡ view_after r (with_readok x ok) → round_reply r ≡ None → HasSent before after (round_sends plan (rise_of s.number s.next s.unanswered id) r (with_readok x ok))
              → IsOutcome (readok_taken plan s (with_readok x ok) r) Done (record s { views = set s.views at y }) before after
          go Waits f none sent = record { answer = refl; state = view_back y rising (ap (λ (v : View). v.id) f) ∙ ap (with_view s) f; sent = sent }
          go (Ends reply) f none sent = absurd (cc)
          go GoesOn f none sent = record { answer = refl; state = view_back y rising (ap (λ (v : View). v.id) f) ∙ ap (with_view s) f; sent = sent }

      -- the last ReadOk of a round that found what the one before found
      pub readok_answered : (round : ℕ) (ok : TakenRead) (shard : Shard) (before after : Collected) (y : View) (reply : List ℤ) → readok_refusal plan x round ok shard ≡ None
          → y ≡ view_after (round_of plan (with_readok x ok)) (with_readok x ok) → round_reply (round_of plan (with_readok x ok)) ≡ Some reply
          → HasSent before after (round_sends plan (rise_of s.number s.next s.unanswered id) (round_of plan (with_readok x ok)) (with_readok x ok))
          → IsOutcome (after_readok plan s id (find_view id s.views) round ok shard) (Answered id reply)
          (record s { views = filter (λ v. not (is_txn v.id id)) (set s.views at y); unanswered = filter (λ u. not (is_txn u id)) s.unanswered }) before after
      readok_answered round ok shard before after y reply h e k g =
          subst (λ t. IsOutcome t (Answered id reply) behind before after) (sym (readok_step round ok shard h)) (go (round_of plan (with_readok x ok)) e k g)
        where
          behind : CoordState
          behind = record s { views = filter (λ v. not (is_txn v.id id)) (set s.views at y); unanswered = filter (λ u. not (is_txn u id)) s.unanswered }

          answered : TxnId → List ℤ → CoordStep
          answered u values = record { answer = Answered u values; state = without_view s u; sends = rise_sends plan (rise_of s.number s.next s.unanswered u) }

          left : y.id ≡ id → behind ≡ without_view s id
          left same_id =
              let with_list : List View → CoordState = λ views. record s { views = views; unanswered = filter (λ u. not (is_txn u id)) s.unanswered } in
              let is_out = ap not ((place_found (λ v. is_txn v.id id) s.views at place).passes x) in
              ap with_list (filter-set (λ v. not (is_txn v.id id)) s.views at y x within_views is_out (ap not (is_txn-eq y.id id same_id)))

          go : (r : Round) → y ≡ view_after r (with_readok x ok) → round_reply r ≡ Some reply → HasSent before after (round_sends plan (rise_of s.number s.next s.unanswered id) r (with_readok x ok))
              → IsOutcome (readok_taken plan s (with_readok x ok) r) (Answered id reply) behind before after
          go Waits f some sent = absurd (cc)
          go (Ends values) f some sent =
              let same : values ≡ reply = cc in
              let outcome : IsOutcome (answered id reply) (Answered id reply) behind before after = record { answer = refl; state = left (ap (λ (v : View). v.id) f ∙ own_view); sent = sent } in
              subst (λ t. IsOutcome t (Answered id reply) behind before after) (sym (ap (λ u. answered u values) own_view ∙ ap (answered id) same)) outcome
          go GoesOn f some sent = absurd (cc)
