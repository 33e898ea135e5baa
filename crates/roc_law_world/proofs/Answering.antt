-- Each id that was submitted is unanswered at its coordinator, or was answered, once
use Rattle.std.proofs.Common.{◌≡◌, ◌≢◌, ◌∙◌, ◌⊎◌, inl, inr, ℕ, ℤ, Bool, true, false, not, List, [], ◌∷◌, ◌++◌, Option, Some, None, map, refl, sym, ap, subst}
use Rattle.std.proofs.lemmas.Bool.{false≢true, cases_eq}
use Rattle.std.specs.Prelude.{slice_get, slice_set, if◌then◌else◌}
use Rattle.std.specs.List.{filter}
use Rattle.roc_sequence.specs.Lists.{Has}
use Rattle.roc_sequence.proofs.Found.{found_has}
use Rattle.roc_sequence.proofs.Members.{has_append, has_left, has_right, has_map, from_has_map, from_has_filter, same_there}
use Rattle.roc_base.specs.declared.id.TxnId.{TxnId}
use Rattle.roc_base.specs.declared.node.Shard.{Shard}
use Rattle.roc_base.specs.TxnId.{is_txn}
use Rattle.roc_base.specs.Equalities.{is_txn-true, is_txn-same}
use Rattle.roc_msg.specs.declared.msg.Msg.{Msg}
use Rattle.roc_msg.specs.declared.msg.Msg.TheVariants.{StartOk, CommitOk, ReadOk}
use Rattle.roc_msg.specs.declared.reason.Reason.{Reason}
use Rattle.roc_plan.specs.Groups.{Plan}
use Rattle.roc_readonly.specs.declared.view.Round.{Round}
use Rattle.roc_readonly.specs.declared.view.Round.TheVariants.{Waits, Ends, GoesOn}
use Rattle.roc_readonly.specs.declared.view.TakenRead.{TakenRead}
use Rattle.roc_readonly.specs.declared.view.View.{View}
use Rattle.roc_readonly.specs.Round.{with_readok, next_round, round_of, readok_refusal}
use Rattle.roc_coord.specs.declared.handled.Handled.TheVariants as coord_answer
use Rattle.roc_coord.specs.declared.transaction.TakenCommit.{TakenCommit}
use Rattle.roc_coord.specs.declared.transaction.TakenStart.{TakenStart}
use Rattle.roc_coord.specs.declared.transaction.Transaction.{Transaction}
use Rattle.roc_coord.specs.Ids.{ids_of, view_ids}
use Rattle.roc_coord.specs.State.{ignored, find_transaction, find_view, CoordState, CoordStep}
use Rattle.roc_coord.specs.Step.{unless_refused, with_startok, startok_taken, startok_refusal, after_startok, with_commitok, reply_now, commitok_taken, commitok_refusal, after_commitok, readok_taken, after_readok, after_message}
use Rattle.roc_audit.specs.declared.entry.Entry.{Entry}
use Rattle.roc_audit.specs.declared.entry.Entry.TheVariants.{Submitted, Answered}
use Rattle.roc_audit.specs.History.{WasSubmitted, WasAnswered, IsToldOnce}
use Rattle.roc_audit.proofs.Histories.{submitted_front}
use Rattle.roc_law_protocol.specs.Happens.{answer_entries}
use Rattle.roc_law_world.specs.World.{World}
use Rattle.roc_law_world.proofs.Coordinators.{IsCoordSound, pending_no_view}
use Rattle.roc_law_protocol.proofs.Changed.{get-set_here, get-set_other, get-set_cases}

-- ---- what comes of a message at a coordinator

-- nothing is answered, and each view is one of an old id; or this id is
pub data Answers (s : CoordState) (r : CoordStep) : Type 0 where
  none_answered : r.state.unanswered ≡ s.unanswered → answer_entries r.answer ≡ [] → ((v : View) → Has v r.state.views → (u : View) × Has u s.views × (v.id ≡ u.id)) → Answers s r
  one_answered : (id : TxnId) (reply : List ℤ) → r.answer ≡ coord_answer.Answered id reply → Has id (ids_of s.pending) ⊎ Has id (view_ids s.views)
      → r.state.unanswered ≡ filter (λ u. not (is_txn u id)) s.unanswered → ((v : View) → Has v r.state.views → Has v s.views × (v.id ≢ id)) → Answers s r

replaced : (v : View) (ws : List View) (x : View) → Has x (map (λ u. if is_txn u.id v.id then v else u) ws) → (u : View) × Has u ws × (x.id ≡ u.id)
replaced v ws x h =
    let q = from_has_map (λ (u : View). if is_txn u.id v.id then v else u) x ws h in
    (q.0, q.1, ap (λ (u : View). u.id) q.2 ∙ one q.0 (is_txn q.0.id v.id) refl)
  where
    one : (u : View) (b : Bool) → is_txn u.id v.id ≡ b → (if b then v else u).id ≡ u.id
    one u true e = sym (is_txn-true u.id v.id e)
    one u false e = refl

module _ (plan : Plan) (is_view : TxnId → Bool) (s : CoordState) (o : IsCoordSound is_view s) where
  ignores : (reason : Reason) → Answers s (ignored s reason)
  ignores reason = none_answered refl refl (λ v h. (v, h, refl))

  unless : (r : Option Reason) (t : CoordStep) → Answers s t → Answers s (unless_refused s r t)
  unless (Some reason) t k = ignores reason
  unless None t k = k

  startok_answers : (id : TxnId) (x : Option Transaction) (ok : TakenStart) (shard : Shard) → Answers s (after_startok plan s id x ok shard)
  startok_answers id None ok shard = ignores _
  startok_answers id (Some x) ok shard = unless (startok_refusal plan x ok shard) (startok_taken plan s (with_startok x ok)) (none_answered refl refl (λ v h. (v, h, refl)))

  commitok_answers : (id : TxnId) (x : Option Transaction) → find_transaction id s.pending ≡ x → (ok : TakenCommit) → Answers s (after_commitok plan s id x ok)
  commitok_answers id None e ok = ignores _
  commitok_answers id (Some x) e ok =
      unless (commitok_refusal plan x ok) (commitok_taken plan s (with_commitok x ok) (reply_now plan (with_commitok x ok))) (taken (reply_now plan (with_commitok x ok)))
    where
      has : Has x s.pending
      has = (found_has (λ (y : Transaction). is_txn y.id id) s.pending x e).0

      taken : (reply : Option (List ℤ)) → Answers s (commitok_taken plan s (with_commitok x ok) reply)
      taken None = none_answered refl refl (λ v h. (v, h, refl))
      taken (Some reply) =
          one_answered x.id reply refl (inl (has_map (λ (y : Transaction). y.id) x s.pending has)) refl
          (λ v h. (h, λ d. false≢true (sym (pending_no_view is_view s o x has) ∙ (ap is_view (sym d) ∙ o.views v h))))

  readok_answers : (id : TxnId) (x : Option View) → find_view id s.views ≡ x → (round : ℕ) (ok : TakenRead) (shard : Shard) → Answers s (after_readok plan s id x round ok shard)
  readok_answers id None e round ok shard = ignores _
  readok_answers id (Some v) e round ok shard =
      unless (readok_refusal plan v round ok shard) (readok_taken plan s (with_readok v ok) (round_of plan (with_readok v ok))) (rounds (round_of plan (with_readok v ok)))
    where
      has : Has v s.views
      has = (found_has (λ (y : View). is_txn y.id id) s.views v e).0

      rounds : (b : Round) → Answers s (readok_taken plan s (with_readok v ok) b)
      rounds Waits = none_answered refl refl (replaced (with_readok v ok) s.views)
      rounds GoesOn = none_answered refl refl (replaced (next_round (with_readok v ok)) s.views)
      rounds (Ends reply) =
          one_answered v.id reply refl (inr (has_map (λ (y : View). y.id) v s.views has)) refl
          (λ u h. let f = from_has_filter (λ (y : View). not (is_txn y.id v.id)) u s.views h in
          (f.0, λ d. false≢true (sym (ap not (ap (λ t. is_txn t v.id) d ∙ is_txn-same v.id)) ∙ f.1)))

  pub message_answers : (msg : Msg) → Answers s (after_message plan s msg)
  message_answers (StartOk id group shard bound outs edges facts) =
      startok_answers id (find_transaction id s.pending) (record { group = group; bound = bound; outs = outs; edges = edges; facts = facts }) shard
  message_answers (CommitOk id shard outs) = commitok_answers id (find_transaction id s.pending) refl (record { shard = shard; outs = outs })
  message_answers (ReadOk id round group shard versions outs) =
      readok_answers id (find_view id s.views) refl round (record { group = group; versions = versions; outs = outs }) shard
  message_answers msg = ignores _

-- ---- what is told

-- an entry of a list, and what stands before it
has_split : (e : Entry) (xs : List Entry) → Has e xs → (front : List Entry) × (back : List Entry) × (xs ≡ front ++ e ∷ back)
has_split e [] h = absurd h
has_split e (x ∷ xs) (inl same) = ([], xs, ap (λ x. x ∷ xs) (sym same))
has_split e (x ∷ xs) (inr h) = let r = has_split e xs h in (x ∷ r.0, r.1, ap (λ l. x ∷ l) r.2)

-- who was answered was submitted
pub answered_submitted : (history : List Entry) → IsToldOnce history → (t : TxnId) (reply : List ℤ) → WasAnswered history t reply → WasSubmitted history t
answered_submitted history told t reply h =
    let f = has_split (Answered t reply) history h in
    subst (λ l. WasSubmitted l t) (sym f.2) (submitted_front f.0 (Answered t reply ∷ f.1) t (told.each f.0 f.1 (Answered t reply) f.2).0)

-- ---- in every world

pub record AreTold (w : World) : Type 0 where
  -- who is unanswered was submitted at this coordinator, and was not answered
  pub unanswered :
      (n : ℕ) (c : CoordState) → slice_get w.coords n ≡ Some c → (t : TxnId) → Has t c.unanswered
      → (t.coord ≡ n) × WasSubmitted w.history t × ((reply : List ℤ) → ¬ WasAnswered w.history t reply)
  pub views : (n : ℕ) (c : CoordState) → slice_get w.coords n ≡ Some c → (v : View) → Has v c.views → Has v.id c.unanswered
  pub kept : (t : TxnId) → WasSubmitted w.history t → (c : CoordState) × (slice_get w.coords t.coord ≡ Some c) × (Has t c.unanswered ⊎ ((reply : List ℤ) × WasAnswered w.history t reply))
  pub once : IsToldOnce w.history

-- a coordinator takes a step, and this is told
pub record Telling (w : World) (n : ℕ) (s after : CoordState) (told : List Entry) : Type 0 where
  pub old_or_new : (t : TxnId) → Has t after.unanswered → Has t s.unanswered ⊎ ((t.coord ≡ n) × WasSubmitted told t × ((reply : List ℤ) → ¬ WasAnswered w.history t reply))
  pub still_unanswered : (t : TxnId) → Has t after.unanswered → (reply : List ℤ) → ¬ WasAnswered told t reply
  pub own : (t : TxnId) (reply : List ℤ) → WasAnswered told t reply → t.coord ≡ n
  pub views : (v : View) → Has v after.views → Has v.id after.unanswered
  pub left : (t : TxnId) → Has t s.unanswered → Has t after.unanswered ⊎ ((reply : List ℤ) × WasAnswered told t reply)
  pub submitted : (t : TxnId) → WasSubmitted told t → (t.coord ≡ n) × Has t after.unanswered
  pub once : IsToldOnce (w.history ++ told)

module _ (w : World) (o : AreTold w) (n : ℕ) (s after : CoordState) (there : slice_get w.coords n ≡ Some s) (told : List Entry) (g : Telling w n s after told) where
  later : (t : TxnId) → WasSubmitted w.history t → WasSubmitted (w.history ++ told) t
  later t h = submitted_front w.history told t h

  later_told : (t : TxnId) → WasSubmitted told t → WasSubmitted (w.history ++ told) t
  later_told t h = (h.0, h.1, has_right (Submitted t h.0 h.1) w.history told h.2)

  none_later : (t : TxnId) → ((reply : List ℤ) → ¬ WasAnswered w.history t reply) → ((reply : List ℤ) → ¬ WasAnswered told t reply) → (reply : List ℤ) → ¬ WasAnswered (w.history ++ told) t reply
  none_later t old new reply h = elim (has_append (Answered t reply) w.history told h) [ inl k ↦ old reply k | inr k ↦ new reply k ]

  unanswered_then : (k : ℕ) (c : CoordState) → slice_get (slice_set w.coords n after) k ≡ Some c → (t : TxnId) → Has t c.unanswered
      → (t.coord ≡ k) × WasSubmitted (w.history ++ told) t × ((reply : List ℤ) → ¬ WasAnswered (w.history ++ told) t reply)
  unanswered_then k c at t h = elim (get-set_cases w.coords n k s after c there at) [
    | inl e ↦
        (let here : Has t after.unanswered = subst (λ (c : CoordState). Has t c.unanswered) e.1 h in
        elim (g.old_or_new t here) [
          | inl j ↦ (let r = o.unanswered n s there t j in (r.0 ∙ e.0, later t r.1, none_later t r.2 (g.still_unanswered t here)))
          | inr j ↦ (j.0 ∙ e.0, later_told t j.1, none_later t j.2 (g.still_unanswered t here))
        ])
    | inr e ↦ (let r = o.unanswered k c e.1 t h in (r.0, later t r.1, none_later t r.2 (λ reply z. e.0 (sym (g.own t reply z) ∙ r.0))))
  ]

  abbrev Kept : TxnId → Type 0
  Kept t = (c : CoordState) × (slice_get (slice_set w.coords n after) t.coord ≡ Some c) × (Has t c.unanswered ⊎ ((reply : List ℤ) × WasAnswered (w.history ++ told) t reply))

  here_after : (t : TxnId) → n ≡ t.coord → slice_get (slice_set w.coords n after) t.coord ≡ Some after
  here_after t e = subst (λ k. slice_get (slice_set w.coords n after) k ≡ Some after) e (get-set_here w.coords n s after there)

  kept_then : (t : TxnId) → WasSubmitted (w.history ++ told) t → Kept t
  kept_then t h = elim (has_append (Submitted t h.0 h.1) w.history told h.2) [
    | inl j ↦ old (o.kept t (h.0, h.1, j)) (cases_eq n t.coord)
    | inr j ↦ (let q = g.submitted t (h.0, h.1, j) in (after, here_after t (sym q.0), inl q.1))
  ]
    where
      still_answered : (reply : List ℤ) × WasAnswered w.history t reply → (reply : List ℤ) × WasAnswered (w.history ++ told) t reply
      still_answered r = (r.0, has_left (Answered t r.0) w.history told r.1)

      old : (c : CoordState) × (slice_get w.coords t.coord ≡ Some c) × (Has t c.unanswered ⊎ ((reply : List ℤ) × WasAnswered w.history t reply)) → (n ≡ t.coord) ⊎ (n ≢ t.coord) → Kept t
      old r (inl e) =
          let same : r.0 ≡ s = same_there w.coords n r.0 s (subst (λ k. slice_get w.coords k ≡ Some r.0) (sym e) r.1) there in (
            after,
            here_after t e,
            elim r.2 [
              | inl j ↦ elim (g.left t (subst (λ (c : CoordState). Has t c.unanswered) same j)) [ inl i ↦ inl i | inr i ↦ inr (i.0, has_right (Answered t i.0) w.history told i.1) ]
              | inr j ↦ inr (still_answered j)
            ],
          )
      old r (inr other) = (r.0, get-set_other w.coords n t.coord after other ∙ r.1, elim r.2 [ inl j ↦ inl j | inr j ↦ inr (still_answered j) ])

  pub told_at : (u : World) → u.coords ≡ slice_set w.coords n after → u.history ≡ w.history ++ told → AreTold u
  told_at u coords history =
      record {
        unanswered = λ k c at t h.
            subst (λ l. (t.coord ≡ k) × WasSubmitted l t × ((reply : List ℤ) → ¬ WasAnswered l t reply)) (sym history)
            (unanswered_then k c (subst (λ l. slice_get l k ≡ Some c) coords at) t h);
        views = λ k c at v h. elim (get-set_cases w.coords n k s after c there (subst (λ l. slice_get l k ≡ Some c) coords at)) [
          | inl e ↦ subst (λ (c : CoordState). Has v.id c.unanswered) (sym e.1) (g.views v (subst (λ (c : CoordState). Has v c.views) e.1 h))
          | inr e ↦ o.views k c e.1 v h
        ];
        kept = λ t h.
            (let q = kept_then t (subst (λ l. WasSubmitted l t) history h) in
            (q.0, subst (λ l. slice_get l t.coord ≡ Some q.0) (sym coords) q.1, subst (λ l. Has t q.0.unanswered ⊎ ((reply : List ℤ) × WasAnswered l t reply)) (sym history) q.2));
        once = subst IsToldOnce (sym history) g.once;
      }
