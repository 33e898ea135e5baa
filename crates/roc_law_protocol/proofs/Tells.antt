-- What a history tells of a coordinator as it grows, and what a message leaves of the ids that are pending
use Rattle.std.proofs.Common.{◌≡◌, ℕ, ℤ, ◌≤◌, ◌==◌, ◌&&◌, ◌||◌, Bool, true, false, not, cond, List, [], ◌∷◌, ◌++◌, Option, Some, None, length, map, refl, sym, ap, subst, ◌∙◌, inl, inr, arith, append-nil}
use Rattle.std.proofs.lemmas.Bool.{cond-true, eqb-true, false≢true}
use Rattle.std.proofs.lemmas.List.Elements.{filter-append}
use Rattle.std.proofs.lemmas.List.Folds.{list_any-append}
use Rattle.std.specs.Prelude.{filter, if◌then◌else◌}
use Rattle.std.specs.List.{list_any}
use Rattle.roc_sequence.specs.Lists.{Has}
use Rattle.roc_sequence.proofs.Holds.{any_has}
use Rattle.roc_base.specs.declared.id.TxnId.{TxnId}
use Rattle.roc_base.specs.TxnId.{is_txn}
use Rattle.roc_base.specs.Equalities.{is_txn-true}
use Rattle.roc_msg.specs.declared.msg.Msg.{Msg}
use Rattle.roc_msg.specs.declared.msg.Msg.TheVariants.{StartOk, CommitOk, ReadOk}
use Rattle.roc_msg.specs.declared.reason.Reason.{Reason}
use Rattle.roc_plan.specs.Groups.{Plan}
use Rattle.roc_coord.specs.declared.handled.Handled.{Handled}
use Rattle.roc_coord.specs.declared.handled.Handled.TheVariants as answer
use Rattle.roc_coord.specs.declared.transaction.Transaction.{Transaction}
use Rattle.roc_coord.specs.Ids.{ids_of}
use Rattle.roc_coord.specs.State.{find_transaction, CoordState, find_view}
use Rattle.roc_coord.specs.Starts.{with_starts}
use Rattle.roc_coord.specs.Step.{unless_refused, with_commits, with_startok, startok_taken, startok_refusal, after_startok, with_commitok, reply_now, commitok_taken, commitok_refusal, after_commitok, after_message, readok_taken, after_readok}
use Rattle.roc_audit.specs.declared.entry.Entry.{Entry}
use Rattle.roc_audit.specs.declared.entry.Entry.TheVariants.{Submitted, Answered}
use Rattle.roc_audit.specs.History.{WasSubmitted, WasAnswered}
use Rattle.roc_law_protocol.specs.Unanswered.{submitted_at, answers, unanswered_at}
use Rattle.roc_law_protocol.proofs.Grows.{filter_same}
use Rattle.roc_law_protocol.proofs.Buffered.{filter_and, filter_map_under}
use Rattle.roc_law_protocol.proofs.Submissions.{IsNoReadOk}
use Rattle.roc_coord.specs.declared.transaction.TakenStart.{TakenStart}
use Rattle.roc_coord.specs.declared.transaction.TakenCommit.{TakenCommit}
use Rattle.roc_readonly.specs.declared.view.TakenRead.{TakenRead}
use Rattle.roc_readonly.specs.declared.view.View.{View}
use Rattle.roc_readonly.specs.declared.view.Round.{Round}
use Rattle.roc_readonly.specs.declared.view.Round.TheVariants.{Waits, Ends, GoesOn}
use Rattle.roc_readonly.specs.Round.{with_readok, readok_refusal, round_of}

-- ---- lists

pub all_kept : {A : Type 0} (p : A → Bool) (xs : List A) → ((x : A) → Has x xs → p x ≡ true) → filter p xs ≡ xs
all_kept p [] h = refl
all_kept p (x ∷ xs) h = cond-true (p x) (x ∷ filter p xs) (filter p xs) (h x (inl refl)) ∙ ap (λ l. x ∷ l) (all_kept p xs (λ y k. h y (inr k)))

pub fewer : {A : Type 0} (p : A → Bool) (xs : List A) → length (filter p xs) ≤ length xs
fewer p [] = omega arith
fewer p (x ∷ xs) = let ih = fewer p xs in elim (p x) as (λ b. length (cond b (x ∷ filter p xs) (filter p xs)) ≤ length (x ∷ xs)) [ true ↦ omega (arith, ih) | false ↦ omega (arith, ih) ]

-- ---- what a history tells

pub told_more : (n : ℕ) (h more : List Entry) → submitted_at n (h ++ more) ≡ submitted_at n h ++ submitted_at n more
told_more n [] more = refl
told_more n (Answered t reply ∷ h) more = told_more n h more
told_more n (Submitted t proc args ∷ h) more = go (t.coord == n) (told_more n h more)
  where
    go : (b : Bool) → submitted_at n (h ++ more) ≡ submitted_at n h ++ submitted_at n more
        → cond b (t ∷ submitted_at n (h ++ more)) (submitted_at n (h ++ more)) ≡ cond b (t ∷ submitted_at n h) (submitted_at n h) ++ submitted_at n more
    go true ih = ap (λ l. t ∷ l) ih
    go false ih = ih

pub was_told : (n : ℕ) (h : List Entry) (t : TxnId) → Has t (submitted_at n h) → WasSubmitted h t × (t.coord ≡ n)
was_told n [] t k = absurd k
was_told n (Answered u reply ∷ h) t k = let r = was_told n h t k in ((r.0.0, r.0.1, inr r.0.2), r.1)
was_told n (Submitted u proc args ∷ h) t k = go (u.coord == n) refl k (was_told n h t)
  where
    go : (b : Bool) → (u.coord == n) ≡ b → Has t (cond b (u ∷ submitted_at n h) (submitted_at n h)) → (Has t (submitted_at n h) → WasSubmitted h t × (t.coord ≡ n))
        → WasSubmitted (Submitted u proc args ∷ h) t × (t.coord ≡ n)
    go true e (inl k) ih = ((proc, args, inl (ap (λ t. Submitted t proc args) k)), ap (λ (t : TxnId). t.coord) k ∙ eqb-true u.coord n e)
    go true e (inr k) ih = let r = ih k in ((r.0.0, r.0.1, inr r.0.2), r.1)
    go false e k ih = let r = ih k in ((r.0.0, r.0.1, inr r.0.2), r.1)

-- an answer takes its transaction out
pub answer_out : (h : List Entry) (t : TxnId) (reply : List ℤ) (m : ℕ) → unanswered_at m (h ++ Answered t reply ∷ []) ≡ filter (λ u. not (is_txn u t)) (unanswered_at m h)
answer_out h t reply m =
    ap (filter (λ u. not (list_any (answers u) (h ++ Answered t reply ∷ [])))) (told_more m h (Answered t reply ∷ []) ∙ append-nil (submitted_at m h))
    ∙ (filter_same (λ u. not (list_any (answers u) (h ++ Answered t reply ∷ []))) (λ u. not (list_any (answers u) h) && not (is_txn u t)) (submitted_at m h)
    (λ u k. ap not (list_any-append (answers u) h (Answered t reply ∷ [])) ∙ parts (list_any (answers u) h) (is_txn u t))
    ∙ filter_and (λ u. not (list_any (answers u) h)) (λ u. not (is_txn u t)) (submitted_at m h))
  where
    parts : (a b : Bool) → not (a || (b || false)) ≡ (not a && not b)
    parts true b = refl
    parts false true = refl
    parts false false = refl

-- a submission puts its own in
pub submission_in : (h : List Entry) (t : TxnId) (proc : ℕ) (args : List ℤ) (m : ℕ) → list_any (answers t) h ≡ false
    → unanswered_at m (h ++ Submitted t proc args ∷ []) ≡ unanswered_at m h ++ (if t.coord == m then t ∷ [] else [])
submission_in h t proc args m unheard =
    filter_same (λ u. not (list_any (answers u) (h ++ Submitted t proc args ∷ []))) (λ u. not (list_any (answers u) h)) (submitted_at m (h ++ Submitted t proc args ∷ []))
    (λ u k. ap not (list_any-append (answers u) h (Submitted t proc args ∷ []) ∙ nothing (list_any (answers u) h)))
    ∙ (ap (filter (λ u. not (list_any (answers u) h))) (told_more m h (Submitted t proc args ∷ []))
    ∙ (filter-append (λ u. not (list_any (answers u) h)) (submitted_at m h) (if t.coord == m then t ∷ [] else [])
    ∙ ap (λ l. unanswered_at m h ++ l) (last (t.coord == m))))
  where
    nothing : (a : Bool) → (a || false) ≡ a
    nothing true = refl
    nothing false = refl

    last : (b : Bool) → filter (λ u. not (list_any (answers u) h)) (if b then t ∷ [] else []) ≡ (if b then t ∷ [] else [])
    last true = cond-true (not (list_any (answers t) h)) (t ∷ []) [] (ap not unheard)
    last false = refl

-- what is answered is told so
pub answered_has : (h : List Entry) (t : TxnId) → list_any (answers t) h ≡ true → (reply : List ℤ) × WasAnswered h t reply
answered_has h t k = let a = any_has (answers t) h k in go a.0 a.1 a.2
  where
    go : (e : Entry) → Has e h → answers t e ≡ true → (reply : List ℤ) × WasAnswered h t reply
    go (Submitted u proc args) m x = absurd (false≢true x)
    go (Answered u reply) m x = (reply, subst (λ t. WasAnswered h t reply) (sym (is_txn-true t u x)) m)

-- ---- what a message leaves of the ids

abbrev pub left_by : Handled → List TxnId → List TxnId
left_by (answer.Answered id reply) ids = filter (λ t. not (is_txn t id)) ids
left_by answer.Done ids = ids
left_by (answer.Ignored why) ids = ids

same_ids : (z : Transaction) (xs : List Transaction) → ids_of (map (λ y. if is_txn y.id z.id then z else y) xs) ≡ ids_of xs
same_ids z [] = refl
same_ids z (y ∷ xs) = go (is_txn y.id z.id) refl (same_ids z xs)
  where
    go : (b : Bool) → is_txn y.id z.id ≡ b → ids_of (map (λ y. if is_txn y.id z.id then z else y) xs) ≡ ids_of xs
        → (cond b z y).id ∷ ids_of (map (λ y. if is_txn y.id z.id then z else y) xs) ≡ y.id ∷ ids_of xs
    go true e ih = let same = sym (is_txn-true y.id z.id e) in λ i. same i ∷ ih i
    go false e ih = ap (λ l. y.id ∷ l) ih

pub ids_left : (plan : Plan) (s : CoordState) (msg : Msg) → IsNoReadOk msg → ids_of (after_message plan s msg).state.pending ≡ left_by (after_message plan s msg).answer (ids_of s.pending)
ids_left plan s (StartOk id group shard bound outs edges facts) k = go (find_transaction id s.pending)
  where
    After : Option Transaction → Type 0
    After x =
        let r = after_startok plan s id x (record { group = group; bound = bound; outs = outs; edges = edges; facts = facts }) shard in
        ids_of r.state.pending ≡ left_by r.answer (ids_of s.pending)

    go : (x : Option Transaction) → After x
    go None = refl
    go (Some x) = refused (startok_refusal plan x (record { group = group; bound = bound; outs = outs; edges = edges; facts = facts }) shard)
      where
        told : Transaction
        told = with_startok x (record { group = group; bound = bound; outs = outs; edges = edges; facts = facts })

        refused : (o : Option Reason) → ids_of (unless_refused s o (startok_taken plan s told)).state.pending ≡ left_by (unless_refused s o (startok_taken plan s told)).answer (ids_of s.pending)
        refused (Some why) = refl
        refused None = same_ids (with_commits plan (with_starts plan told)) s.pending
ids_left plan s (CommitOk id shard outs) k = go (find_transaction id s.pending)
  where
    After : Option Transaction → Type 0
    After x = let r = after_commitok plan s id x (record { shard = shard; outs = outs }) in ids_of r.state.pending ≡ left_by r.answer (ids_of s.pending)

    go : (x : Option Transaction) → After x
    go None = refl
    go (Some x) = refused (commitok_refusal plan x (record { shard = shard; outs = outs })) (reply_now plan (with_commitok x (record { shard = shard; outs = outs })))
      where
        told : Transaction
        told = with_commitok x (record { shard = shard; outs = outs })

        refused : (o : Option Reason) (reply : Option (List ℤ))
            → ids_of (unless_refused s o (commitok_taken plan s told reply)).state.pending ≡ left_by (unless_refused s o (commitok_taken plan s told reply)).answer (ids_of s.pending)
        refused (Some why) reply = refl
        refused None None = same_ids told s.pending
        refused None (Some reply) = sym (filter_map_under (λ (y : Transaction). y.id) (λ t. not (is_txn t told.id)) s.pending)
ids_left plan s (ReadOk id round group shard versions outs) k = absurd k
ids_left plan s msg k = refl

-- and of the ids of transactions and views, whatever it is
pub unanswered_left : (plan : Plan) (s : CoordState) (msg : Msg) → (after_message plan s msg).state.unanswered ≡ left_by (after_message plan s msg).answer s.unanswered
unanswered_left plan s (StartOk id group shard bound outs edges facts) = go (find_transaction id s.pending)
  where
    ok : TakenStart
    ok = record { group = group; bound = bound; outs = outs; edges = edges; facts = facts }

    go : (x : Option Transaction) → (after_startok plan s id x ok shard).state.unanswered ≡ left_by (after_startok plan s id x ok shard).answer s.unanswered
    go None = refl
    go (Some x) = refused (startok_refusal plan x ok shard)
      where
        refused : (o : Option Reason) → (unless_refused s o (startok_taken plan s (with_startok x ok))).state.unanswered ≡ left_by (unless_refused s o (startok_taken plan s (with_startok x ok))).answer s.unanswered
        refused (Some why) = refl
        refused None = refl
unanswered_left plan s (CommitOk id shard outs) = go (find_transaction id s.pending)
  where
    ok : TakenCommit
    ok = record { shard = shard; outs = outs }

    go : (x : Option Transaction) → (after_commitok plan s id x ok).state.unanswered ≡ left_by (after_commitok plan s id x ok).answer s.unanswered
    go None = refl
    go (Some x) = refused (commitok_refusal plan x ok) (reply_now plan (with_commitok x ok))
      where
        refused : (o : Option Reason) (reply : Option (List ℤ))
            → (unless_refused s o (commitok_taken plan s (with_commitok x ok) reply)).state.unanswered ≡ left_by (unless_refused s o (commitok_taken plan s (with_commitok x ok) reply)).answer s.unanswered
        refused (Some why) reply = refl
        refused None None = refl
        refused None (Some reply) = refl
unanswered_left plan s (ReadOk id round group shard versions outs) = go (find_view id s.views)
  where
    ok : TakenRead
    ok = record { group = group; versions = versions; outs = outs }

    go : (v : Option View) → (after_readok plan s id v round ok shard).state.unanswered ≡ left_by (after_readok plan s id v round ok shard).answer s.unanswered
    go None = refl
    go (Some v) = refused (readok_refusal plan v round ok shard) (round_of plan (with_readok v ok))
      where
        refused : (o : Option Reason) (came : Round)
            → (unless_refused s o (readok_taken plan s (with_readok v ok) came)).state.unanswered ≡ left_by (unless_refused s o (readok_taken plan s (with_readok v ok) came)).answer s.unanswered
        refused (Some why) came = refl
        refused None Waits = refl
        refused None (Ends reply) = refl
        refused None GoesOn = refl
unanswered_left plan s msg = refl
