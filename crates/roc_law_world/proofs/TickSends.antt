-- What a tick of a coordinator sends, of transactions alone
use Rattle.std.proofs.Common.{◌≡◌, ◌∙◌, inl, inr, ℕ, Bool, true, false, not, cond, List, [], ◌∷◌, ◌++◌, Option, Some, None, map, refl, sym, ap, subst, append-nil}
use Rattle.std.proofs.lemmas.Bool.{false≢true}
use Rattle.std.proofs.lemmas.List.Elements.{filter-append}
use Rattle.std.specs.List.{filter, flat_map, range_with_len}
use Rattle.roc_sequence.specs.Lists.{Has}
use Rattle.roc_sequence.specs.Places.{IsListed, NoneTwice}
use Rattle.roc_sequence.proofs.Members.{has_map, from_has_map, from_has_filter}
use Rattle.roc_sequence.proofs.Found.{found_has}
use Rattle.roc_depgraph.proofs.Listed.{has_listed}
use Rattle.roc_base.specs.declared.id.TxnId.{TxnId}
use Rattle.roc_base.specs.TxnId.{is_txn}
use Rattle.roc_base.specs.Equalities.{is_txn-true, is_txn-same}
use Rattle.roc_msg.specs.declared.outbox.Outgoing.{Outgoing}
use Rattle.roc_plan.specs.Groups.{Plan}
use Rattle.roc_coord.specs.declared.transaction.Transaction.{Transaction}
use Rattle.roc_readonly.specs.declared.view.View.{View}
use Rattle.roc_readonly.specs.Round.{read_for}
use Rattle.roc_coord.specs.Ids.{ids_of}
use Rattle.roc_coord.specs.Marks.{ended_to, ended_sends}
use Rattle.roc_coord.specs.Starts.{group_numbers, start_for, all_started, commit_to}
use Rattle.roc_coord.specs.State.{find_transaction, find_view, has_commitok, CoordState}
use Rattle.roc_coord.specs.Tick.{awaits_startok, starts_again, commits_again, sent_again, transaction_again, view_again, again_of, tick_sends}
use Rattle.roc_law_protocol.specs.Aside.{transaction_tick_sends}
use Rattle.roc_law_protocol.proofs.Rounds.{filter_none}
use Rattle.roc_law_protocol.proofs.Tells.{all_kept}
use Rattle.roc_law_world.specs.Beside.{is_of_view}
use Rattle.roc_law_world.proofs.Sent.{AreOfTransactions, AreOfViews}

-- ---- what waits is found

-- a transaction is found by its id
pub find_own : (xs : List Transaction) → NoneTwice is_txn (ids_of xs) → (x : Transaction) → Has x xs → find_transaction x.id xs ≡ Some x
find_own [] once x h = absurd h
find_own (y ∷ ys) once x h = go (is_txn y.id x.id) refl h (find_own ys once.1 x)
  where
    go : (b : Bool) → is_txn y.id x.id ≡ b → Has x (y ∷ ys) → (Has x ys → find_transaction x.id ys ≡ Some x) → cond b (Some y) (find_transaction x.id ys) ≡ Some x
    go true e (inl same) ih = ap Some (sym same)
    go true e (inr k) ih = absurd (once.0 (subst (λ (t : TxnId). IsListed is_txn (ids_of ys) t) (sym (is_txn-true y.id x.id e)) (has_listed (ids_of ys) x.id (has_map (λ (z : Transaction). z.id) x ys k))))
    go false e (inl same) ih = absurd (false≢true (sym e ∙ (ap (λ (z : Transaction). is_txn z.id x.id) (sym same) ∙ is_txn-same x.id)))
    go false e (inr k) ih = ih k

-- ---- what is sent again is of transactions, or of views

are_starts : (plan : Plan) (x : Transaction) (gs : List ℕ) → AreOfTransactions (map (start_for plan x) gs)
are_starts plan x gs out h = let q = from_has_map (start_for plan x) out gs h in ap (λ (o : Outgoing). is_of_view o.msg) q.2

pub again_transactions : (plan : Plan) (x : Transaction) → AreOfTransactions (sent_again plan x)
again_transactions plan x out h = go (all_started plan x) h
  where
    go : (b : Bool) → Has out (cond b (commits_again x) (starts_again plan x)) → is_of_view out.msg ≡ false
    go true k = let q = from_has_map (commit_to x) out (filter (λ shard. not (has_commitok shard x.commitoks)) x.asked) k in ap (λ (o : Outgoing). is_of_view o.msg) q.2
    go false k = are_starts plan x (filter (awaits_startok x) (group_numbers plan x.proc)) out k

again_views : (plan : Plan) (v : Option View) → AreOfViews (view_again plan v)
again_views plan None out h = absurd h
again_views plan (Some v) out h = let q = from_has_map (read_for plan v) out _ h in ap (λ (o : Outgoing). is_of_view o.msg) q.2

pub are_endeds : (plan : Plan) (s : CoordState) → AreOfTransactions (ended_sends plan s)
are_endeds plan s out h = go _ h
  where
    go : (b : Bool) → Has out (cond b [] (map (ended_to s) (range_with_len 0 plan.program.shards))) → is_of_view out.msg ≡ false
    go true k = absurd k
    go false k = let q = from_has_map (ended_to s) out (range_with_len 0 plan.program.shards) k in ap (λ (o : Outgoing). is_of_view o.msg) q.2

-- ---- a tick

abbrev pub of_transaction : Outgoing → Bool
of_transaction out = not (is_of_view out.msg)

-- the ids of transactions without a reply are those among the unanswered that are no view's
pub record IsSound (is_view : TxnId → Bool) (s : CoordState) : Type 0 where
  pub pending : ids_of s.pending ≡ filter (λ t. not (is_view t)) s.unanswered
  pub once : NoneTwice is_txn (ids_of s.pending)

module _ (plan : Plan) (is_view : TxnId → Bool) (s : CoordState) (sound : IsSound is_view s) where
  abbrev own : TxnId → List Outgoing
  own t = transaction_again plan (find_transaction t s.pending)

  kept_own : (o : Option Transaction) → filter of_transaction (transaction_again plan o) ≡ transaction_again plan o
  kept_own None = refl
  kept_own (Some x) = all_kept of_transaction (sent_again plan x) (λ out h. ap not (again_transactions plan x out h))

  kept_again : (t : TxnId) → filter of_transaction (again_of plan s t) ≡ own t
  kept_again t =
      filter-append of_transaction (own t) (view_again plan (find_view t s.views))
      ∙ (ap (λ l. l ++ filter of_transaction (view_again plan (find_view t s.views))) (kept_own (find_transaction t s.pending))
      ∙ (ap (λ l. own t ++ l) (filter_none of_transaction (view_again plan (find_view t s.views)) (λ out h. ap not (again_views plan (find_view t s.views) out h)))
      ∙ append-nil (own t)))

  kept_all_again : (ts : List TxnId) → filter of_transaction (flat_map (again_of plan s) ts) ≡ flat_map own ts
  kept_all_again [] = refl
  kept_all_again (t ∷ ts) =
      filter-append of_transaction (again_of plan s t) (flat_map (again_of plan s) ts)
      ∙ (ap (λ l. l ++ filter of_transaction (flat_map (again_of plan s) ts)) (kept_again t) ∙ ap (λ l. own t ++ l) (kept_all_again ts))

  -- nothing of a view is a transaction's
  none_own : (t : TxnId) → is_view t ≡ true → own t ≡ []
  none_own t v = go (find_transaction t s.pending) refl
    where
      go : (o : Option Transaction) → find_transaction t s.pending ≡ o → transaction_again plan o ≡ []
      go None e = refl
      go (Some x) e =
          let f = found_has (λ (y : Transaction). is_txn y.id t) s.pending x e in
          let listed : Has x.id (filter (λ t. not (is_view t)) s.unanswered) = subst (λ l. Has x.id l) sound.pending (has_map (λ (y : Transaction). y.id) x s.pending f.0) in
          let other : not (is_view x.id) ≡ true = (from_has_filter (λ (t : TxnId). not (is_view t)) x.id s.unanswered listed).1 in
          let same : x.id ≡ t = is_txn-true x.id t f.1 in
          absurd (false≢true (sym (ap not v) ∙ (ap (λ t. not (is_view t)) (sym same) ∙ other)))

  without_own : (ts : List TxnId) → flat_map own ts ≡ flat_map own (filter (λ t. not (is_view t)) ts)
  without_own [] = refl
  without_own (t ∷ ts) = go (is_view t) refl (without_own ts)
    where
      go : (b : Bool) → is_view t ≡ b → flat_map own ts ≡ flat_map own (filter (λ t. not (is_view t)) ts)
          → own t ++ flat_map own ts ≡ flat_map own (cond (not b) (t ∷ filter (λ t. not (is_view t)) ts) (filter (λ t. not (is_view t)) ts))
      go true e ih = ap (λ l. l ++ flat_map own ts) (none_own t e) ∙ ih
      go false e ih = ap (λ l. own t ++ l) ih

  all_own : (xs : List Transaction) → ((x : Transaction) → Has x xs → Has x s.pending) → flat_map own (ids_of xs) ≡ flat_map (sent_again plan) xs
  all_own [] all = refl
  all_own (x ∷ xs) all =
      ap (λ o. transaction_again plan o ++ flat_map own (ids_of xs)) (find_own s.pending sound.once x (all x (inl refl)))
      ∙ ap (λ l. sent_again plan x ++ l) (all_own xs (λ y h. all y (inr h)))

  -- of transactions a tick sends what it sends of them alone
  pub kept_tick : filter of_transaction (tick_sends plan s) ≡ transaction_tick_sends plan s
  kept_tick =
      filter-append of_transaction (flat_map (again_of plan s) s.unanswered) (ended_sends plan s)
      ∙ (ap (λ l. l ++ filter of_transaction (ended_sends plan s)) (kept_all_again s.unanswered ∙ (without_own s.unanswered ∙ (ap (flat_map own) (sym sound.pending) ∙ all_own s.pending (λ x h. h))))
      ∙ ap (λ l. flat_map (sent_again plan) s.pending ++ l) (all_kept of_transaction (ended_sends plan s) (λ out h. ap not (are_endeds plan s out h))))
