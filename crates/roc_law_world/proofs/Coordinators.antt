-- Each step of a coordinator is one of transactions, or one aside of them
use Rattle.std.proofs.Common.{◌≡◌, ◌∙◌, inl, inr, ◌+◌, ◌<◌, Bool, true, false, not, cond, List, [], ◌∷◌, ◌++◌, refl, sym, ap, subst, arith}
use Rattle.std.proofs.lemmas.Bool.{not-true}
use Rattle.std.proofs.lemmas.List.Elements.{filter-append}
use Rattle.std.specs.List.{filter}
use Rattle.roc_sequence.specs.Lists.{Has}
use Rattle.roc_sequence.specs.Places.{IsListed, NoneTwice}
use Rattle.roc_sequence.proofs.Members.{has_map, from_has_filter}
use Rattle.roc_sequence.proofs.Filtered.{NoneTwice-filter, from_listed_filter}
use Rattle.roc_sequence.proofs.Appended.{listed_either, NoneTwice-append}
use Rattle.roc_sequence.proofs.Places.{listed_cases}
use Rattle.roc_base.specs.declared.id.TxnId.{TxnId}
use Rattle.roc_base.specs.TxnId.{is_txn}
use Rattle.roc_base.specs.Equalities.{is_txn-true, is_txn-same}
use Rattle.roc_coord.specs.declared.transaction.Transaction.{Transaction}
use Rattle.roc_readonly.specs.declared.view.View.{View}
use Rattle.roc_coord.specs.Ids.{ids_of}
use Rattle.roc_coord.specs.State.{CoordState}
use Rattle.roc_law_world.proofs.TickSends.{IsSound}

-- what is kept of a coordinator in every run: its ids, and which are of views
pub record IsCoordSound (is_view : TxnId → Bool) (s : CoordState) : Type 0 where
  pub pending : ids_of s.pending ≡ filter (λ t. not (is_view t)) s.unanswered
  pub views : (v : View) → Has v s.views → is_view v.id ≡ true
  pub once : NoneTwice is_txn s.unanswered
  -- each id was given
  pub past : (t : TxnId) → IsListed is_txn s.unanswered t → t.seq < s.next

pub is_sound : (is_view : TxnId → Bool) (s : CoordState) → IsCoordSound is_view s → IsSound is_view s
is_sound is_view s o =
    record {
      pending = o.pending;
      once = subst (λ l. NoneTwice is_txn l) (sym o.pending) (NoneTwice-filter is_txn (λ a b e. is_txn-true a b e) (λ t. not (is_view t)) s.unanswered o.once);
    }

-- a transaction without a reply is no view
pub pending_no_view : (is_view : TxnId → Bool) (s : CoordState) → IsCoordSound is_view s → (x : Transaction) → Has x s.pending → is_view x.id ≡ false
pending_no_view is_view s o x h =
    let listed : Has x.id (filter (λ t. not (is_view t)) s.unanswered) = subst (λ l. Has x.id l) o.pending (has_map (λ (y : Transaction). y.id) x s.pending h) in
    not-true (is_view x.id) (from_has_filter (λ (t : TxnId). not (is_view t)) x.id s.unanswered listed).1

-- ---- lists

-- two tests one behind the other may change places
filter_twice : {A : Type 0} (p q : A → Bool) (xs : List A) → filter p (filter q xs) ≡ filter q (filter p xs)
filter_twice p q [] = refl
filter_twice p q (x ∷ xs) = go (p x) (q x) refl refl (filter_twice p q xs)
  where
    go : (a b : Bool) → p x ≡ a → q x ≡ b → filter p (filter q xs) ≡ filter q (filter p xs) → filter p (cond b (x ∷ filter q xs) (filter q xs)) ≡ filter q (cond a (x ∷ filter p xs) (filter p xs))
    go true true e f ih = ap (λ c. cond c (x ∷ filter p (filter q xs)) (filter p (filter q xs))) e ∙ (ap (λ l. x ∷ l) ih ∙ sym (ap (λ c. cond c (x ∷ filter q (filter p xs)) (filter q (filter p xs))) f))
    go true false e f ih = ih ∙ sym (ap (λ c. cond c (x ∷ filter q (filter p xs)) (filter q (filter p xs))) f)
    go false true e f ih = ap (λ c. cond c (x ∷ filter p (filter q xs)) (filter p (filter q xs))) e ∙ ih
    go false false e f ih = ih

-- the ids of those that are left are those that are left of the ids
pub ids_left : (id : TxnId) (xs : List Transaction) → ids_of (filter (λ x. not (is_txn x.id id)) xs) ≡ filter (λ t. not (is_txn t id)) (ids_of xs)
ids_left id [] = refl
ids_left id (x ∷ xs) = go (is_txn x.id id) (ids_left id xs)
  where
    go : (b : Bool) → ids_of (filter (λ x. not (is_txn x.id id)) xs) ≡ filter (λ t. not (is_txn t id)) (ids_of xs)
        → ids_of (cond (not b) (x ∷ filter (λ x. not (is_txn x.id id)) xs) (filter (λ x. not (is_txn x.id id)) xs)) ≡ cond (not b) (x.id ∷ filter (λ t. not (is_txn t id)) (ids_of xs)) (filter (λ t. not (is_txn t id)) (ids_of xs))
    go true h = h
    go false h = ap (λ l. x.id ∷ l) h

-- one more stands behind, if it passes
filter_one_more : {A : Type 0} (p : A → Bool) (xs : List A) (x : A) (b : Bool) → p x ≡ b → filter p (xs ++ x ∷ []) ≡ filter p xs ++ cond b (x ∷ []) []
filter_one_more p xs x b e = filter-append p xs (x ∷ []) ∙ ap (λ c. filter p xs ++ cond c (x ∷ []) []) e

pub ids_more : (xs : List Transaction) (x : Transaction) → ids_of (xs ++ x ∷ []) ≡ ids_of xs ++ x.id ∷ []
ids_more [] x = refl
ids_more (y ∷ ys) x = ap (λ l. y.id ∷ l) (ids_more ys x)

-- ---- steps of a coordinator

module _ (is_view : TxnId → Bool) (s : CoordState) (o : IsCoordSound is_view s) where
  -- with the same ids
  pub sound_same : (t : CoordState) → t.next ≡ s.next → t.unanswered ≡ s.unanswered → ids_of t.pending ≡ ids_of s.pending
      → ((v : View) → Has v t.views → is_view v.id ≡ true) → IsCoordSound is_view t
  sound_same t next ids pending views =
      record {
        pending = pending ∙ (o.pending ∙ ap (filter (λ t. not (is_view t))) (sym ids));
        views = views;
        once = subst (λ l. NoneTwice is_txn l) (sym ids) o.once;
        past = λ u h. subst (λ n. u.seq < n) (sym next) (o.past u (subst (λ l. IsListed is_txn l u) ids h));
      }

  -- without one
  pub sound_less : (t : CoordState) (id : TxnId) → t.next ≡ s.next → t.unanswered ≡ filter (λ u. not (is_txn u id)) s.unanswered
      → ids_of t.pending ≡ filter (λ u. not (is_txn u id)) (ids_of s.pending) → ((v : View) → Has v t.views → Has v s.views) → IsCoordSound is_view t
  sound_less t id next ids pending views =
      record {
        pending = pending ∙ (ap (filter (λ u. not (is_txn u id))) o.pending ∙ (filter_twice (λ u. not (is_txn u id)) (λ t. not (is_view t)) s.unanswered ∙ ap (filter (λ t. not (is_view t))) (sym ids)));
        views = λ v h. o.views v (views v h);
        once = subst (λ l. NoneTwice is_txn l) (sym ids) (NoneTwice-filter is_txn (λ a b e. is_txn-true a b e) (λ u. not (is_txn u id)) s.unanswered o.once);
        past = λ u h. subst (λ n. u.seq < n) (sym next)
            (o.past u (from_listed_filter is_txn (λ a b e. is_txn-true a b e) (λ u. not (is_txn u id)) s.unanswered u (subst (λ l. IsListed is_txn l u) ids h)).1);
      }

  -- with the next one
  pub sound_more : (t : CoordState) (id : TxnId) (b : Bool) → is_view id ≡ b → id.seq ≡ s.next → t.next ≡ s.next + 1 → t.unanswered ≡ s.unanswered ++ id ∷ []
      → ids_of t.pending ≡ ids_of s.pending ++ cond (not b) (id ∷ []) [] → ((v : View) → Has v t.views → is_view v.id ≡ true) → IsCoordSound is_view t
  sound_more t id b is seq next ids pending views =
      record {
        pending =
            pending ∙ (ap (λ l. l ++ cond (not b) (id ∷ []) []) o.pending
            ∙ (sym (filter_one_more (λ t. not (is_view t)) s.unanswered id (not b) (ap not is)) ∙ ap (filter (λ t. not (is_view t))) (sym ids)));
        views = views;
        once = subst (λ l. NoneTwice is_txn l) (sym ids)
            (NoneTwice-append is_txn (λ a. is_txn-same a) s.unanswered (id ∷ []) o.once ((λ (h : IsListed is_txn [] id). omega arith), tt)
            (λ u h. new u h));
        past = λ u h. elim (listed_either is_txn s.unanswered (id ∷ []) u (subst (λ l. IsListed is_txn l u) ids h)) [
          | inl k ↦ (let low = o.past u k in omega arith)
          | inr k ↦ (let same = ap (λ (v : TxnId). v.seq) (only u k.1) in omega arith)
        ];
      }
    where
      only : (u : TxnId) → IsListed is_txn (id ∷ []) u → u ≡ id
      only u h = elim (listed_cases is_txn id [] u h) [ inl e ↦ is_txn-true u id e | inr k ↦ absurd (let none = k.1 in omega arith) ]

      new : (u : TxnId) → IsListed is_txn (id ∷ []) u → ¬ IsListed is_txn s.unanswered u
      new u h k = let low = o.past u k in let same = ap (λ (v : TxnId). v.seq) (only u h) in omega arith
