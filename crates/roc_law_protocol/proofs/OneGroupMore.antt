-- One more group behind those that are here
use Rattle.std.proofs.Common.{◌≡◌, Bool, true, false, cond, List, [], ◌∷◌, ◌++◌, Some, None, refl, sym, ap, ◌∙◌, ◌⊎◌, inl, inr}
use Rattle.std.proofs.lemmas.Bool.{cond-true}
use Rattle.std.specs.Prelude.{find}
use Rattle.roc_sequence.proofs.Holds.{any_has, has_any}
use Rattle.roc_sequence.proofs.Members.{has_append, has_left, has_right, has_one}
use Rattle.roc_base.specs.declared.id.TxnId.{TxnId}
use Rattle.roc_base.specs.TxnId.{is_txn}
use Rattle.roc_base.specs.Equalities.{is_txn-true, is_txn-same}
use Rattle.roc_step.specs.declared.started.StartedGroup.{StartedGroup}
use Rattle.roc_step.specs.State.{is_here}

-- what is found is found before more
pub find_front : {A : Type 0} (p : A → Bool) (xs ys : List A) (a : A) → find p xs ≡ Some a → find p (xs ++ ys) ≡ Some a
find_front p [] ys a h = absurd (none_some h)
  where
    none_some : {A : Type 0} {a : A} → None ≡ Some a → ⊥
    none_some e = cc
find_front p (x ∷ xs) ys a h = go (p x) h (find_front p xs ys a)
  where
    go : (b : Bool) → cond b (Some x) (find p xs) ≡ Some a → (find p xs ≡ Some a → find p (xs ++ ys) ≡ Some a) → cond b (Some x) (find p (xs ++ ys)) ≡ Some a
    go true k ih = k
    go false k ih = ih k

-- and where nothing was, what is new is found
pub find_last : {A : Type 0} (p : A → Bool) (xs : List A) (a : A) → find p xs ≡ None → p a ≡ true → find p (xs ++ a ∷ []) ≡ Some a
find_last p [] a h k = cond-true (p a) (Some a) None k
find_last p (x ∷ xs) a h k = go (p x) h (find_last p xs a)
  where
    go : (b : Bool) → cond b (Some x) (find p xs) ≡ None → (find p xs ≡ None → p a ≡ true → find p (xs ++ a ∷ []) ≡ Some a) → cond b (Some x) (find p (xs ++ a ∷ [])) ≡ Some a
    go true e ih = absurd (some_none e)
      where
        some_none : {A : Type 0} {a : A} → Some a ≡ None → ⊥
        some_none e = cc
    go false e ih = ih e k

module _ (started : List StartedGroup) (e : StartedGroup) where
  pub here_now : is_here e.id (started ++ e ∷ []) ≡ true
  here_now = has_any (λ (f : StartedGroup). is_txn f.id e.id) (started ++ e ∷ []) e (has_right e started (e ∷ []) (inl refl)) (is_txn-same e.id)

  pub here_more : (t : TxnId) → is_here t started ≡ true → is_here t (started ++ e ∷ []) ≡ true
  here_more t h =
      let q = any_has (λ (f : StartedGroup). is_txn f.id t) started h in
      has_any (λ (f : StartedGroup). is_txn f.id t) (started ++ e ∷ []) q.0 (has_left q.0 started (e ∷ []) q.1) q.2

  -- who has a group here had one, or has it now
  pub here_cases : (t : TxnId) → is_here t (started ++ e ∷ []) ≡ true → (is_here t started ≡ true) ⊎ (t ≡ e.id)
  here_cases t h =
      let q = any_has (λ (f : StartedGroup). is_txn f.id t) (started ++ e ∷ []) h in
      elim (has_append q.0 started (e ∷ []) q.1) [
        | inl k ↦ inl (has_any (λ (f : StartedGroup). is_txn f.id t) started q.0 k q.2)
        | inr k ↦ inr (sym (is_txn-true q.0.id t q.2) ∙ ap (λ (f : StartedGroup). f.id) (has_one q.0 e k))
      ]
