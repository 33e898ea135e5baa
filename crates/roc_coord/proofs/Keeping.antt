-- What a coordinator keeps, with one changed, without one, and with one more
use Rattle.std.proofs.Common.{Result, Ok, Err, OnErr, ◌≡◌, ◌+◌, ℕ, List, [], ◌∷◌, ◌++◌, Bool, true, false, cond, not, filter, get_or, set, sym, ap, subst, ◌∙◌}
use Rattle.std.specs.List.{AllByRecursion}
use Rattle.roc_base.specs.declared.id.TxnId.{TxnId}
use Rattle.roc_base.specs.TxnId.{is_txn}
use Rattle.roc_readonly.specs.declared.view.View.{View}
use Rattle.roc_coord.specs.declared.ids.Ids.{Ids}
use Rattle.roc_coord.specs.declared.transaction.Transaction.{Transaction}
use Rattle.roc_coord.specs.Ids.{ids_of, view_ids}
use Rattle.roc_coord.specs.Inner.Given.{AreOwn}
use Rattle.roc_coord.specs.Inner.Kept.{AreAllOwn, AreKept}
use Rattle.roc_coord.proofs.Among.{same_ids}
use Rattle.roc_coord.proofs.Given.{own_push, own_later, own_filter, own_item, own_without}

pub on_err : {X E P : Type 0} (r : Result X E) → P → OnErr r P
on_err (Ok x) h = tt
on_err (Err e) h = h

pub all_filter : {A : Type 0} (P : A → Type 0) (p : A → Bool) (xs : List A) → AllByRecursion P xs → AllByRecursion P (filter p xs)
all_filter P p [] h = tt
all_filter P p (x ∷ xs) h =
    let rest = all_filter P p xs h.1 in
    elim (p x) as (λ b. AllByRecursion P (cond b (x ∷ filter p xs) (filter p xs))) [ true ↦ (h.0, rest) | false ↦ rest ]

module _ (number next : ℕ) (ids : List TxnId) (xs : List Transaction) (vs : List View) (own : AreAllOwn number next ids xs vs) where
  -- one is changed, and keeps its id
  pub kept_set : (at : ℕ) (x y : Transaction) → x ≡ get_or xs at x → y.id ≡ x.id → AreAllOwn number next ids (set xs at y) vs
  kept_set at x y is e = record { unanswered = own.unanswered; pending = subst (AreOwn number next) (sym (same_ids (λ v. v.id) xs at x y is e)) own.pending; views = own.views }

  pub views_set : (at : ℕ) (x y : View) → x ≡ get_or vs at x → y.id ≡ x.id → AreAllOwn number next ids xs (set vs at y)
  views_set at x y is e = record { unanswered = own.unanswered; pending = own.pending; views = subst (AreOwn number next) (sym (same_ids (λ v. v.id) vs at x y is e)) own.views }

  -- one has its reply
  module _ (id : TxnId) (left : List TxnId) (others : left ≡ filter (λ u. not (is_txn u id)) ids) where
    left_own : AreOwn number next left
    left_own = subst (AreOwn number next) (sym others) (own_filter (λ u. not (is_txn u id)) number next ids own.unanswered)

    pub kept_without : (ys : List Transaction) → ys ≡ filter (λ x. not (is_txn x.id id)) xs → AreAllOwn number next left ys vs
    kept_without ys e =
        let are_own : List Transaction → Type 0 = λ ys. AreOwn number next (ids_of ys) in
        record { unanswered = left_own; pending = subst are_own (sym e) (own_without (λ v. v.id) id number next xs own.pending); views = own.views }

    pub views_without : (ws : List View) → ws ≡ filter (λ v. not (is_txn v.id id)) vs → AreAllOwn number next left xs ws
    views_without ws e =
        let are_own : List View → Type 0 = λ ws. AreOwn number next (view_ids ws) in
        record { unanswered = left_own; pending = own.pending; views = subst are_own (sym e) (own_without (λ v. v.id) id number next vs own.views) }

-- ---- one more, of the next id

module _ (ids new : Ids) (id : TxnId) (is : id ≡ record { coord = ids.number; seq = ids.next }) (number : new.number ≡ ids.number) (next : new.next ≡ ids.next + 1) (given : new.unanswered.items ≡ ids.unanswered.items ++ id ∷ []) (xs : List Transaction) (vs : List View) (own : AreKept ids xs vs) where
  abbrev first : TxnId
  first = record { coord = ids.number; seq = ids.next }

  unanswered : AreOwn ids.number (ids.next + 1) new.unanswered.items
  unanswered =
      let add : TxnId → List TxnId = λ v. ids.unanswered.items ++ v ∷ [] in
      subst (AreOwn ids.number (ids.next + 1)) (sym (given ∙ ap add is)) (own_push first ids.unanswered.items own.unanswered)

  all_own : (ys : List Transaction) (ws : List View) → AreOwn ids.number (ids.next + 1) (ids_of ys) → AreOwn ids.number (ids.next + 1) (view_ids ws) → AreKept new ys ws
  all_own ys ws h k =
      let with_number : ℕ → Type 0 = λ n. AreAllOwn n new.next new.unanswered.items ys ws in
      let with_next : ℕ → Type 0 = λ n. AreAllOwn ids.number n new.unanswered.items ys ws in
      subst with_number (sym number) (subst with_next (sym next) (record { unanswered = unanswered; pending = h; views = k }))

  pub kept_more : (x : Transaction) (ys : List Transaction) → x.id ≡ id → ys ≡ xs ++ x ∷ [] → AreKept new ys vs
  kept_more x ys e f =
      let are_own : List Transaction → Type 0 = λ zs. AreOwn ids.number (ids.next + 1) (ids_of zs) in
      all_own ys vs (subst are_own (sym f) (own_item (λ v. v.id) first xs x (e ∙ is) own.pending)) (own_later ids.number ids.next (view_ids vs) own.views)

  pub views_more : (v : View) (ws : List View) → v.id ≡ id → ws ≡ vs ++ v ∷ [] → AreKept new xs ws
  views_more v ws e f =
      let are_own : List View → Type 0 = λ zs. AreOwn ids.number (ids.next + 1) (view_ids zs) in
      all_own xs ws (own_later ids.number ids.next (ids_of xs) own.pending) (subst are_own (sym f) (own_item (λ w. w.id) first vs v (e ∙ is) own.views))
