-- Rows of transactions that are decided end, and their marks fall away
use Rattle.std.proofs.Common.{◌≡◌, ◌⊎◌, ◌<◌, ◌+◌, ◌&&◌, ◌||◌, inl, inr, ℕ, Bool, true, false, cond, not, List, [], ◌∷◌, length, take, get_or, filter, Some, None, refl, sym, ap, ◌∙◌, subst}
use Rattle.std.proofs.lemmas.Bool.{false≢true, and_parts, and_from, not-true, not_from_false}
use Rattle.std.specs.Map.{lookup}
use Rattle.roc_sequence.specs.Places.{IsListed, is_listed}
use Rattle.roc_sequence.proofs.Fronts.{front_more}
use Rattle.roc_sequence.proofs.Holds.{same_tests}
use Rattle.roc_sequence.proofs.Places.{listed_test, listed_true}
use Rattle.roc_base.specs.declared.id.TxnId.{TxnId}
use Rattle.roc_base.specs.TxnId.{is_txn}
use Rattle.roc_base.specs.Equalities.{is_txn-true}
use Rattle.roc_base.proofs.Ids.{is_txn-eq}
use Rattle.roc_depgraph.specs.declared.known.KnownList.{KnownList}
use Rattle.roc_depgraph.specs.Deps.{list_of}
use Rattle.roc_server_rows.specs.declared.rows.Row.{Row}
use Rattle.roc_server_rows.specs.declared.rows.Parts.{Parts}
use Rattle.roc_server_rows.specs.declared.marks.Mark.{Mark}
use Rattle.std.specs.Prelude.{nat_lt}
use Rattle.roc_server_rows.specs.Changes.{RowLists}
use Rattle.roc_server_table.specs.Inner.Changes.{all_ended}
use Rattle.roc_server_rows.specs.Rows.{row_in, known_of, lists_by, AreWhole}
use Rattle.roc_server_rows.specs.Marks.{mark_in, AreMarked, AreOpen, EndsAt, MayEnd}
use Rattle.roc_server_table.specs.Inner.Kept.{decided_of, IsKept}
use Rattle.roc_server_table.proofs.AllEnded.{listed_more}
use Rattle.roc_server_table.proofs.DecidedIds.{decided_at, decided_listed, decided_live, listed_decided}
use Rattle.roc_server_rows.proofs.Looked.{untold_row}

-- ---- what may end

pub may_end : (p : Parts) (marks : List Mark) (k : IsKept p marks) (id : TxnId) → (list_of id (known_of p.rows.items) ≡ None) ⊎ (is_listed is_txn (decided_of p.rows.items marks) id ≡ true)
    → (n : ℕ) → lookup (is_txn id) p.numbers.entries ≡ Some n → MayEnd p.rows.items marks n
may_end p marks k id (inl none) n here = inr (ap (nat_lt 0) (untold_row p.numbers.entries p.rows.items p.stamp k.whole id n here none))
may_end p marks k id (inr listed) n here = inl (sym (decided_at p.numbers.entries p.rows.items p.stamp k.whole marks k.marked id n here) ∙ listed)

-- ---- one row ends

module _ (p q : Parts) (marks marks2 : List Mark) (k : IsKept p marks) (id : TxnId) (whole : AreWhole q) (marked : AreMarked q.rows.items marks2)
    (e : EndsAt (lookup (is_txn id) p.numbers.entries) p.rows.items q.rows.items marks marks2) where
  abbrev old : List Row
  old = p.rows.items

  abbrev new : List Row
  new = q.rows.items

  abbrev numbers : List (TxnId × ℕ)
  numbers = p.numbers.entries

  pub ends_kept : AreOpen q.rows.items marks2 q.undecided.items → IsKept q marks2
  ends_kept open_rows = record { whole = whole; marked = marked; each = e.each ∙ (k.each ∙ sym e.rows); undecided = open_rows }

  -- what is decided then is not the row that ends
  apart : (n : ℕ) → (mark_in marks2 n).decided ≡ true → ¬ (lookup (is_txn id) numbers ≡ Some n)
  apart n d here = false≢true (sym (e.own n here) ∙ d)

  pub ends_decided : (t : TxnId) → is_listed is_txn (decided_of new marks2) t ≡ (is_listed is_txn (decided_of old marks) t && not (is_txn t id))
  ends_decided t =
      same_tests (is_listed is_txn (decided_of new marks2) t) (is_listed is_txn (decided_of old marks) t && not (is_txn t id))
      (λ h.
      let w = listed_decided q.numbers.entries new q.stamp whole marks2 marked t (listed_true is_txn (decided_of new marks2) t h) in
      let other = apart w.0 w.2 in
      let was : (mark_in marks w.0).decided ≡ true = sym (e.decided w.0 other) ∙ w.2 in
      let is : (row_in old w.0).id ≡ t = sym (e.ids w.0 other) ∙ (whole.found t w.0 w.1).is in
      let here : lookup (is_txn t) numbers ≡ Some w.0 = ap (λ v. lookup (is_txn v) numbers) (sym is) ∙ k.whole.each w.0 (decided_live numbers old p.stamp k.whole marks k.marked w.0 was) in
      and_from (is_listed is_txn (decided_of old marks) t) (not (is_txn t id)) (decided_at numbers old p.stamp k.whole marks k.marked t w.0 here ∙ was)
      (not_from_false (is_txn t id) (not_it w.0 here other (is_txn t id) refl)))
      (λ h.
      let both = and_parts (is_listed is_txn (decided_of old marks) t) (not (is_txn t id)) h in
      let w = listed_decided numbers old p.stamp k.whole marks k.marked t (listed_true is_txn (decided_of old marks) t both.0) in
      let other = not_there w.0 w.1 (not-true (is_txn t id) both.1) in
      let is : (row_in new w.0).id ≡ t = e.ids w.0 other ∙ (k.whole.found t w.0 w.1).is in
      listed_test is_txn (decided_of new marks2) t
      (subst (IsListed is_txn (decided_of new marks2)) is (decided_listed q.numbers.entries new q.stamp whole marks2 marked w.0 (e.decided w.0 other ∙ w.2))))
    where
      not_it : (n : ℕ) → lookup (is_txn t) numbers ≡ Some n → ¬ (lookup (is_txn id) numbers ≡ Some n) → (b : Bool) → is_txn t id ≡ b → b ≡ false
      not_it n here other true x = absurd (other (ap (λ v. lookup (is_txn v) numbers) (sym (is_txn-true t id x)) ∙ here))
      not_it n here other false x = refl

      not_there : (n : ℕ) → lookup (is_txn t) numbers ≡ Some n → is_txn t id ≡ false → ¬ (lookup (is_txn id) numbers ≡ Some n)
      not_there n here x there = false≢true (sym x ∙ is_txn-eq t id (sym (k.whole.found t n here).is ∙ (k.whole.found id n there).is))

-- ---- several, one after another

-- no list is left of those that are out
gone_list : (p : TxnId → Bool) (id : TxnId) → p id ≡ true → (ks : List KnownList) → list_of id (filter (λ k. not (p k.of)) ks) ≡ None
gone_list p id e [] = refl
gone_list p id e (k ∷ ks) = go (p k.of) (is_txn k.of id) refl refl (gone_list p id e ks)
  where
    go : (b c : Bool) → p k.of ≡ b → is_txn k.of id ≡ c → list_of id (filter (λ x. not (p x.of)) ks) ≡ None
        → list_of id (cond (not b) (k ∷ filter (λ x. not (p x.of)) ks) (filter (λ x. not (p x.of)) ks)) ≡ None
    go true c f g ih = ih
    go false true f g ih = absurd (false≢true (sym f ∙ (ap p (is_txn-true k.of id g) ∙ e)))
    go false false f g ih = ap (λ c. cond c (Some k.edges) (list_of id (filter (λ x. not (p x.of)) ks))) g ∙ ih

module _ (p q : Parts) (marks marks2 : List Mark) (ids : List TxnId) (i : ℕ) (id : TxnId) (within : i < length ids) (is : id ≡ get_or ids i id)
    (lists : lists_by q.rows.items ≡ all_ended (take i ids) (lists_by p.rows.items))
    (decided : (t : TxnId) → is_listed is_txn (decided_of q.rows.items marks2) t ≡ (is_listed is_txn (decided_of p.rows.items marks) t && not (is_listed is_txn (take i ids) t))) where
  -- the next one was decided, so that it is still or has no list any more
  pub next_may : is_listed is_txn (decided_of p.rows.items marks) id ≡ true → (list_of id (known_of q.rows.items) ≡ None) ⊎ (is_listed is_txn (decided_of q.rows.items marks2) id ≡ true)
  next_may was = go (is_listed is_txn (take i ids) id) refl
    where
      go : (b : Bool) → is_listed is_txn (take i ids) id ≡ b → (list_of id (known_of q.rows.items) ≡ None) ⊎ (is_listed is_txn (decided_of q.rows.items marks2) id ≡ true)
      go true e = inl (ap (λ (k : RowLists). list_of id k.known) lists ∙ gone_list (is_listed is_txn (take i ids)) id e (known_of p.rows.items))
      go false e = inr (decided id ∙ (ap (λ b. b && not (is_listed is_txn (take i ids) id)) was ∙ ap not e))

  pub next_decided : (next : List TxnId) → ((t : TxnId) → is_listed is_txn next t ≡ (is_listed is_txn (decided_of q.rows.items marks2) t && not (is_txn t id)))
      → (t : TxnId) → is_listed is_txn next t ≡ (is_listed is_txn (decided_of p.rows.items marks) t && not (is_listed is_txn (take (i + 1) ids) t))
  next_decided next one t =
      one t ∙ (ap (λ b. b && not (is_txn t id)) (decided t) ∙ (both (is_listed is_txn (decided_of p.rows.items marks) t) (is_listed is_txn (take i ids) t) (is_txn t id)
      ∙ ap (λ b. is_listed is_txn (decided_of p.rows.items marks) t && not b) (sym (listed_more (take i ids) id t) ∙ ap (λ l. is_listed is_txn l t) (front_more ids i id within is))))
    where
      both : (a b c : Bool) → ((a && not b) && not c) ≡ (a && not (b || c))
      both true true c = refl
      both true false c = refl
      both false true c = refl
      both false false c = refl

pub none_gone : (xs : List TxnId) (t : TxnId) → is_listed is_txn xs t ≡ (is_listed is_txn xs t && not (is_listed is_txn [] t))
none_gone xs t = plain (is_listed is_txn xs t)
  where
    plain : (b : Bool) → b ≡ (b && true)
    plain true = refl
    plain false = refl
