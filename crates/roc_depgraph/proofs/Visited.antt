-- Visiting entries one by one
use Rattle.std.proofs.Common.{◌≡◌, ℕ, take, get_or, ◌+◌, ◌<◌, Bool, true, false, cond, not, List, [], ◌∷◌, ◌++◌, length, refl, sym, ◌∙◌, ap, subst, arith, ◌⊎◌, inl, inr, length-append}
use Rattle.std.proofs.lemmas.Bool.{false≢true, or_cases, or_left, or_right, not-true, not-false, cond-true, cond-false}
use Rattle.std.proofs.lemmas.List.{take_more}
use Rattle.std.proofs.lemmas.List.Folds.{list_any-append}
use Rattle.std.specs.List.{list_any}
use Rattle.std.specs.List.Sorted.{IsStrictlySortedBy}
use Rattle.std.specs.Ordering.{is_eq}
use Rattle.roc_sequence.specs.Places.{IsListed}
use Rattle.roc_sequence.proofs.Appended.{listed_front, listed_behind, listed_either}
use Rattle.roc_base.specs.declared.id.TxnId.{TxnId}
use Rattle.roc_base.specs.TxnId.{is_txn, txn_cmp}
use Rattle.roc_base.specs.Equalities.{is_txn-same, is_txn-true}
use Rattle.roc_base.specs.Edge.{Dependency}
use Rattle.roc_depgraph.specs.Visits.{Visits, IsNamed}
use Rattle.roc_depgraph.proofs.Listed.{has, has_from_listed, listed_from_has, is_eq-same, is_eq-true, listed_one, in_one}

-- one more entry names its id
pub named_more : (es : List Dependency) (d : Dependency) (u : TxnId) → IsNamed es u → IsNamed (es ++ d ∷ []) u
named_more es d u h = list_any-append (λ e. is_txn e.from u) es (d ∷ []) ∙ or_left (list_any (λ e. is_txn e.from u) es) _ h

pub named_last : (es : List Dependency) (d : Dependency) → IsNamed (es ++ d ∷ []) d.from
named_last es d = list_any-append (λ e. is_txn e.from d.from) es (d ∷ []) ∙ or_right (list_any (λ e. is_txn e.from d.from) es) _ (or_left (is_txn d.from d.from) false (is_txn-same d.from))

pub named_either : (es : List Dependency) (d : Dependency) (u : TxnId) → IsNamed (es ++ d ∷ []) u → IsNamed es u ⊎ (u ≡ d.from)
named_either es d u h =
    elim (or_cases (list_any (λ e. is_txn e.from u) es) (list_any (λ e. is_txn e.from u) (d ∷ [])) (sym (list_any-append (λ e. is_txn e.from u) es (d ∷ [])) ∙ h)) [
      | inl k ↦ inl k
      | inr k ↦ elim (or_cases (is_txn d.from u) false k) [ inl e ↦ inr (sym (is_txn-true d.from u e)) | inr e ↦ absurd (false≢true e) ]
    ]

pub visits_none : (found todo : List TxnId) → Visits [] found todo found todo
visits_none found todo =
    record {
      keeps = λ u h. h;
      named = λ u h. absurd (false≢true h);
      only = λ u h. inl h;
      keeps_todo = λ u h. h;
      new_todo = λ u h n. absurd (n h);
      only_todo = λ u h. inl h;
      rising = λ r. r;
      count = omega arith;
    }

module _ (es : List Dependency) (d : Dependency) (f t f1 t1 f2 t2 : List TxnId) (v : Visits es f t f1 t1) (at : (q : TxnId) → has f2 q ≡ cond (is_eq (txn_cmp d.from q)) true (has f1 q)) where
  old_found : (u : TxnId) → IsListed is_txn f1 u → IsListed is_txn f2 u
  old_found u h = listed_from_has f2 u (at u ∙ elim (is_eq (txn_cmp d.from u)) as (λ b. cond b true (has f1 u) ≡ true) [ true ↦ refl | false ↦ has_from_listed f1 u h ])

  new_found : IsListed is_txn f2 d.from
  new_found = listed_from_has f2 d.from (at d.from ∙ cond-true (is_eq (txn_cmp d.from d.from)) true (has f1 d.from) (is_eq-same d.from))

  found_either : (u : TxnId) → IsListed is_txn f2 u → IsListed is_txn f1 u ⊎ (u ≡ d.from)
  found_either u h = go (is_eq (txn_cmp d.from u)) refl
    where
      go : (b : Bool) → is_eq (txn_cmp d.from u) ≡ b → IsListed is_txn f1 u ⊎ (u ≡ d.from)
      go true e = inr (sym (is_eq-true d.from u e))
      go false e = inl (listed_from_has f1 u (sym (cond-false (is_eq (txn_cmp d.from u)) true (has f1 u) e) ∙ (sym (at u) ∙ has_from_listed f2 u h)))

  named_found : (u : TxnId) → IsNamed (es ++ d ∷ []) u → IsListed is_txn f2 u
  named_found u h = elim (named_either es d u h) [ inl k ↦ old_found u (v.named u k) | inr e ↦ subst (IsListed is_txn f2) (sym e) new_found ]

  only_found : (u : TxnId) → IsListed is_txn f2 u → IsListed is_txn f u ⊎ IsNamed (es ++ d ∷ []) u
  only_found u h =
      elim (found_either u h) [
        | inl k ↦ elim (v.only u k) [ inl i ↦ inl i | inr n ↦ inr (named_more es d u n) ]
        | inr e ↦ inr (subst (IsNamed (es ++ d ∷ [])) (sym e) (named_last es d))
      ]

  only_waiting : (u : TxnId) → IsListed is_txn t1 u → IsListed is_txn t u ⊎ IsNamed (es ++ d ∷ []) u
  only_waiting u h = elim (v.only_todo u h) [ inl i ↦ inl i | inr n ↦ inr (named_more es d u n) ]

  -- the id was there
  pub visits_again : has f1 d.from ≡ true → length f2 ≡ length f1 → IsStrictlySortedBy txn_cmp f2 → t2 ≡ t1 → Visits (es ++ d ∷ []) f t f2 t2
  visits_again h len r e =
      record {
        keeps = λ u k. old_found u (v.keeps u k);
        named = named_found;
        only = only_found;
        keeps_todo = λ u k. subst (λ l. IsListed is_txn l u) (sym e) (v.keeps_todo u k);
        new_todo = λ u k n.
            subst (λ l. IsListed is_txn l u) (sym e)
            (v.new_todo u (elim (found_either u k) [ inl i ↦ i | inr q ↦ subst (IsListed is_txn f1) (sym q) (listed_from_has f1 d.from h) ]) n);
        only_todo = λ u k. only_waiting u (subst (λ l. IsListed is_txn l u) e k);
        rising = λ _. r;
        count = let c = v.count in let l = ap length e in omega arith;
      }

  -- the id is new
  pub visits_new : has f1 d.from ≡ false → length f2 ≡ length f1 + 1 → IsStrictlySortedBy txn_cmp f2 → t2 ≡ t1 ++ d.from ∷ [] → Visits (es ++ d ∷ []) f t f2 t2
  visits_new h len r e =
      record {
        keeps = λ u k. old_found u (v.keeps u k);
        named = named_found;
        only = only_found;
        keeps_todo = λ u k. subst (λ l. IsListed is_txn l u) (sym e) (listed_front is_txn t1 (d.from ∷ []) u (v.keeps_todo u k));
        new_todo = λ u k n.
            subst (λ l. IsListed is_txn l u) (sym e)
            (elim (found_either u k) [
              | inl i ↦ listed_front is_txn t1 (d.from ∷ []) u (v.new_todo u i n)
              | inr q ↦ subst (IsListed is_txn (t1 ++ d.from ∷ [])) (sym q) (listed_behind is_txn t1 (d.from ∷ []) d.from (in_one d.from))
            ]);
        only_todo = λ u k.
            elim (listed_either is_txn t1 (d.from ∷ []) u (subst (λ l. IsListed is_txn l u) e k)) [
              | inl i ↦ only_waiting u i
              | inr q ↦ inr (subst (IsNamed (es ++ d ∷ [])) (sym (listed_one d.from u q.1)) (named_last es d))
            ];
        rising = λ _. r;
        count = let c = v.count in let l = ap length e in let k = length-append t1 (d.from ∷ []) in omega arith;
      }

-- the same for the entry at a place, as a set and a list take its id
module _ (edges : List Dependency) (i : ℕ) (d : Dependency) (id : TxnId) (below : i < length edges) (is : d ≡ get_or edges i d) (of : id ≡ d.from) (f t f1 t1 f2 t2 : List TxnId) (v : Visits (take i edges) f t f1 t1) (at : (q : TxnId) → has f2 q ≡ cond (is_eq (txn_cmp id q)) true (has f1 q)) (added : Bool) (said : added ≡ not (has f1 id)) (len : length f2 ≡ length f1 + cond added 1 0) (rising : IsStrictlySortedBy txn_cmp f2) where
  upto : take (i + 1) edges ≡ take i edges ++ d ∷ []
  upto = take_more edges i d below ∙ ap (λ x. take i edges ++ x ∷ []) (sym is)

  at_from : (q : TxnId) → has f2 q ≡ cond (is_eq (txn_cmp d.from q)) true (has f1 q)
  at_from = let P : TxnId → Type 0 = λ x. (q : TxnId) → has f2 q ≡ cond (is_eq (txn_cmp x q)) true (has f1 q) in subst P of at

  pub visits_again_at : added ≡ false → t2 ≡ t1 → Visits (take (i + 1) edges) f t f2 t2
  visits_again_at h e =
      subst (λ es. Visits es f t f2 t2) (sym upto)
      (visits_again (take i edges) d f t f1 t1 f2 t2 v at_from (ap (has f1) (sym of) ∙ not-false (has f1 id) (sym said ∙ h)) (len ∙ (ap (λ b. length f1 + cond b 1 0) h ∙ omega arith)) rising e)

  pub visits_new_at : added ≡ true → t2 ≡ t1 ++ id ∷ [] → Visits (take (i + 1) edges) f t f2 t2
  visits_new_at h e =
      subst (λ es. Visits es f t f2 t2) (sym upto)
      (visits_new (take i edges) d f t f1 t1 f2 t2 v at_from (ap (has f1) (sym of) ∙ not-true (has f1 id) (sym said ∙ h)) (len ∙ ap (λ b. length f1 + cond b 1 0) h) rising (e ∙ ap (λ x. t1 ++ x ∷ []) of))
