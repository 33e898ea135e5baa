-- The steps of the search for components, by the fields of the code
use Rattle.std.proofs.Common.{◌≡◌, ℕ, ◌+◌, ◌<◌, ◌||◌, true, false, List, [], ◌∷◌, ◌++◌, length, take, get_or, Option, Some, None, nat_le, refl, sym, ◌∙◌, ap, subst, ◌⊎◌, inl, inr, arith}
use Rattle.std.proofs.lemmas.Bool.{false≢true, or_cases, or_left, or_right, leb-true, leb-false, false_from_ne_true}
use Rattle.std.proofs.lemmas.List.{take_more}
use Rattle.roc_sequence.specs.Lists.{Has}
use Rattle.roc_sequence.specs.Places.{IsListed, is_listed}
use Rattle.roc_sequence.proofs.Members.{has_left, has_right, has_more}
use Rattle.roc_sequence.proofs.Places.{listed_true, listed_test}
use Rattle.roc_base.specs.declared.id.TxnId.{TxnId}
use Rattle.roc_base.specs.TxnId.{is_txn}
use Rattle.std.specs.BTreeMap.{BTreeMap}
use Rattle.roc_depgraph.specs.declared.known.KnownList.{KnownList}
use Rattle.roc_depgraph.specs.Closure.{IsRisingListOf}
use Rattle.roc_depgraph.proofs.Listed.{has_listed, listed_has}
use Rattle.roc_component.specs.declared.search.Part.{Part}
use Rattle.roc_component.specs.declared.search.Search.{Search}
use Rattle.roc_component.specs.Inner.Search.{IsComponentClosed, ArePartsMerged, WasNumbered, IsOn, IsOpenable, IsSearch, IsUnmet, IsUnited, IsAhead, met_of, weight}
use Rattle.roc_component.proofs.SearchJoined.{merges}
use Rattle.roc_component.proofs.SearchLast.{openable, of_last, of_earlier, changes, closes}
use Rattle.roc_component.proofs.SearchPath.{weight_more, nothing_in, some_length}

pub closed_less : (old new : Search) (p : Part) (members : List TxnId) → IsComponentClosed members old new → weight new.path.items < weight (old.path.items ++ p ∷ [])
closed_less old new p members c = let e = weight_more old.path.items p in let f = ap weight c.path in omega arith

pub joined_less : (old lower new : List Part) (last part both : Part) → old ≡ lower ++ last ∷ [] → new ≡ lower ++ both ∷ [] → IsUnited last.todo.items part.todo.items both.todo.items → weight new < weight (old ++ part ∷ [])
joined_less old lower new last part both e f u =
    let a = weight_more lower last in
    let b = weight_more lower both in
    let c = weight_more old part in
    let g = ap weight e in
    let h = ap weight f in
    let n = u.count in
    omega arith

pub replaced_less : (below new : List Part) (p r : Part) → new ≡ below ++ r ∷ [] → length r.todo.items < length p.todo.items → weight new < weight (below ++ p ∷ [])
replaced_less below new p r e l = let a = weight_more below p in let b = weight_more below r in let f = ap weight e in omega arith

module _ (E : TxnId → TxnId → Type 0) (S : List TxnId) (met : TxnId → Option ℕ) (count : ℕ) where
  pub step_closed : (old new : Search) (p : Part) (members : List TxnId) → IsSearch E S met count (old.path.items ++ p ∷ []) old.done old.components.items → length p.todo.items ≡ 0 → members ≡ p.members.items → IsComponentClosed members old new → IsSearch E S met count new.path.items new.done new.components.items
  step_closed old new p members s z e c =
      let w = c.component in
      let n = closes E S met count old.path.items p old.done old.components.items s (λ u. nothing_in p.todo.items u z) w.0 (subst (λ l. IsRisingListOf (IsListed is_txn l) w.0) e w.1) in
      subst (λ l. IsSearch E S met count l new.done new.components.items) (sym c.path)
      (subst (λ l. IsSearch E S met count old.path.items l new.components.items) (sym w.2)
      (subst (λ l. IsSearch E S met count old.path.items (old.done ++ w.0) l) (sym w.3) n))

  module _ (below : List Part) (p r : Part) (done : List TxnId) (components : List (List TxnId)) (s : IsSearch E S met count (below ++ p ∷ []) done components) (start : r.start ≡ p.start) (members : r.members.items ≡ p.members.items) where
    -- the last part is put back as it was
    pub put_back : r.todo.items ≡ p.todo.items → IsSearch E S met count (below ++ r ∷ []) done components
    put_back e = changes E S met count below p done components s r start members (λ u h. subst (Has u) e h) (λ u h. inl (subst (Has u) (sym e) h))

    -- what is to be looked at next was not met
    pub step_new : (new : List Part) (u : TxnId) (rest : List TxnId) → new ≡ below ++ r ∷ [] → r.todo.items ≡ p.todo.items → p.todo.items ≡ rest ++ u ∷ [] → met u ≡ None → IsSearch E S met count new done components × IsOpenable E S met new u
    step_new new u rest e f g n =
        let t = put_back f in
        let h : Has u r.todo.items = subst (Has u) (sym (f ∙ g)) (has_right u rest (u ∷ []) (inl refl)) in
        (subst (λ l. IsSearch E S met count l done components) (sym e) t, subst (λ l. IsOpenable E S met l u) (sym e) (openable E S met count below r done components t u h n))

    -- it is done, or of the part
    pub step_settled : (new : List Part) (u : TxnId) (n : ℕ) → new ≡ below ++ r ∷ [] → p.todo.items ≡ r.todo.items ++ u ∷ [] → met u ≡ Some n → (nat_le p.start n || is_listed is_txn done u) ≡ true → IsSearch E S met count new done components
    step_settled new u n e f m t =
        subst (λ l. IsSearch E S met count l done components) (sym e)
        (changes E S met count below p done components s r start members (λ v h. subst (Has v) (sym f) (has_left v r.todo.items (u ∷ []) h)) (λ v h. elim (has_more v u r.todo.items (subst (Has v) f h)) [
          | inl k ↦ inl k
          | inr k ↦ inr (subst (λ x. Has x done ⊎ IsOn (below ++ p ∷ []) p.start x) (sym k) settled)
        ]))
      where
        settled : Has u done ⊎ IsOn (below ++ p ∷ []) p.start u
        settled = elim (or_cases (nat_le p.start n) (is_listed is_txn done u) t) [
          | inl l ↦ of_last E S met count below p done components s u n m (leb-true p.start n l)
          | inr l ↦ inl (listed_has done u (listed_true is_txn done u l))
        ]

  -- it is of an earlier part
  module _ (old new : Search) (p : Part) (s : IsSearch E S met count (old.path.items ++ p ∷ []) old.done old.components.items) (u : TxnId) (n : ℕ) (m : met u ≡ Some n) (t : (nat_le p.start n || is_listed is_txn old.done u) ≡ false) where
    not_done : ¬ Has u old.done
    not_done h = false≢true (sym t ∙ or_right (nat_le p.start n) (is_listed is_txn old.done u) (listed_test is_txn old.done u (has_listed old.done u h)))

    later : n < p.start
    later = leb-false p.start n (false_from_ne_true (nat_le p.start n) (λ e. false≢true (sym t ∙ or_left (nat_le p.start n) (is_listed is_txn old.done u) e)))

    pub in_earlier : (q : Part) × Has q old.path.items × Has u q.members.items
    in_earlier = elim (of_earlier E S met count old.path.items p old.done old.components.items s u n m later) [ inl h ↦ absurd (not_done h) | inr w ↦ w ]

    pub some_earlier : 0 < length old.path.items
    some_earlier = let w = in_earlier in some_length old.path.items w.0 w.1

    pub step_merged : (rest : List TxnId) → p.todo.items ≡ rest ++ u ∷ [] → ArePartsMerged old p new → IsSearch E S met count new.path.items new.done new.components.items
    step_merged rest f g =
        let w = g.parts in
        let a = in_earlier in
        let z = merges E S met count w.0 w.1 p w.2 old.done old.components.items (subst (λ l. IsSearch E S met count (l ++ p ∷ []) old.done old.components.items) w.3 s)
        u (subst (Has u) (sym f) (has_right u rest (u ∷ []) (inl refl))) (a.0, subst (Has a.0) w.3 a.1, a.2) w.5 w.6 w.7 in
        subst (λ l. IsSearch E S met count l new.done new.components.items) (sym w.4)
        (subst (λ l. IsSearch E S met count (w.0 ++ w.2 ∷ []) l new.components.items) (sym g.done)
        (subst (λ l. IsSearch E S met count (w.0 ++ w.2 ∷ []) old.done l) (sym g.components) z))

-- ---- one id after another

-- the front of a list with one more
pub front_cases : (xs : List TxnId) (i : ℕ) (x none u : TxnId) → i < length xs → x ≡ get_or xs i none → Has u (take (i + 1) xs) → Has u (take i xs) ⊎ (u ≡ x)
front_cases xs i x none u l e h = elim (has_more u (get_or xs i none) (take i xs) (subst (Has u) (take_more xs i none l) h)) [ inl k ↦ inl k | inr k ↦ inr (k ∙ sym e) ]

pub met_or_new : (met : TxnId → Option ℕ) (x u : TxnId) (o : Option TxnId) → IsUnmet met x o → u ≡ x → WasNumbered met u ⊎ (o ≡ Some u)
met_or_new met x u None h e = inl (subst (WasNumbered met) (sym e) h)
met_or_new met x u (Some t) h e = inr (ap Some (h.0 ∙ sym e))

pub walk_starts : (known : List KnownList) (S : List TxnId) (met : BTreeMap TxnId ℕ) (s : Search) (x : TxnId) (o : Option TxnId) → IsUnmet (met_of met) x o → s.path.items ≡ [] → Has x S → IsAhead known S met s o
walk_starts known S met s x None h e i = e
walk_starts known S met s x (Some t) h e i = record { new = ap (met_of met) h.0 ∙ h.1; within = subst (λ v. Has v S) (sym h.0) i; leads = λ p k. absurd (subst (Has p) e k) }

pub same_weight : (below : List Part) (p r : Part) → r.todo.items ≡ p.todo.items → weight (below ++ r ∷ []) ≡ weight (below ++ p ∷ [])
same_weight below p r e = let a = weight_more below p in let b = weight_more below r in let n = ap length e in omega arith
