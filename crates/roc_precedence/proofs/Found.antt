-- Components of one member, cycles, and what a search for the order answers
use Rattle.std.proofs.Common.{◌≡◌, ◌↔◌, ◌<◌, ◌≤◌, Bool, true, false, ◌&&◌, List, [], ◌∷◌, length, Option, Some, None, IfSome, refl, sym, subst, ◌∙◌, inl, inr, arith}
use Rattle.std.proofs.lemmas.Bool.{false≢true, leb-true, leb-false}
use Rattle.std.specs.List.{list_any, list_all}
use Rattle.roc_sequence.proofs.Holds.{any_has, has_any, every_has}
use Rattle.roc_sequence.specs.Lists.{Has}
use Rattle.roc_sequence.specs.Places.{IsListed}
use Rattle.roc_sequence.proofs.Places.{listed_head}
use Rattle.roc_base.specs.declared.id.TxnId.{TxnId}
use Rattle.roc_base.specs.TxnId.{is_txn}
use Rattle.roc_base.specs.Equalities.{is_txn-same}
use Rattle.roc_depgraph.specs.declared.known.KnownList.{KnownList}
use Rattle.roc_depgraph.specs.Closure.{IsRisingListOf}
use Rattle.roc_depgraph.specs.Deps.{Precedes}
use Rattle.roc_depgraph.proofs.Chains.{joined_chain, weaker_chain}
use Rattle.roc_depgraph.proofs.Listed.{has_listed, listed_has}
use Rattle.roc_component.specs.Components.{among, Mates, AreComponentsOf, IsComponentOrderOf}
use Rattle.roc_component.proofs.ListsWithin.{once_from_rising}
use Rattle.roc_component.proofs.Relations.{chain_starts}
use Rattle.roc_precedence.specs.declared.pair.Pair.{Pair}
use Rattle.roc_precedence.specs.Cycles.{HasCycle}
use Rattle.roc_precedence.specs.Inner.Lists.{AreListsFor, has_one_at_most, precedes_itself}
use Rattle.roc_precedence.specs.Orders.{IsLeastOrder}
use Rattle.roc_precedence.specs.Pairs.{IsPaired}
use Rattle.roc_precedence.proofs.Orders.{components_are_least, order_by_edges, order_has_no_cycle}
use Rattle.roc_precedence.proofs.Walks.{chain_cycle, cycle_chain}

one_member : (c : List TxnId) (a b : TxnId) → length c ≤ 1 → Has a c → Has b c → a ≡ b
one_member [] a b h p q = elim p [ ]
one_member (x ∷ []) a b h (inl e) (inl f) = e ∙ sym f
one_member (x ∷ []) a b h (inl e) (inr q) = elim q [ ]
one_member (x ∷ []) a b h (inr p) q = elim p [ ]
one_member (x ∷ y ∷ xs) a b h p q = absurd (omega arith)

module _ (known : List KnownList) (set : List TxnId) (lists : List (List TxnId)) (are : AreComponentsOf known set lists) where
  abbrev E : TxnId → TxnId → Type 0
  E = among set (Precedes known)

  abbrev AreSingle : Type 0
  AreSingle = (c : List TxnId) → Has c lists → length c ≤ 1

  abbrev HasSeveral : Type 0
  HasSeveral = (c : List TxnId) × Has c lists × (1 < length c)

  single_mates : AreSingle → (a b : TxnId) → Mates E a b → a ≡ b
  single_mates single a b (inl e) = e
  single_mates single a b (inr p) =
      let c = are.all a (listed_has set a (chain_starts (Precedes known) set a b p.0)) in
      one_member c.0 a b (single c.0 c.1) c.2 ((are.each c.0 c.1).complete a b c.2 (inr p))

  several_cycle : HasSeveral → HasCycle (Precedes known) set
  several_cycle (c, has, long) = go c has long
    where
      go : (c : List TxnId) → Has c lists → 1 < length c → HasCycle (Precedes known) set
      go [] has long = absurd (omega arith)
      go (x ∷ []) has long = absurd (omega arith)
      go (x ∷ y ∷ xs) has long =
          let is = are.each (x ∷ y ∷ xs) has in
          elim (is.sound x y (inl refl) (inr (inl refl))) [
            | inl e ↦ absurd ((once_from_rising (x ∷ y ∷ xs) is.rising).0 (subst (IsListed is_txn (y ∷ xs)) (sym e) (listed_head is_txn y xs (is_txn-same y))))
            | inr p ↦ chain_cycle (Precedes known) set x (joined_chain E x y x p.0 p.1)
          ]

  order_is_least : (xs : List TxnId) → AreSingle → ((t : TxnId) → IsListed is_txn set t → ¬ Precedes known t t) → IsComponentOrderOf known set xs → IsLeastOrder (Precedes known) set xs
  order_is_least xs single own order = components_are_least (Precedes known) _ set xs (single_mates single) own order

-- a test that not all pass is failed by one
failed : {A : Type 0} (p : A → Bool) (xs : List A) → list_all p xs ≡ false → (x : A) × Has x xs × (p x ≡ false)
failed p [] e = absurd (false≢true (sym e))
failed {A} p (x ∷ xs) e = go (p x) refl e (failed p xs)
  where
    go : (b : Bool) → p x ≡ b → (b && list_all p xs) ≡ false → (list_all p xs ≡ false → (y : A) × Has y xs × (p y ≡ false)) → (y : A) × Has y (x ∷ xs) × (p y ≡ false)
    go true f k ih = let r = ih k in (r.0, inr r.1, r.2)
    go false f k ih = (x, inl refl, f)

module _ (known : List KnownList) (set : List TxnId) where
  pub own_from : (own : Bool) → own ≡ list_any (precedes_itself known) set → own ≡ true → HasCycle (Precedes known) set
  own_from own e f =
      let r = any_has (precedes_itself known) set (sym e ∙ f) in
      let l = has_listed set r.0 r.1 in
      (r.0 ∷ [], (l, l, r.2))

  none_own : (own : Bool) → own ≡ list_any (precedes_itself known) set → own ≡ false → (t : TxnId) → IsListed is_txn set t → ¬ Precedes known t t
  none_own own e f t l p = false≢true (sym f ∙ (e ∙ has_any (precedes_itself known) set t (listed_has set t l) p))

  module _ (lists met : List (List TxnId)) (are : AreComponentsOf known set lists) (seen : met ≡ lists) (single : Bool) (tested : single ≡ list_all has_one_at_most met) where
    pub several_from : single ≡ false → HasCycle (Precedes known) set
    several_from f =
        let r = failed has_one_at_most met (sym tested ∙ f) in
        several_cycle known set lists are (r.0, subst (λ (l : List (List TxnId)). Has r.0 l) seen r.1, (let k = leb-false (length r.0) 1 r.2 in omega arith))

    pub order_from : (own : Bool) (xs : List TxnId) → single ≡ true → own ≡ list_any (precedes_itself known) set → own ≡ false → IsComponentOrderOf known set xs → IsLeastOrder (Precedes known) set xs
    order_from own xs f e g order =
        order_is_least known set lists are xs
        (λ c has. leb-true (length c) 1 (every_has has_one_at_most met (sym tested ∙ f) c (subst (λ (l : List (List TxnId)). Has c l) (sym seen) has)))
        (none_own own e g) order

-- cycles by other words for the same edges and the same members
pub cycle_by_edges : (G H : TxnId → TxnId → Type 0) (M N : List TxnId) → ((t : TxnId) → IsListed is_txn M t → IsListed is_txn N t) → ((u t : TxnId) → IsListed is_txn M t → G u t → H u t) → HasCycle G M → HasCycle H N
cycle_by_edges G H M N members edges c =
    let r = cycle_chain G M c in
    chain_cycle H N r.0 (weaker_chain (among M G) (among N H) (λ u t e. (members u e.0, members t e.1, edges u t e.1 e.2)) r.0 r.0 r.1)

module _ (ids set met : List TxnId) (pairs : List Pair) (known : List KnownList) (all : IsRisingListOf (IsListed is_txn ids) set) (seen : met ≡ set) (are : AreListsFor pairs met known) where
  member : (t : TxnId) → IsListed is_txn met t → IsListed is_txn ids t
  member t l = all.sound t (subst (λ xs. IsListed is_txn xs t) seen l)

  met_member : (t : TxnId) → IsListed is_txn ids t → IsListed is_txn met t
  met_member t l = subst (λ xs. IsListed is_txn xs t) (sym seen) (all.complete t l)

  order_for : (xs : List TxnId) → IsLeastOrder (Precedes known) met xs → IsLeastOrder (IsPaired pairs) ids xs
  order_for xs = order_by_edges (Precedes known) (IsPaired pairs) met ids xs (λ t. (member t, met_member t)) (λ u t l. are.each t l u)

  cycle_for : HasCycle (Precedes known) met → HasCycle (IsPaired pairs) ids
  cycle_for = cycle_by_edges (Precedes known) (IsPaired pairs) met ids member (λ u t l e. (are.each t l u).0 e)

  cycle_back : HasCycle (IsPaired pairs) ids → HasCycle (Precedes known) met
  cycle_back = cycle_by_edges (IsPaired pairs) (Precedes known) ids met met_member (λ u t l e. (are.each t (met_member t l) u).1 e)

  pub found_for : {A : Type 0} (found : Option A) (items : A → List TxnId) → IfSome found (λ order. IsLeastOrder (Precedes known) met (items order)) → IfSome found (λ order. IsLeastOrder (IsPaired pairs) ids (items order))
  found_for None items h = tt
  found_for (Some xs) items h = order_for (items xs) h

  pub none_for : {A : Type 0} (found : Option A) → ((found ≡ None) ↔ HasCycle (Precedes known) met) → (found ≡ None) ↔ HasCycle (IsPaired pairs) ids
  none_for found h = (λ e. cycle_for (h.0 e), λ c. h.1 (cycle_back c))

-- an order leaves no cycle
pub some_or_cycle : (G : TxnId → TxnId → Type 0) (M xs : List TxnId) {A : Type 0} (found : A) → IsLeastOrder G M xs → (Some found ≡ None) ↔ HasCycle G M
some_or_cycle G M xs found order = (λ e. absurd (cc), λ c. absurd (order_has_no_cycle G M xs order c))

pub none_or_cycle : (G : TxnId → TxnId → Type 0) (M : List TxnId) {A : Type 0} (found : Option A) → found ≡ None → HasCycle G M → (found ≡ None) ↔ HasCycle G M
none_or_cycle G M found e c = (λ f. c, λ d. e)
