-- Least orders: chains go forwards in them, and component order is one where no two are mates
use Rattle.std.proofs.Common.{◌≡◌, ◌↔◌, List, true, refl, sym, subst, ◌∙◌, inl, inr, arith}
use Rattle.std.proofs.lemmas.Bool.{false≢true}
use Rattle.roc_sequence.specs.Places.{IsListed, IsListedBefore}
use Rattle.roc_base.specs.declared.id.TxnId.{TxnId}
use Rattle.roc_base.specs.TxnId.{is_txn, txn_lt}
use Rattle.roc_base.proofs.Ids.{txn_lt-itself}
use Rattle.roc_depgraph.specs.Reach.{Reaches, direct, through}
use Rattle.roc_component.specs.Components.{among, Mates, IsComponentOrder, IsNext}
use Rattle.roc_component.proofs.OneOrder.{one_order}
use Rattle.roc_precedence.specs.Cycles.{HasCycle}
use Rattle.roc_precedence.specs.Orders.{IsLeastOrder, HaveSameChains}
use Rattle.roc_precedence.proofs.Walks.{cycle_chain}

before_trans : (xs : List TxnId) (a b c : TxnId) → IsListedBefore is_txn xs a b → IsListedBefore is_txn xs b c → IsListedBefore is_txn xs a c
before_trans xs a b c h k = omega arith

module _ (G : TxnId → TxnId → Type 0) (M xs : List TxnId) (order : IsLeastOrder G M xs) where
  pub chain_forwards : (u t : TxnId) → Reaches (among M G) u t → IsListedBefore is_txn xs u t
  chain_forwards u t (direct e) = order.keeps u t e.0 e.1 e.2
  chain_forwards u t (through {s} p e) = before_trans xs u s t (chain_forwards u s p) (order.keeps s t e.0 e.1 e.2)

  pub no_round : (u : TxnId) → ¬ Reaches (among M G) u u
  no_round u p = let h = chain_forwards u u p in omega arith

  pub order_has_no_cycle : ¬ HasCycle G M
  order_has_no_cycle c = let r = cycle_chain G M c in no_round r.0 r.1

  same_mate : (a b : TxnId) → Mates (among M G) a b → a ≡ b
  same_mate a b (inl e) = e
  same_mate a b (inr p) = absurd (let h = chain_forwards a b p.0 in let k = chain_forwards b a p.1 in omega arith)

  abbrev Never : TxnId → TxnId → Type 0
  Never u t = ⊥

  next_in_order : (x : TxnId) → IsListed is_txn xs x → IsNext (among M G) (among M Never) M (λ u. IsListedBefore is_txn xs u x) x
  next_in_order x h =
      record {
        ready = λ p y m e n. subst (λ v. IsListedBefore is_txn xs p v) (sym (same_mate x y m)) (order.keeps p y e.0 e.1 e.2);
        ends = λ y z t m l n. absurd (n (subst (λ v. IsListedBefore is_txn xs v x) (same_mate y z m) t));
        least = λ z no l n r. (x, order.from x h, inl refl, order.least x z (order.from x h) l n (λ u hu e. r u z (inl refl) (hu, l, e) (λ m. no_round z (direct (l, l, subst (λ v. G v z) (sym (same_mate z u m)) e)))));
        inside = inl (λ p m i. absurd i.2, λ z m n f k. false≢true (sym (txn_lt-itself x) ∙ (subst (λ v. txn_lt v x ≡ true) (sym (same_mate x z m)) (truth z k))));
      }
    where
      truth : (z : TxnId) → txn_lt z x ≡ true → txn_lt z x ≡ true
      truth z k = k

  pub order_is_component_order : IsComponentOrder G Never M xs
  order_is_component_order = record { once = order.once; from = order.from; all = order.all; next = next_in_order }

pub orders_are_one : (G : TxnId → TxnId → Type 0) (M xs ys : List TxnId) → IsLeastOrder G M xs → IsLeastOrder G M ys → xs ≡ ys
orders_are_one G M xs ys p q = one_order G (λ u t. ⊥) M xs ys (order_is_component_order G M xs p) (order_is_component_order G M ys q)

-- the last step of a chain, behind which all that leads to it stands
module _ (G H : TxnId → TxnId → Type 0) (M xs : List TxnId) (same : HaveSameChains G H M) (order : IsLeastOrder G M xs) where
  other_forwards : (u t : TxnId) → Reaches (among M H) u t → IsListedBefore is_txn xs u t
  other_forwards u t p = chain_forwards G M xs order u t ((same u t).1 p)

  last_step : (u z x : TxnId) → ((s : TxnId) → IsListed is_txn M s → H s z → IsListedBefore is_txn xs s x) → Reaches (among M H) u z → IsListedBefore is_txn xs u x
  last_step u z x before (direct e) = before u e.0 e.2
  last_step u z x before (through {s} p e) = before_trans xs u s x (other_forwards u s p) (before s e.0 e.2)

  pub orders_by_chains : IsLeastOrder H M xs
  orders_by_chains = record {
    once = order.once;
    from = order.from;
    all = order.all;
    keeps = λ u x hu hx e. other_forwards u x (direct (hu, hx, e));
    least = λ x z hx hz n before. order.least x z hx hz n (λ u hu e. last_step u z x before ((same u z).0 (direct (hu, hz, e))));
  }

-- by other words for the same edges and the same members
pub order_by_edges : (G H : TxnId → TxnId → Type 0) (M N xs : List TxnId) → ((t : TxnId) → IsListed is_txn M t ↔ IsListed is_txn N t) → ((u t : TxnId) → IsListed is_txn M t → G u t ↔ H u t) → IsLeastOrder G M xs → IsLeastOrder H N xs
order_by_edges G H M N xs members same order = record {
  once = order.once;
  from = λ x h. (members x).0 (order.from x h);
  all = λ x h. order.all x ((members x).1 h);
  keeps = λ u x hu hx e. order.keeps u x ((members u).1 hu) ((members x).1 hx) ((same u x ((members x).1 hx)).1 e);
  least = λ x z hx hz n before. order.least x z ((members x).1 hx) ((members z).1 hz) n (λ u hu e. before u ((members u).0 hu) ((same u z ((members z).1 hz)).0 e));
}

module _ (E I : TxnId → TxnId → Type 0) (M xs : List TxnId) (single : (a b : TxnId) → Mates (among M E) a b → a ≡ b) (own : (t : TxnId) → IsListed is_txn M t → ¬ E t t) (order : IsComponentOrder E I M xs) where
  step_keeps : (u x : TxnId) → IsListed is_txn M u → IsListed is_txn M x → E u x → IsListedBefore is_txn xs u x
  step_keeps u x hu hx e = (order.next x (order.all x hx)).ready u x (inl refl) (hu, hx, e) (λ m. own x hx (subst (λ v. E v x) (sym (single x u m)) e))

  least_at : (x z : TxnId) → IsListed is_txn M x → IsListed is_txn M z → ¬ IsListedBefore is_txn xs z x → ((u : TxnId) → IsListed is_txn M u → E u z → IsListedBefore is_txn xs u x) → ¬ (txn_lt z x ≡ true)
  least_at x z hx hz n before =
      let found = (order.next x (order.all x hx)).least z
      (λ y t m. let e = single y x m in let h = subst (λ v. IsListedBefore is_txn xs v x) e t in omega arith)
      hz n (λ p y m e k. before p e.0 (subst (E p) (sym (single z y m)) e.2)) in
      λ l. found.3 (subst (λ v. txn_lt z v ≡ true) (single x found.0 found.2) l)

  pub components_are_least : IsLeastOrder E M xs
  components_are_least = record { once = order.once; from = order.from; all = order.all; keeps = step_keeps; least = least_at }
