-- The component order reads of a set its members and the edges among them alone
use Rattle.std.proofs.Common.{◌≡◌, List, inl, inr}
use Rattle.roc_sequence.specs.Places.{IsListedBefore}
use Rattle.roc_base.specs.declared.id.TxnId.{TxnId}
use Rattle.roc_base.specs.TxnId.{is_txn}
use Rattle.roc_depgraph.specs.declared.known.KnownList.{KnownList}
use Rattle.roc_depgraph.specs.Deps.{Precedes, PrecedesNow}
use Rattle.roc_depgraph.proofs.Chains.{weaker_chain}
use Rattle.roc_component.specs.Components.{Mates, IsReady, IsNextInside, IsNext, among, IsComponentOrder, IsComponentOrderOf, HaveSameEdges, HaveSameMembers}
use Rattle.roc_component.proofs.OneOrder.{one_order}

module _ (A B : TxnId → TxnId → Type 0) (to : (u t : TxnId) → A u t → B u t) where
  pub mates_to : (a b : TxnId) → Mates A a b → Mates B a b
  mates_to a b (inl e) = inl e
  mates_to a b (inr p) = inr (weaker_chain A B to a b p.0, weaker_chain A B to b a p.1)

-- edges that are the same name the same next ones
module _ (A B : TxnId → TxnId → Type 0) (to : (u t : TxnId) → A u t → B u t) (from : (u t : TxnId) → B u t → A u t) where
  on : (a b : TxnId) → Mates A a b → Mates B a b
  on = mates_to A B to

  off : (a b : TxnId) → Mates B a b → Mates A a b
  off = mates_to B A from

  ready_on : (taken : TxnId → Type 0) (z : TxnId) → IsReady A taken z → IsReady B taken z
  ready_on taken z r p y m e n = r p y (off z y m) (from p y e) (λ k. n (on z p k))

  ready_off : (taken : TxnId → Type 0) (z : TxnId) → IsReady B taken z → IsReady A taken z
  ready_off taken z r p y m e n = r p y (on z y m) (to p y e) (λ k. n (off z p k))

  module _ (I J : TxnId → TxnId → Type 0) (now_to : (u t : TxnId) → I u t → J u t) (now_from : (u t : TxnId) → J u t → I u t) (taken : TxnId → Type 0) (x : TxnId) where
    inside_on : IsNextInside A I taken x → IsNextInside B J taken x
    inside_on (inl h) =
        inl (
          λ p m i. h.0 p (off x p m) (now_from p x i),
          λ z m n f. h.1 z (off x z m) n (λ p k i. f p (on x p k) (now_to p z i)),
        )
    inside_on (inr h) =
        inr (
          λ z m n f. h.0 z (off x z m) n (λ p k i. f p (on x p k) (now_to p z i)),
          λ z m n f. h.1 z (off x z m) n f,
        )

    next_on : (M N : List TxnId) → HaveSameMembers M N → IsNext A I M taken x → IsNext B J N taken x
    next_on M N same h =
        record {
          ready = ready_on taken x h.ready;
          ends = λ y z t m l n. on y x (h.ends y z t (off y z m) ((same z).1 l) n);
          least = λ z no l n r.
              let w = h.least z (λ y t k. no y t (on y x k)) ((same z).1 l) n (ready_off taken z r) in
              (w.0, (same w.0).0 w.1, on x w.0 w.2, w.3);
          inside = inside_on h.inside;
        }

-- an order by some edges is one by any that are the same among the members
module _ (E F I J : TxnId → TxnId → Type 0) (M N xs : List TxnId) (same : HaveSameMembers M N) where
  pub order_alike :
      ((u t : TxnId) → among M E u t → among N F u t) → ((u t : TxnId) → among N F u t → among M E u t)
      → ((u t : TxnId) → among M I u t → among N J u t) → ((u t : TxnId) → among N J u t → among M I u t)
      → IsComponentOrder E I M xs → IsComponentOrder F J N xs
  order_alike to from now_to now_from o =
      record {
        once = o.once;
        from = λ t h. (same t).0 (o.from t h);
        all = λ t h. o.all t ((same t).1 h);
        next = λ x h. next_on (among M E) (among N F) to from (among M I) (among N J) now_to now_from (λ u. IsListedBefore is_txn xs u x) x M N same (o.next x h);
      }

pub one_by_edges : (known other : List KnownList) (M xs ys : List TxnId) → HaveSameEdges M known other → IsComponentOrderOf known M xs → IsComponentOrderOf other M ys → xs ≡ ys
one_by_edges known other M xs ys s p q =
    one_order (Precedes other) (PrecedesNow other) M xs ys
    (order_alike (Precedes known) (Precedes other) (PrecedesNow known) (PrecedesNow other) M M xs (λ t. (λ h. h, λ h. h))
    (λ u t e. (e.0, e.1, (s.edges u t e.0 e.1).0 e.2)) (λ u t e. (e.0, e.1, (s.edges u t e.0 e.1).1 e.2))
    (λ u t e. (e.0, e.1, (s.immediate u t e.0 e.1).0 e.2)) (λ u t e. (e.0, e.1, (s.immediate u t e.0 e.1).1 e.2)) p)
    q

pub order_of_same : (known : List KnownList) (M N xs : List TxnId) → HaveSameMembers M N → IsComponentOrderOf known M xs → IsComponentOrderOf known N xs
order_of_same known M N xs same =
    order_alike (Precedes known) (Precedes known) (PrecedesNow known) (PrecedesNow known) M N xs same
    (λ u t e. ((same u).0 e.0, (same t).0 e.1, e.2)) (λ u t e. ((same u).1 e.0, (same t).1 e.1, e.2))
    (λ u t e. ((same u).0 e.0, (same t).0 e.1, e.2)) (λ u t e. ((same u).1 e.0, (same t).1 e.1, e.2))

pub one_by_members : (known : List KnownList) (M N xs ys : List TxnId) → HaveSameMembers M N → IsComponentOrderOf known M xs → IsComponentOrderOf known N ys → xs ≡ ys
one_by_members known M N xs ys same p q = one_order (Precedes known) (PrecedesNow known) N xs ys (order_of_same known M N xs same p) q
