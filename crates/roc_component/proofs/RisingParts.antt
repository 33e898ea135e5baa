-- Components as they are taken, each rising
use Rattle.std.proofs.Common.{◌≡◌, ◌++◌, List, [], ◌∷◌, refl, sym, subst, inl, inr}
use Rattle.std.specs.List.{flat_map}
use Rattle.roc_sequence.specs.Lists.{Has}
use Rattle.roc_sequence.specs.Places.{IsListed, NoneTwice}
use Rattle.roc_sequence.proofs.Members.{has_flat_map, from_has_flat_map}
use Rattle.roc_base.specs.declared.id.TxnId.{TxnId}
use Rattle.roc_base.specs.TxnId.{is_txn}
use Rattle.roc_depgraph.specs.declared.known.KnownList.{KnownList}
use Rattle.roc_depgraph.specs.Closure.{IsRisingListOf}
use Rattle.roc_depgraph.proofs.Listed.{has_listed, listed_has}
use Rattle.roc_depgraph.proofs.RisingLists.{rising_one}
use Rattle.roc_component.specs.Components.{AreComponentsOf, AreRisingOf, AreTakenRising, ShareNoMember}
use Rattle.roc_component.proofs.OneTaken.{none_behind, none_in_both, one_taken}

-- what rises with the members of one of the lists
pub record RisesFrom (cs : List (List TxnId)) (d : List TxnId) : Type 0 where
  pub list : List TxnId
  pub there : Has list cs
  pub rises : IsRisingListOf (IsListed is_txn list) d

rises_from : (cs ds : List (List TxnId)) → AreRisingOf cs ds → (d : List TxnId) → Has d ds → RisesFrom cs d
rises_from [] [] r d h = absurd h
rises_from [] (e ∷ ds) r d h = absurd r
rises_from (c ∷ cs) [] r d h = absurd h
rises_from (c ∷ cs) (e ∷ ds) r d (inl i) = record { list = c; there = inl refl; rises = subst (IsRisingListOf (IsListed is_txn c)) (sym i) r.0 }
rises_from (c ∷ cs) (e ∷ ds) r d (inr h) = (let w = rises_from cs ds r.1 d h in record { list = w.list; there = inr w.there; rises = w.rises })

rises_to : (cs ds : List (List TxnId)) → AreRisingOf cs ds → (c : List TxnId) → Has c cs → (d : List TxnId) × Has d ds × IsRisingListOf (IsListed is_txn c) d
rises_to [] [] r c h = absurd h
rises_to [] (e ∷ ds) r c h = absurd r
rises_to (b ∷ cs) [] r c h = absurd r
rises_to (b ∷ cs) (e ∷ ds) r c (inl i) = (e, inl refl, subst (λ v. IsRisingListOf (IsListed is_txn v) e) (sym i) r.0)
rises_to (b ∷ cs) (e ∷ ds) r c (inr h) = (let w = rises_to cs ds r.1 c h in (w.0, inr w.1, w.2))

member_from : (c d : List TxnId) → IsRisingListOf (IsListed is_txn c) d → (u : TxnId) → Has u d → Has u c
member_from c d r u h = listed_has c u (r.sound u (has_listed d u h))

member_to : (c d : List TxnId) → IsRisingListOf (IsListed is_txn c) d → (u : TxnId) → Has u c → Has u d
member_to c d r u h = listed_has d u (r.complete u (has_listed c u h))

share_none : (cs ds : List (List TxnId)) → NoneTwice is_txn (flat_map (λ c. c) cs) → AreRisingOf cs ds → ShareNoMember ds
share_none [] [] n r = tt
share_none [] (d ∷ ds) n r = absurd r
share_none (c ∷ cs) [] n r = tt
share_none (c ∷ cs) (d ∷ ds) n r = (
  λ e h u k l.
      let w = rises_from cs ds r.1 e h in
      none_in_both c (flat_map (λ c. c) cs) n u (member_from c d r.0 u k) (has_flat_map (λ c. c) u w.list cs w.there (member_from w.list e w.rises u l)),
  share_none cs ds (none_behind c (flat_map (λ c. c) cs) n) r.1,
)

module _ (known : List KnownList) (M : List TxnId) where
  -- they are the components
  pub components_of_taken : (ds : List (List TxnId)) → AreTakenRising known M ds → AreComponentsOf known M ds
  components_of_taken ds a =
      let cs = a.taken in
      let is = a.are_taken in
      record {
        each = λ d h.
            let w = rises_from cs ds a.rising d h in
            let mates = is.mates w.list w.there in
            record {
              rising = w.rises.rising;
              sound = λ x u hx hu. (mates x u (member_from w.list d w.rises x hx)).1 (member_from w.list d w.rises u hu);
              complete = λ x u hx m. member_to w.list d w.rises u ((mates x u (member_from w.list d w.rises x hx)).0 m);
            };
        apart = share_none cs ds is.order.once a.rising;
        all = λ u h.
            let k = from_has_flat_map (λ c. c) u cs (listed_has (flat_map (λ c. c) cs) u (is.order.all u (has_listed M u h))) in
            let w = rises_to cs ds a.rising k.0 k.1 in
            (w.0, w.1, member_to k.0 w.0 w.2 u k.2);
        only = λ d h u k.
            let w = rises_from cs ds a.rising d h in
            listed_has M u (is.order.from u (has_listed (flat_map (λ c. c) cs) u (has_flat_map (λ c. c) u w.list cs w.there (member_from w.list d w.rises u k))));
      }

  same_rising : (cs xs ys : List (List TxnId)) → AreRisingOf cs xs → AreRisingOf cs ys → xs ≡ ys
  same_rising [] [] [] r q = refl
  same_rising [] [] (y ∷ ys) r q = absurd q
  same_rising [] (x ∷ xs) ys r q = absurd r
  same_rising (c ∷ cs) [] ys r q = absurd r
  same_rising (c ∷ cs) (x ∷ xs) [] r q = absurd q
  same_rising (c ∷ cs) (x ∷ xs) (y ∷ ys) r q =
      let first = rising_one (IsListed is_txn c) x y r.0 q.0 in
      let rest = same_rising cs xs ys r.1 q.1 in
      λ i. first i ∷ rest i

  pub one_rising : (xs ys : List (List TxnId)) → AreTakenRising known M xs → AreTakenRising known M ys → xs ≡ ys
  one_rising xs ys a b = same_rising b.taken xs ys (subst (λ cs. AreRisingOf cs xs) (one_taken known M a.taken b.taken a.are_taken b.are_taken) a.rising) b.rising

-- one more list of a loop
pub rising_more : (cs ds : List (List TxnId)) (c d : List TxnId) → AreRisingOf cs ds → IsRisingListOf (IsListed is_txn c) d → AreRisingOf (cs ++ c ∷ []) (ds ++ d ∷ [])
rising_more [] [] c d r q = (q, tt)
rising_more [] (e ∷ ds) c d r q = absurd r
rising_more (b ∷ cs) [] c d r q = absurd r
rising_more (b ∷ cs) (e ∷ ds) c d r q = (r.0, rising_more cs ds c d r.1 q)
