-- A component order falls into its components, in the order in which they are taken
use Rattle.std.proofs.Common.{◌≡◌, ◌≢◌, Bool, true, false, ◌&&◌, ◌||◌, cond, List, [], ◌∷◌, ◌++◌, refl, sym, ap, subst, ◌∙◌, inl, inr, IsTrue, arith, append_assoc}
use Rattle.std.proofs.lemmas.Bool.{false≢true, or_cases, or_left, or_right, and_parts, and_from}
use Rattle.std.specs.List.{list_any, flat_map}
use Rattle.roc_sequence.specs.Lists.{Has}
use Rattle.roc_sequence.specs.Places.{IsListed, is_listed, IsListedBefore, NoneTwice}
use Rattle.roc_sequence.proofs.Appended.{before_behind, from_before_behind}
use Rattle.roc_sequence.proofs.Members.{has_right, has_flat_map, from_has_flat_map}
use Rattle.roc_sequence.proofs.Places.{place_of-here, place_of-there, listed_true, listed_test}
use Rattle.roc_base.specs.declared.id.TxnId.{TxnId}
use Rattle.roc_base.specs.TxnId.{is_txn}
use Rattle.roc_base.specs.Equalities.{is_txn-true, is_txn-same}
use Rattle.roc_base.proofs.Ids.{is_txn-eq, is_txn-ne}
use Rattle.roc_depgraph.specs.declared.known.KnownList.{KnownList}
use Rattle.roc_depgraph.specs.Deps.{entries_of, Precedes, PrecedesNow}
use Rattle.roc_depgraph.specs.Reach.{Reaches}
use Rattle.roc_depgraph.proofs.Chains.{weaker_chain}
use Rattle.roc_depgraph.proofs.Listed.{has_listed, listed_has}
use Rattle.roc_component.specs.Components.{among, Mates, IsComponentOrder, IsComponentOrderOf, AreTaken}
use Rattle.roc_component.proofs.OneTaken.{none_behind, none_in_both}
use Rattle.roc_component.proofs.Paths.{path, path_chain, chain_path}
use Rattle.roc_component.proofs.Relations.{mates_sym, mates_trans, mate_in}

-- ---- a list cut where the next one is no mate

module _ (R : TxnId → TxnId → Type 0) where
  -- no mate of one that is in a part is in a later one
  abbrev AreApart : List (List TxnId) → Type 0
  AreApart [] = Unit {0}
  AreApart (c ∷ cs) = ((d : List TxnId) → Has d cs → (t u : TxnId) → Has t c → Has u d → ¬ R t u) × AreApart cs

  record AreParts (xs : List TxnId) (cs : List (List TxnId)) : Type 0 where
    whole : flat_map (λ c. c) cs ≡ xs
    some : (c : List TxnId) → Has c cs → c ≢ []
    inside : (c : List TxnId) → Has c cs → (t u : TxnId) → Has t c → Has u c → R t u
    apart : AreApart cs

  -- where the one behind x is no mate of x, none further behind is
  abbrev IsTogether : TxnId → List TxnId → Type 0
  IsTogether x [] = Unit {0}
  IsTogether x (y ∷ ys) = (z : TxnId) → Has z ys → R x z → R x y

  abbrev AreTogether : List TxnId → Type 0
  AreTogether [] = Unit {0}
  AreTogether (x ∷ xs) = IsTogether x xs × AreTogether xs

  module _ (mate : TxnId → TxnId → Bool) (from : (t u : TxnId) → mate t u ≡ true → R t u) (to : (t u : TxnId) → R t u → mate t u ≡ true)
      (itself : (t : TxnId) → R t t) (swap : (t u : TxnId) → R t u → R u t) (trans : (t u v : TxnId) → R t u → R u v → R t v) where
    abbrev with_first : TxnId → List (List TxnId) → List (List TxnId)
    with_first x [] = (x ∷ []) ∷ []
    with_first x ([] ∷ cs) = (x ∷ []) ∷ cs
    with_first x ((y ∷ c) ∷ cs) = cond (mate x y) ((x ∷ y ∷ c) ∷ cs) ((x ∷ []) ∷ (y ∷ c) ∷ cs)

    abbrev parts : List TxnId → List (List TxnId)
    parts [] = []
    parts (x ∷ xs) = with_first x (parts xs)

    alone : (x : TxnId) (t u : TxnId) → Has t (x ∷ []) → Has u (x ∷ []) → R t u
    alone x t u (inl e) (inl f) = subst (λ v. R v u) (sym e) (subst (R x) (sym f) (itself x))
    alone x t u (inl e) (inr k) = absurd k
    alone x t u (inr h) k = absurd h

    parts_more : (x : TxnId) (xs : List TxnId) (cs : List (List TxnId)) → IsTogether x xs → AreParts xs cs → AreParts (x ∷ xs) (with_first x cs)
    parts_more x xs [] near is =
        record {
          whole = ap (λ ys. x ∷ ys) is.whole;
          some = λ c h e. elim h [ inl f ↦ (let g : x ∷ [] ≡ [] = sym f ∙ e in absurd (cc)) | inr k ↦ absurd k ];
          inside = λ c h t u a b. elim h [ inl f ↦ alone x t u (subst (Has t) f a) (subst (Has u) f b) | inr k ↦ absurd k ];
          apart = (λ d h. absurd h, tt);
        }
    parts_more x xs ([] ∷ cs) near is = absurd (is.some [] (inl refl) refl)
    parts_more x xs ((y ∷ c) ∷ cs) near is = go (mate x y) refl
      where
        near_y : (z : TxnId) → Has z (flat_map (λ d. d) ((y ∷ c) ∷ cs)) → R x z → R x y
        near_y z (inl e) r = subst (R x) e r
        near_y z (inr h) r = subst (IsTogether x) (sym is.whole) near z h r

        joined : R x y → AreParts (x ∷ xs) ((x ∷ y ∷ c) ∷ cs)
        joined r =
            record {
              whole = ap (λ ys. x ∷ ys) is.whole;
              some = λ d h e. elim h [ inl f ↦ (let g : x ∷ y ∷ c ≡ [] = sym f ∙ e in absurd (cc)) | inr k ↦ is.some d (inr k) e ];
              inside = λ d h t u a b. elim h [ inl f ↦ first t u (subst (Has t) f a) (subst (Has u) f b) | inr k ↦ is.inside d (inr k) t u a b ];
              apart = (λ d h t u a b k. elim a [ inl e ↦ is.apart.0 d h y u (inl refl) b (trans y x u (swap x y r) (subst (λ v. R v u) e k)) | inr j ↦ is.apart.0 d h t u j b k ], is.apart.1);
            }
          where
            first : (t u : TxnId) → Has t (x ∷ y ∷ c) → Has u (x ∷ y ∷ c) → R t u
            first t u (inl e) (inl f) = alone x t u (inl e) (inl f)
            first t u (inl e) (inr k) = subst (λ v. R v u) (sym e) (trans x y u r (is.inside (y ∷ c) (inl refl) y u (inl refl) k))
            first t u (inr h) (inl f) = subst (R t) (sym f) (trans t y x (is.inside (y ∷ c) (inl refl) t y h (inl refl)) (swap x y r))
            first t u (inr h) (inr k) = is.inside (y ∷ c) (inl refl) t u h k

        cut : ¬ R x y → AreParts (x ∷ xs) ((x ∷ []) ∷ (y ∷ c) ∷ cs)
        cut n =
            record {
              whole = ap (λ ys. x ∷ ys) is.whole;
              some = λ d h e. elim h [ inl f ↦ (let g : x ∷ [] ≡ [] = sym f ∙ e in absurd (cc)) | inr k ↦ is.some d k e ];
              inside = λ d h t u a b. elim h [ inl f ↦ alone x t u (subst (Has t) f a) (subst (Has u) f b) | inr k ↦ is.inside d k t u a b ];
              apart = (λ d h t u a b k. elim a [ inl e ↦ n (near_y u (has_flat_map (λ d. d) u d ((y ∷ c) ∷ cs) h b) (subst (λ v. R v u) e k)) | inr j ↦ absurd j ], is.apart);
            }

        go : (b : Bool) → mate x y ≡ b → AreParts (x ∷ xs) (cond b ((x ∷ y ∷ c) ∷ cs) ((x ∷ []) ∷ (y ∷ c) ∷ cs))
        go true e = joined (from x y e)
        go false e = cut (λ r. false≢true (sym e ∙ to x y r))

    parts_are : (xs : List TxnId) → AreTogether xs → AreParts xs (parts xs)
    parts_are [] h = record { whole = refl; some = λ c h. absurd h; inside = λ c h. absurd h; apart = tt }
    parts_are (x ∷ xs) h = parts_more x xs (parts xs) h.0 (parts_are xs h.1)

    -- a mate of one that is in a part is in that part, if it is in any
    mate_inside : (cs : List (List TxnId)) → AreApart cs → (c d : List TxnId) → Has c cs → Has d cs → (t u : TxnId) → Has t c → Has u d → R t u → Has u c
    mate_inside [] h c d i j t u a b r = absurd i
    mate_inside (e ∷ cs) h c d (inl f) (inl g) t u a b r = subst (Has u) (g ∙ sym f) b
    mate_inside (e ∷ cs) h c d (inl f) (inr j) t u a b r = absurd (h.0 d j t u (subst (Has t) f a) b r)
    mate_inside (e ∷ cs) h c d (inr i) (inl g) t u a b r = absurd (h.0 c i u t (subst (Has u) g b) a (swap t u r))
    mate_inside (e ∷ cs) h c d (inr i) (inr j) t u a b r = mate_inside cs h.1 c d i j t u a b r

-- ---- a component order stands so

module _ (E I : TxnId → TxnId → Type 0) (M xs : List TxnId) (order : IsComponentOrder E I M xs) where
  abbrev R : TxnId → TxnId → Type 0
  R = Mates (among M E)

  none_again : (front rest : List TxnId) → xs ≡ front ++ rest → (u : TxnId) → Has u rest → ¬ IsListed is_txn front u
  none_again front rest e u h l = none_in_both front rest (subst (NoneTwice is_txn) e order.once) u (listed_has front u l) h

  once : (front rest : List TxnId) → xs ≡ front ++ rest → NoneTwice is_txn rest
  once front rest e = none_behind front rest (subst (NoneTwice is_txn) e order.once)

  first_before : (y x : TxnId) (zs : List TxnId) → NoneTwice is_txn (y ∷ x ∷ zs) → IsListedBefore is_txn (y ∷ x ∷ zs) y x
  first_before y x zs n =
      let a = place_of-here (is_txn y) y (x ∷ zs) (is_txn-same y) in
      let b = place_of-there (is_txn x) y (x ∷ zs) (is_txn-ne x y (λ e. n.0 (has_listed (x ∷ zs) y (inl (sym e))))) in
      omega arith

  not_before : (y x z : TxnId) (zs : List TxnId) → NoneTwice is_txn (y ∷ x ∷ zs) → Has z zs → ¬ IsListedBefore is_txn (y ∷ x ∷ zs) z x
  not_before y x z zs n h l =
      let a = place_of-there (is_txn z) y (x ∷ zs) (is_txn-ne z y (λ e. n.0 (has_listed (x ∷ zs) y (inr (subst (λ v. Has v zs) e h))))) in
      let b = place_of-there (is_txn x) y (x ∷ zs) (is_txn-ne x y (λ e. n.0 (has_listed (x ∷ zs) y (inl (sym e))))) in
      let c = place_of-here (is_txn x) x zs (is_txn-same x) in
      omega arith

  near : (front : List TxnId) (y : TxnId) (ys : List TxnId) → xs ≡ front ++ y ∷ ys → IsTogether R y ys
  near front y [] e = tt
  near front y (x ∷ zs) e = λ z h r.
      let in_order : (u : TxnId) → Has u (y ∷ x ∷ zs) → IsListed is_txn xs u = λ u k. subst (λ l. IsListed is_txn l u) (sym e) (has_listed (front ++ y ∷ x ∷ zs) u (has_right u front (y ∷ x ∷ zs) k)) in
      let apart : (u : TxnId) → Has u (y ∷ x ∷ zs) → ¬ IsListed is_txn front u = none_again front (y ∷ x ∷ zs) e in
      let n = once front (y ∷ x ∷ zs) e in
      (order.next x (in_order x (inr (inl refl)))).ends y z
      (subst (λ l. IsListedBefore is_txn l y x) (sym e) (before_behind is_txn front (y ∷ x ∷ zs) y x (apart y (inl refl)) (apart x (inr (inl refl))) (first_before y x zs n)))
      r (order.from z (in_order z (inr (inr h))))
      (λ l. not_before y x z zs n h (from_before_behind is_txn front (y ∷ x ∷ zs) z x (apart z (inr (inr h))) (apart x (inr (inl refl))) (subst (λ l. IsListedBefore is_txn l z x) e l)))

  together : (front rest : List TxnId) → xs ≡ front ++ rest → AreTogether R rest
  together front [] e = tt
  together front (y ∷ ys) e = (near front y ys e, together (front ++ y ∷ []) ys (e ∙ sym (append_assoc front (y ∷ []) ys)))

-- ---- so there are its components

module _ (known : List KnownList) (M : List TxnId) where
  abbrev A : TxnId → TxnId → Type 0
  A = among M (Precedes known)

  abbrev edge : TxnId → TxnId → Bool
  edge u t = is_listed is_txn M u && (is_listed is_txn M t && list_any (λ d. is_txn d.from u) (entries_of known t))

  edge_from : (u t : TxnId) → edge u t ≡ true → A u t
  edge_from u t h =
      let p = and_parts (is_listed is_txn M u) (is_listed is_txn M t && list_any (λ d. is_txn d.from u) (entries_of known t)) h in
      let q = and_parts (is_listed is_txn M t) (list_any (λ d. is_txn d.from u) (entries_of known t)) p.1 in
      (listed_true is_txn M u p.0, listed_true is_txn M t q.0, q.1)

  edge_to : (u t : TxnId) → A u t → edge u t ≡ true
  edge_to u t h =
      let named = list_any (λ d. is_txn d.from u) (entries_of known t) in
      and_from (is_listed is_txn M u) (is_listed is_txn M t && named) (listed_test is_txn M u h.0) (and_from (is_listed is_txn M t) named (listed_test is_txn M t h.1) h.2)

  abbrev reach : TxnId → TxnId → Bool
  reach = path edge M

  reach_from : (u t : TxnId) → reach u t ≡ true → Reaches A u t
  reach_from u t h = weaker_chain (λ a b. IsTrue (edge a b)) A edge_from u t (path_chain edge M u t h)

  reach_to : (u t : TxnId) → Reaches A u t → reach u t ≡ true
  reach_to u t p = chain_path edge M (λ a b e. (edge_from a b e).1) u t (weaker_chain A (λ a b. IsTrue (edge a b)) edge_to u t p)

  abbrev mate : TxnId → TxnId → Bool
  mate t u = is_txn t u || (reach t u && reach u t)

  mate_from : (t u : TxnId) → mate t u ≡ true → Mates A t u
  mate_from t u h =
      elim (or_cases (is_txn t u) (reach t u && reach u t) h) [
        | inl e ↦ inl (is_txn-true t u e)
        | inr k ↦ (let p = and_parts (reach t u) (reach u t) k in inr (reach_from t u p.0, reach_from u t p.1))
      ]

  mate_to : (t u : TxnId) → Mates A t u → mate t u ≡ true
  mate_to t u (inl e) = or_left (is_txn t u) (reach t u && reach u t) (is_txn-eq t u e)
  mate_to t u (inr p) = or_right (is_txn t u) (reach t u && reach u t) (and_from (reach t u) (reach u t) (reach_to t u p.0) (reach_to u t p.1))

  pub taken_parts : (xs : List TxnId) → IsComponentOrderOf known M xs → (cs : List (List TxnId)) × (flat_map (λ c. c) cs ≡ xs) × AreTaken known M cs
  taken_parts xs order =
      let cs = parts (Mates A) mate mate_from mate_to (λ t. inl refl) (mates_sym A) (mates_trans A) xs in
      let is = parts_are (Mates A) mate mate_from mate_to (λ t. inl refl) (mates_sym A) (mates_trans A) xs (together (Precedes known) (PrecedesNow known) M xs order [] xs refl) in (
        cs,
        is.whole,
        record {
          order = subst (IsComponentOrderOf known M) (sym is.whole) order;
          some = is.some;
          mates = λ c h t u a. (whole_part cs xs is order c h t u a, λ b. is.inside c h t u a b);
        },
      )
    where
      whole_part : (cs : List (List TxnId)) (xs : List TxnId) → AreParts (Mates A) xs cs → IsComponentOrderOf known M xs
          → (c : List TxnId) → Has c cs → (t u : TxnId) → Has t c → Mates A t u → Has u c
      whole_part cs xs is order c h t u a m =
          let in_all : (v : TxnId) → Has v (flat_map (λ c. c) cs) → IsListed is_txn M v = λ v k. order.from v (has_listed xs v (subst (Has v) is.whole k)) in
          let there = listed_has xs u (order.all u (mate_in (Precedes known) M t u (in_all t (has_flat_map (λ c. c) t c cs h a)) m)) in
          let q = from_has_flat_map (λ c. c) u cs (subst (Has u) (sym is.whole) there) in
          mate_inside (Mates A) mate mate_from mate_to (λ t. inl refl) (mates_sym A) (mates_trans A) cs is.apart c q.0 h q.1 t u a q.2 m
