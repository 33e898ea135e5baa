-- Components as they are taken are one
use Rattle.std.proofs.Common.{◌≡◌, ◌≢◌, ◌↔◌, ◌++◌, List, [], ◌∷◌, refl, sym, ◌∙◌, subst, inl, inr}
use Rattle.std.specs.List.{flat_map}
use Rattle.roc_sequence.specs.Lists.{Has}
use Rattle.roc_sequence.specs.Places.{NoneTwice}
use Rattle.roc_sequence.proofs.Members.{has_left, has_right}
use Rattle.roc_base.specs.declared.id.TxnId.{TxnId}
use Rattle.roc_base.specs.TxnId.{is_txn}
use Rattle.roc_depgraph.specs.declared.known.KnownList.{KnownList}
use Rattle.roc_depgraph.specs.Deps.{Precedes, PrecedesNow}
use Rattle.roc_depgraph.proofs.Listed.{has_listed}
use Rattle.roc_component.specs.Components.{among, Mates, AreTaken}
use Rattle.roc_component.proofs.OneOrder.{one_order}

-- of a list in which nothing stands twice
pub none_behind : (xs ys : List TxnId) → NoneTwice is_txn (xs ++ ys) → NoneTwice is_txn ys
none_behind [] ys n = n
none_behind (x ∷ xs) ys n = none_behind xs ys n.1

pub none_in_both : (xs ys : List TxnId) → NoneTwice is_txn (xs ++ ys) → (u : TxnId) → Has u xs → ¬ Has u ys
none_in_both [] ys n u h k = h
none_in_both (x ∷ xs) ys n u (inl e) k = n.0 (has_listed (xs ++ ys) x (has_right x xs ys (subst (λ v. Has v ys) e k)))
none_in_both (x ∷ xs) ys n u (inr h) k = none_in_both xs ys n.1 u h k

-- two fronts with the same members are one
same_front : (xs ys more others : List TxnId) → NoneTwice is_txn (xs ++ more) → xs ++ more ≡ ys ++ others → ((u : TxnId) → Has u xs → Has u ys) → ((u : TxnId) → Has u ys → Has u xs) → (xs ≡ ys) × (more ≡ others)
same_front [] [] more others n e f g = (refl, e)
same_front [] (y ∷ ys) more others n e f g = absurd (g y (inl refl))
same_front (x ∷ xs) [] more others n e f g = absurd (f x (inl refl))
same_front (x ∷ xs) (y ∷ ys) more others n e f g =
    let first : x ≡ y = cc in
    let rest : xs ++ more ≡ ys ++ others = cc in
    let own : ¬ Has x (xs ++ more) = λ h. n.0 (has_listed (xs ++ more) x h) in
    let r = same_front xs ys more others n.1 rest (λ u h. elim (f u (inr h)) [
      | inl i ↦ absurd (own (has_left x xs more (subst (λ v. Has v xs) (i ∙ sym first) h)))
      | inr k ↦ k
    ]) (λ u h. elim (g u (inr h)) [
      | inl i ↦ absurd (own (subst (Has x) (sym rest) (has_left x ys others (subst (λ v. Has v ys) i h))))
      | inr k ↦ k
    ]) in
    (λ i. first i ∷ r.0 i, r.1)

-- parts of one list, each of them all that goes with one of its members
module _ (R : TxnId → TxnId → Type 0) where
  abbrev AreWhole : List (List TxnId) → Type 0
  AreWhole cs = (c : List TxnId) → Has c cs → (c ≢ []) × ((t u : TxnId) → Has t c → R t u ↔ Has u c)

  same_parts : (cs ds : List (List TxnId)) → NoneTwice is_txn (flat_map (λ c. c) cs) → flat_map (λ c. c) cs ≡ flat_map (λ c. c) ds → AreWhole cs → AreWhole ds → cs ≡ ds
  same_parts [] [] n e a b = refl
  same_parts [] ([] ∷ ds) n e a b = absurd ((b [] (inl refl)).0 refl)
  same_parts [] ((y ∷ d) ∷ ds) n e a b = absurd (cc)
  same_parts ([] ∷ cs) ds n e a b = absurd ((a [] (inl refl)).0 refl)
  same_parts ((x ∷ c) ∷ cs) [] n e a b = absurd (cc)
  same_parts ((x ∷ c) ∷ cs) ([] ∷ ds) n e a b = absurd ((b [] (inl refl)).0 refl)
  same_parts ((x ∷ c) ∷ cs) ((y ∷ d) ∷ ds) n e a b =
      let first : x ≡ y = cc in
      let ours = (a (x ∷ c) (inl refl)).1 in
      let theirs = (b (y ∷ d) (inl refl)).1 in
      let r = same_front (x ∷ c) (y ∷ d) (flat_map (λ c. c) cs) (flat_map (λ c. c) ds) n e
      (λ u h. (theirs y u (inl refl)).0 (subst (λ v. R v u) first ((ours x u (inl refl)).1 h)))
      (λ u h. (ours x u (inl refl)).0 (subst (λ v. R v u) (sym first) ((theirs y u (inl refl)).1 h))) in
      let rest = same_parts cs ds (none_behind (x ∷ c) (flat_map (λ c. c) cs) n) r.1 (λ v h. a v (inr h)) (λ v h. b v (inr h)) in
      λ i. r.0 i ∷ rest i

pub one_taken : (known : List KnownList) (M : List TxnId) (cs ds : List (List TxnId)) → AreTaken known M cs → AreTaken known M ds → cs ≡ ds
one_taken known M cs ds a b =
    same_parts (Mates (among M (Precedes known))) cs ds a.order.once (one_order (Precedes known) (PrecedesNow known) M _ _ a.order b.order)
    (λ c h. (a.some c h, a.mates c h)) (λ c h. (b.some c h, b.mates c h))
