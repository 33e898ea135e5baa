-- Least ones in a finite set
use Rattle.std.proofs.Common.{◌≡◌, Bool, true, false, cond, List, [], ◌∷◌, map, find, Some, refl, sym, ◌∙◌, ap, subst, ◌⊎◌, inl, inr, arith}
use Rattle.std.proofs.lemmas.Bool.{false≢true}
use Rattle.std.proofs.lemmas.Map.Keys.{sorted_head, sorted_tail}
use Rattle.std.specs.List.{AllByRecursion}
use Rattle.std.specs.List.Sorted.{IsStrictlySortedBy}
use Rattle.std.specs.Ordering.{is_lt}
use Rattle.std.specs.declared.cmp.Ordering.TheVariants.{Less}
use Rattle.roc_sequence.specs.Lists.{Has}
use Rattle.roc_sequence.specs.Places.{IsListed}
use Rattle.roc_sequence.proofs.Places.{listed_head, listed_tail, listed_cases}
use Rattle.roc_base.specs.declared.id.TxnId.{TxnId}
use Rattle.roc_base.specs.TxnId.{is_txn, txn_cmp, txn_lt}
use Rattle.roc_base.proofs.Ids.{is_lt-txn_cmp, txn_lt-itself, txn_lt-asym}
use Rattle.roc_base.specs.Equalities.{is_txn-true, is_txn-same}

-- Of a finite list of ids one is such that those that reach it are reached from it
module _ (R : TxnId → TxnId → Type 0) (itself : (a : TxnId) → R a a) (trans : (a b c : TxnId) → R a b → R b c → R a c) where
  abbrev IsLow : List TxnId → TxnId → Type 0
  IsLow xs z = IsListed is_txn xs z × ((y : TxnId) → IsListed is_txn xs y → R y z → R z y)

  abbrev Decides : List TxnId → Type 0
  Decides xs = (a b : TxnId) → IsListed is_txn xs a → IsListed is_txn xs b → R a b ⊎ (¬ R a b)

  low : (x : TxnId) (xs : List TxnId) → Decides (x ∷ xs) → (z : TxnId) × IsLow (x ∷ xs) z
  low x [] d = (x, (listed_head is_txn x [] (is_txn-same x), λ y h r. elim (listed_cases is_txn x [] y h) [ inl e ↦ subst (R x) (sym (is_txn-true y x e)) (itself x) | inr k ↦ (let l = k.1 in absurd (omega arith)) ]))
  low x (w ∷ ws) d = go (low w ws (λ a b h k. d a b (listed_tail is_txn x (w ∷ ws) a h) (listed_tail is_txn x (w ∷ ws) b k)))
    where
      here : IsListed is_txn (x ∷ w ∷ ws) x
      here = listed_head is_txn x (w ∷ ws) (is_txn-same x)

      behind : (y : TxnId) → IsListed is_txn (w ∷ ws) y → IsListed is_txn (x ∷ w ∷ ws) y
      behind = listed_tail is_txn x (w ∷ ws)

      cases : (P : TxnId → Type 0) → P x → ((y : TxnId) → IsListed is_txn (w ∷ ws) y → P y) → (y : TxnId) → IsListed is_txn (x ∷ w ∷ ws) y → P y
      cases P p q y h = elim (listed_cases is_txn x (w ∷ ws) y h) [ inl e ↦ subst P (sym (is_txn-true y x e)) p | inr k ↦ q y k.1 ]

      go : (z : TxnId) × IsLow (w ∷ ws) z → (z : TxnId) × IsLow (x ∷ w ∷ ws) z
      go m =
          elim (d x m.0 here (behind m.0 m.1.0)) [
            | inr n ↦ (m.0, (behind m.0 m.1.0, cases (λ y. R y m.0 → R m.0 y) (λ r. absurd (n r)) m.1.1))
            | inl r ↦ elim (d m.0 x (behind m.0 m.1.0) here) [
              | inl s ↦ (m.0, (behind m.0 m.1.0, cases (λ y. R y m.0 → R m.0 y) (λ _. s) m.1.1))
              | inr n ↦ (x, (here, cases (λ y. R y x → R x y) (λ _. itself x) (λ y h s. absurd (n (trans m.0 y x (m.1.1 y h (trans y x m.0 s r)) s)))))
            ]
          ]

  pub some_low : (xs : List TxnId) (x : TxnId) → IsListed is_txn xs x → Decides xs → (z : TxnId) × IsListed is_txn xs z × ((y : TxnId) → IsListed is_txn xs y → R y z → R z y)
  some_low [] x h d = absurd (omega arith)
  some_low (y ∷ xs) x h d = let m = low y xs d in (m.0, m.1.0, m.1.1)

-- The first that passes a test, in a list that rises, is the least that does
module _ {B : Type 0} (key : B → TxnId) (p : B → Bool) where
  above : (x : TxnId) (bs : List B) → AllByRecursion (λ y. txn_cmp x y ≡ Less) (map key bs) → (b : B) → Has b bs → txn_lt (key b) x ≡ false
  above x [] h b k = absurd k
  above x (c ∷ bs) h b (inl e) = txn_lt-asym x (key b) (subst (λ v. txn_lt x (key v) ≡ true) (sym e) (sym (is_lt-txn_cmp x (key c)) ∙ ap is_lt h.0))
  above x (c ∷ bs) h b (inr k) = above x bs h.1 b k

  pub found_least : (bs : List B) → IsStrictlySortedBy txn_cmp (map key bs) → (b : B) → find p bs ≡ Some b → (z : B) → Has z bs → p z ≡ true → ¬ (txn_lt (key z) (key b) ≡ true)
  found_least [] s b f z h t = absurd h
  found_least (c ∷ bs) s b f z h t = go (p c) refl f h (found_least bs (sorted_tail txn_cmp (key c) (map key bs) s) b)
    where
      go : (v : Bool) → p c ≡ v → cond v (Some c) (find p bs) ≡ Some b → Has z (c ∷ bs) → (find p bs ≡ Some b → (z : B) → Has z bs → p z ≡ true → ¬ (txn_lt (key z) (key b) ≡ true)) → ¬ (txn_lt (key z) (key b) ≡ true)
      go true e i (inl k) ih l =
          let j : c ≡ b = cc in
          false≢true (sym (txn_lt-itself (key b)) ∙ subst (λ v. txn_lt (key v) (key b) ≡ true) (k ∙ j) l)
      go true e i (inr k) ih l =
          let j : c ≡ b = cc in
          false≢true (sym (above (key c) bs (sorted_head txn_cmp (key c) (map key bs) s) z k) ∙ subst (λ v. txn_lt (key z) (key v) ≡ true) (sym j) l)
      go false e i (inl k) ih l = false≢true (sym e ∙ (ap p (sym k) ∙ t))
      go false e i (inr k) ih l = ih i z k t l
