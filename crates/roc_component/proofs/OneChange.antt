-- What a map holds after a change at one id
use Rattle.std.proofs.Common.{◌≡◌, ℕ, suc, ◌+◌, ◌<◌, ◌≤◌, Bool, true, false, cond, List, [], ◌∷◌, length, Option, Some, None, is_some, refl, sym, ◌∙◌, arith}
use Rattle.std.proofs.lemmas.Bool.{cond-true, cond-false, false_from_ne_true, false≢true}
use Rattle.std.proofs.lemmas.List.{length-map}
use Rattle.std.proofs.lemmas.Map.Keys.{IsDistinct-from_sorted}
use Rattle.std.proofs.lemmas.Map.Made.{length-le_from_is_member}
use Rattle.std.proofs.lemmas.Map.Views.{IsSome-lookup_from_Contains, Contains-from_any, tells_apart}
use Rattle.std.specs.BTreeMap.{BTreeMap, get, keys, btree_map_len, IsOrdered}
use Rattle.std.specs.Cmp.{eq_by_cmp_equiv}
use Rattle.std.specs.List.{list_any}
use Rattle.std.specs.Ordering.{is_eq}
use Rattle.roc_sequence.specs.Lists.{Has}
use Rattle.roc_base.proofs.Ids.{txn_cmp-total, txn_cmp-exact}
use Rattle.roc_base.specs.declared.id.TxnId.{TxnId}
use Rattle.roc_base.specs.TxnId.{txn_cmp}
use Rattle.roc_depgraph.proofs.Listed.{is_eq-same, is_eq-true, has_from_listed, has_listed}

module _ {B : Type 0} (x : TxnId) (w : B) (old new : TxnId → B) (at : (q : TxnId) → new q ≡ cond (is_eq (txn_cmp x q)) w (old q)) where
  pub at_same : new x ≡ w
  at_same = at x ∙ cond-true (is_eq (txn_cmp x x)) w (old x) (is_eq-same x)

  pub at_other : (q : TxnId) → ¬ (q ≡ x) → new q ≡ old q
  at_other q n = at q ∙ cond-false (is_eq (txn_cmp x q)) w (old q) (false_from_ne_true (is_eq (txn_cmp x q)) (λ e. n (sym (is_eq-true x q e))))

-- what a test for a value says
module _ {B : Type 0} where
  pub is_there : (o : Option B) → true ≡ is_some o → (b : B) × (o ≡ Some b)
  is_there None e = absurd (false≢true (sym e))
  is_there (Some b) e = (b, refl)

  pub is_gone : (o : Option B) → false ≡ is_some o → o ≡ None
  is_gone None e = refl
  is_gone (Some b) e = absurd (false≢true e)

  -- how many there are after a change
  pub one_more : (old : Option B) (n m : ℕ) → old ≡ None → n ≡ m + cond (is_some old) 0 1 → n ≡ suc m
  one_more None n m e h = omega arith
  one_more (Some b) n m e h = absurd (let f : Some b ≡ None = e in cc)

  pub one_less : (old : Option B) (b : B) (n m : ℕ) → old ≡ Some b → n + cond (is_some old) 1 0 ≡ m → n < m
  one_less None b n m e h = absurd (let f : None ≡ Some b = e in cc)
  one_less (Some c) b n m e h = omega arith

-- nothing is in an empty set, or an empty map
pub no_key : (f : TxnId → Bool) (ks : List TxnId) → ¬ (0 < length ks) → ¬ (list_any f ks ≡ true)
no_key f [] n h = false≢true h
no_key f (k ∷ ks) n h = n (omega arith)

-- ids that are mapped are not more than a list that has them
pub mapped_bounded : (m : BTreeMap TxnId ℕ) (S : List TxnId) → IsOrdered txn_cmp m → ((u : TxnId) (n : ℕ) → get txn_cmp m u ≡ Some n → Has u S) → btree_map_len m ≤ length S
mapped_bounded m S o within =
    let n = length-map m.entries (λ (e : TxnId × ℕ). e.0) in
    let l = length-le_from_is_member (eq_by_cmp_equiv txn_cmp-total) (keys m) S (IsDistinct-from_sorted txn_cmp (keys m) o) (λ q h.
    let v = is_there (get txn_cmp m q) (sym (IsSome-lookup_from_Contains (eq_by_cmp_equiv txn_cmp-total) q m.entries (Contains-from_any (tells_apart txn_cmp-exact) q (keys m) h))) in
    has_from_listed S q (has_listed S q (within q v.0 v.1))) in
    omega arith
