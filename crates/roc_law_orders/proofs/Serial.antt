-- Transactions one by one are a real run, and their order follows its conflicts
use Rattle.std.proofs.Common.{◌≡◌, ℕ, List, [], ◌∷◌, refl, sym, ap, subst, arith, map, inl, inr}
use Rattle.std.proofs.lemmas.Bool.{eqb-true, cases_order}
use Rattle.std.specs.List.{AllByRecursion}
use Rattle.roc_sequence.specs.Places.{place_of, IsListed, IsListedBefore, NoneTwice}
use Rattle.roc_sequence.proofs.Holds.{all_weaker}
use Rattle.roc_sequence.proofs.Places.{same_place, listed_by_before}
use Rattle.roc_base.specs.declared.id.TxnId.{TxnId}
use Rattle.roc_base.specs.TxnId.{is_txn}
use Rattle.roc_base.specs.Equalities.{is_txn-true}
use Rattle.roc_rows.specs.Store.{Store}
use Rattle.roc_law_orders.specs.Behaviour.{TxnGroup, is_txn_group, is_group_number, Behaviour, IsLawful}
use Rattle.roc_law_orders.specs.Runs.{needs}
use Rattle.roc_law_orders.specs.Orders.{IsRealRun, one_by_one, Follows}
use Rattle.roc_law_orders.proofs.OneByOne.{group_in, in_order, from_order, across, within, none_twice}

module _ (B : Behaviour) (lawful : IsLawful B) (O : List TxnId) (once : NoneTwice is_txn O) where
  needs_before : (r : TxnGroup) → IsListed is_txn O r.txn → (gs : List ℕ) → AllByRecursion (λ g. IsListedBefore is_group_number (B.groups r.txn) g r.group) gs
      → AllByRecursion (λ d. IsListedBefore is_txn_group (one_by_one B O) d r) (map (group_in r.txn) gs)
  needs_before r h [] k = tt
  needs_before r h (g ∷ gs) k = (within B O (group_in r.txn g) r refl h k.0, needs_before r h gs k.1)

  pub real : IsRealRun B (one_by_one B O)
  real =
      record {
        once = none_twice B lawful.once O once;
        are_groups = λ r i. (from_order B O r i).1;
        behind_needs = λ r i. let l = from_order B O r i in needs_before r l.0 (B.sources r) (lawful.needed_first r l.1);
      }

  -- of one transaction, what stands first one by one stands first in it
  own : (q r : TxnGroup) → q.txn ≡ r.txn → IsListed is_txn_group (one_by_one B O) q → IsListedBefore is_txn_group (one_by_one B O) q r → IsListedBefore is_group_number (B.groups r.txn) q.group r.group
  own q r e i b =
      let f = from_order B O q i in
      let g = subst (λ t. IsListed is_group_number (B.groups t) q.group) e f.1 in
      elim (cases_order (place_of (is_group_number q.group) (B.groups r.txn)) (place_of (is_group_number r.group) (B.groups r.txn))) [
        | inl s ↦
            (let h = same_place is_group_number (λ a b. eqb-true a b) (B.groups r.txn) q.group r.group g s in
            let both : q ≡ r = λ i. record { txn = e i; group = h i } in
            let p = ap (λ a. place_of (is_txn_group a) (one_by_one B O)) both in
            absurd (omega arith))
        | inr (inl l) ↦ l
        | inr (inr l) ↦ (let o = within B O r q (sym e) f.0 (subst (λ t. IsListedBefore is_group_number (B.groups t) r.group q.group) (sym e) l) in absurd (omega arith))
      ]

  pub follows : (start : Store) → Follows B start (one_by_one B O) O
  follows start =
      record {
        once = once;
        order = λ q r h k n i j f b.
            elim (cases_order (place_of (is_txn q.txn) O) (place_of (is_txn r.txn) O)) [
              | inl e ↦ absurd (n (same_place is_txn is_txn-true O q.txn r.txn h e))
              | inr (inl l) ↦ l
              | inr (inr l) ↦ (let o = across B O r q l (from_order B O r j).1 in absurd (omega arith))
            ];
        absent_later = λ q r h k n g i j f. absurd (i (in_order B O q h g));
        absent_steady = λ q h g n. absurd (n (in_order B O q h g));
        writers = λ q r x h i j b w u. (from_order B O q i).0;
        own_order = λ q r h e i j f b. own q r e i b;
        own_earlier = λ q r h e j f b.
            in_order B O q (subst (IsListed is_txn O) (sym e) h)
            (subst (λ t. IsListed is_group_number (B.groups t) q.group) (sym e) (listed_by_before is_group_number (B.groups r.txn) q.group r.group b));
        needs_ran = λ r h g. all_weaker (λ d. IsListedBefore is_txn_group (one_by_one B O) d r) (IsListed is_txn_group (one_by_one B O)) (λ d b. listed_by_before is_txn_group (one_by_one B O) d r b) (needs B r) (needs_before r h (B.sources r) (lawful.needed_first r g));
      }
