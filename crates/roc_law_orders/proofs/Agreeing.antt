-- An order that follows the conflicts of a run agrees with it
use Rattle.std.proofs.Common.{◌≡◌, ℕ, List, [], ◌∷◌, refl, sym, subst, map, inl, inr}
use Rattle.std.proofs.lemmas.Bool.{eqb-true, cases_order}
use Rattle.std.specs.List.{AllByRecursion}
use Rattle.roc_sequence.specs.Places.{place_of, IsListed, IsListedBefore}
use Rattle.roc_sequence.proofs.Places.{same_place}
use Rattle.roc_base.specs.declared.id.TxnId.{TxnId}
use Rattle.roc_base.specs.TxnId.{is_txn}
use Rattle.roc_rows.specs.Store.{Store}
use Rattle.roc_law_orders.specs.Behaviour.{TxnGroup, is_txn_group, is_group_number, Behaviour, IsLawful}
use Rattle.roc_law_orders.specs.Orders.{IsRealRun, one_by_one, Follows}
use Rattle.roc_law_orders.proofs.Agreement.{Agree}
use Rattle.roc_law_orders.proofs.OneByOne.{group_in, one_or_other, in_order, from_order, across, within, none_twice}

-- what a group of a transaction of O needs ran, and stands before it one by one
needs_before : (B : Behaviour) (O : List TxnId) (R : List TxnGroup) (r : TxnGroup) → IsListed is_txn O r.txn → (gs : List ℕ)
    → AllByRecursion (λ g. IsListedBefore is_group_number (B.groups r.txn) g r.group) gs → AllByRecursion (IsListed is_txn_group R) (map (group_in r.txn) gs)
    → AllByRecursion (λ d. IsListed is_txn_group R d × IsListedBefore is_txn_group (one_by_one B O) d r) (map (group_in r.txn) gs)
needs_before B O R r h [] k l = tt
needs_before B O R r h (g ∷ gs) k l = ((l.0, within B O (group_in r.txn g) r refl h k.0), needs_before B O R r h gs k.1 l.1)

-- of one transaction, a group that did not run stands behind each with which it conflicts
behind : (gs : List ℕ) (R : List TxnGroup) (q r : TxnGroup) → q.txn ≡ r.txn → (IsListedBefore is_group_number gs q.group r.group → IsListed is_txn_group R q)
    → ¬ IsListed is_txn_group R q → IsListed is_txn_group R r → IsListed is_group_number gs q.group → IsListedBefore is_group_number gs r.group q.group
behind gs R q r e earlier n l h =
    elim (cases_order (place_of (is_group_number q.group) gs) (place_of (is_group_number r.group) gs)) [
      | inl same ↦
          (let g = same_place is_group_number (λ a b. eqb-true a b) gs q.group r.group h same in
          let both : q ≡ r = λ i. record { txn = e i; group = g i } in
          absurd (n (subst (IsListed is_txn_group R) (sym both) l)))
      | inr (inl before) ↦ absurd (n (earlier before))
      | inr (inr after) ↦ after
    ]

pub agrees : (B : Behaviour) (start : Store) (R : List TxnGroup) (O : List TxnId) → IsLawful B → IsRealRun B R → Follows B start R O → Agree B start R (one_by_one B O)
agrees B start R O lawful real follows =
    record {
      lawful = lawful;
      once_R = real.once;
      once_S = none_twice B lawful.once O follows.once;
      needs_R = real.behind_needs;
      needs_S = λ r i. let l = from_order B O r i in needs_before B O R r l.0 (B.sources r) (lawful.needed_first r l.1) (follows.needs_ran r l.0 l.1);
      order = λ q r i j k l f b.
          let a = from_order B O q i in
          let c = from_order B O r j in
          elim (one_or_other q.txn r.txn) [
            | inl e ↦ within B O q r e c.0 (follows.own_order q r c.0 e k l f b)
            | inr n ↦ across B O q r (follows.order q r a.0 c.0 n k l f b) a.1
          ];
      absent_later = λ q r i j n l f.
          let a = from_order B O q i in
          let c = from_order B O r j in
          elim (one_or_other q.txn r.txn) [
            | inl e ↦
                within B O r q (sym e) a.0
                (behind (B.groups q.txn) R q r e (λ b. follows.own_earlier q r c.0 e l f (subst (λ t. IsListedBefore is_group_number (B.groups t) q.group r.group) e b)) n l a.1)
            | inr m ↦ across B O r q (follows.absent_later q r a.0 c.0 m a.1 n l f) c.1
          ];
      writers = λ q r x j k l b w u. in_order B O q (follows.writers q r x (from_order B O r j).0 k l b w u) (real.are_groups q k);
      steady = λ q i n. let a = from_order B O q i in follows.absent_steady q a.0 a.1 n;
    }
