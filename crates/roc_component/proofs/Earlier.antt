-- What comes before what, in a component order
use Rattle.std.proofs.Common.{ℕ, ◌≤◌, List, refl, sym, subst, inl, inr, arith}
use Rattle.std.proofs.lemmas.Bool.{cases_lt, cases_order}
use Rattle.roc_sequence.specs.Places.{place_of, IsListed, IsListedBefore}
use Rattle.roc_sequence.proofs.Places.{same_place}
use Rattle.roc_base.specs.declared.id.TxnId.{TxnId}
use Rattle.roc_base.specs.TxnId.{is_txn}
use Rattle.roc_base.specs.Equalities.{is_txn-true}
use Rattle.roc_depgraph.specs.declared.known.KnownList.{KnownList}
use Rattle.roc_depgraph.specs.Deps.{Precedes, PrecedesNow}
use Rattle.roc_depgraph.specs.Reach.{Reaches, direct, through}
use Rattle.roc_depgraph.proofs.Chains.{closed_chain}
use Rattle.roc_component.specs.Components.{Mates, among, IsComponentOrder, IsComponentOrderOf}
use Rattle.roc_component.proofs.Relations.{mates_sym, mates_trans}

module _ (E I : TxnId → TxnId → Type 0) (M xs : List TxnId) (o : IsComponentOrder E I M xs) where
  abbrev A : TxnId → TxnId → Type 0
  A = among M E

  abbrev at : TxnId → ℕ
  at u = place_of (is_txn u) xs

  listed : (u t : TxnId) → A u t → IsListed is_txn xs u
  listed u t e = o.all u e.0

  -- a predecessor outside the component is taken first
  predecessor_first : (u t : TxnId) → A u t → ¬ Mates A t u → IsListedBefore is_txn xs u t
  predecessor_first u t e n = (o.next t (o.all t e.1)).ready u t (inl refl) e n

  -- a component is taken whole before what comes behind one of it
  component_first : (a b t : TxnId) → IsListed is_txn xs t → IsListed is_txn xs b → Mates A a b → ¬ Mates A a t → IsListedBefore is_txn xs a t → IsListedBefore is_txn xs b t
  component_first a b t h k m n l =
      elim (cases_lt (at b) (at t)) [
        | inl i ↦ i
        | inr i ↦ absurd (n ((o.next t h).ends a b l m (o.from b k) (λ j. absurd (omega arith))))
      ]

  -- a member from which a chain leads to another component stands before it
  pub ancestor_first : (u t : TxnId) → Reaches A u t → ¬ Mates A t u → IsListedBefore is_txn xs u t
  ancestor_first u _ (direct {t = t} e) n = predecessor_first u t e n
  ancestor_first u _ (through {s = v} {t = t} p e) n =
      elim (cases_lt (at u) (at t)) [
        | inl k ↦ k
        | inr k ↦ absurd (go k (ancestor_first u v p))
      ]
    where
      go : at t ≤ at u → (¬ Mates A v u → IsListedBefore is_txn xs u v) → ⊥
      go k ih =
          let hv = listed v t e in
          let ht = o.all t e.1 in
          let hu = closed_chain A (IsListed is_txn xs) (λ a b l e. listed a b e) u v hv p in
          let n1 : ¬ Mates A t v = λ m.
          let b = ih (λ q. n (mates_trans A t v u m q)) in
          elim (cases_order (at t) (at u)) [
            | inl z ↦ n (inl (same_place is_txn is_txn-true xs t u ht z))
            | inr c ↦ elim c [
              | inl z ↦ (let c = component_first t v u hu hv m n z in absurd (omega arith))
              | inr z ↦ absurd (omega arith)
            ]
          ] in
          let b = predecessor_first v t e n1 in
          let n2 : ¬ Mates A v u = λ m. let c = component_first v u t ht hu m (λ q. n1 (mates_sym A v t q)) b in absurd (omega arith) in
          let c = ih n2 in
          absurd (omega arith)

-- a member that precedes another and is not preceded by it is taken before it
pub earlier : (known : List KnownList) (M xs : List TxnId) → IsComponentOrderOf known M xs → (u t : TxnId) → Reaches (among M (Precedes known)) u t → ¬ Reaches (among M (Precedes known)) t u → IsListedBefore is_txn xs u t
earlier known M xs o u t p n = ancestor_first (Precedes known) (PrecedesNow known) M xs o u t p not_mates
  where
    not_mates : Mates (among M (Precedes known)) t u → ⊥
    not_mates (inl e) = n (subst (λ v. Reaches (among M (Precedes known)) v u) (sym e) (subst (Reaches (among M (Precedes known)) u) e p))
    not_mates (inr q) = n q.0
