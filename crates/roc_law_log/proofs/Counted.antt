-- A transaction that counts is answered
use Rattle.std.proofs.Common.{◌≡◌, ℕ, ◌==◌, true, false, List, [], ◌∷◌, refl, sym, ap, subst, ◌∙◌, arith, ◌⊎◌, inl, inr}
use Rattle.std.proofs.lemmas.Bool.{eqb-true, eq-eqb, or_cases, false≢true}
use Rattle.roc_sequence.specs.Places.{IsListed}
use Rattle.roc_sequence.proofs.Places.{listed_cases, listed_head, listed_tail, listed_by_before}
use Rattle.roc_sequence.proofs.Listed.{listed_one, in_one}
use Rattle.roc_sequence.proofs.Appended.{listed_front}
use Rattle.roc_base.specs.declared.id.TxnId.{TxnId}
use Rattle.roc_base.specs.TxnId.{is_txn, txn_lt}
use Rattle.roc_base.specs.Equalities.{is_txn-true, is_txn-same}
use Rattle.roc_base.proofs.Ids.{txn_lt-itself}
use Rattle.roc_rows.specs.declared.cell.Cell.{Cell}
use Rattle.roc_rows.specs.Cells.{is_cell}
use Rattle.roc_rows.proofs.CellLaws.{is_cell-true}
use Rattle.roc_rows.specs.Store.{Store}
use Rattle.roc_law_orders.specs.Behaviour.{TxnGroup, is_txn_group, is_group_number, is_used, Meet, IsLawful}
use Rattle.roc_law_orders.specs.Counter.{counted_cell, one_use, counter}
use Rattle.roc_law_orders.proofs.SameGroups.{same_group, is_group-same}
use Rattle.roc_depgraph.specs.Reach.{Reaches, direct, through}
use Rattle.roc_component.specs.Components.{Mates}
use Rattle.roc_law_log.specs.Scheme.{IsSoundScheme}
use Rattle.roc_law_log.specs.Log.{Past, Log, first_log, PrecedesTxn, PrecedesTxnNow, IsWhole, IsDecidedThroughout}
use Rattle.roc_law_log.specs.Taking.{RespectsPrecedence}
use Rattle.roc_law_log.specs.Steps.{MayStart, MayDecide, IsWaived, with_start, with_decision, with_answer, new_in, group_starts, shard_decides, is_answered, no_steps, one_step_more, IsReachedLog}
use Rattle.roc_law_log.specs.Counting.{counting}

-- a group uses the cell of its number
used_table : (g : ℕ) (x : Cell) → is_used x (one_use (counted_cell g)) ≡ true → x.table ≡ g
used_table g x h =
    elim (or_cases (is_cell (counted_cell g) x) false h) [
      | inl e ↦ sym (ap (λ (c : Cell). c.table) (is_cell-true (counted_cell g) x e))
      | inr e ↦ absurd (false≢true e)
    ]

-- a group is the first or the second
two : (g : ℕ) → IsListed is_group_number (0 ∷ 1 ∷ []) g → (g ≡ 0) ⊎ (g ≡ 1)
two g h =
    elim (listed_cases is_group_number 0 (1 ∷ []) g h) [
      | inl e ↦ inl (eqb-true g 0 e)
      | inr k ↦ inr (listed_one is_group_number (λ a b. eqb-true a b) (λ a. eq-eqb a a refl) 1 g k.1)
    ]

same_number : (g h : ℕ) → Meet (one_use (counted_cell g)) (one_use (counted_cell h)) → g ≡ h
same_number g h m = sym (used_table g m.cell m.first) ∙ used_table h m.cell m.second

pub sound : IsLawful counter → IsSoundScheme counting
sound lawful =
    record {
      lawful = lawful;
      one_class = λ q r i j s t m. ap (λ g. g == 0) (same_number q.group r.group m);
      one_contended = λ p q e h k r u i j l m a b c d x y. λ n. record { txn = e n; group = (eqb-true p.group 0 h ∙ sym (eqb-true q.group 0 k)) n };
      steady = λ r e given s t. refl;
      placed = λ r given s x h. used_table r.group x h;
    }

module _ (start : Store) (t : TxnId) where
  abbrev group : ℕ → TxnGroup
  group g = record { txn = t; group = g }

  -- ---- a log in which both groups of t started, and no others

  abbrev both : List TxnGroup
  both = group 0 ∷ group 1 ∷ []

  of_t : (r : TxnGroup) → IsListed is_txn_group both r → r.txn ≡ t
  of_t r h = elim (listed_cases is_txn_group (group 0) (group 1 ∷ []) r h) [
    | inl e ↦ ap (λ (x : TxnGroup). x.txn) (same_group r (group 0) e)
    | inr k ↦ ap (λ (x : TxnGroup). x.txn) (listed_one is_txn_group same_group is_group-same (group 1) r k.1)
  ]

  both_in : (g : ℕ) → IsListed is_group_number (0 ∷ 1 ∷ []) g → IsListed is_txn_group both (group g)
  both_in g h = elim (two g h) [
    | inl e ↦ subst (λ n. IsListed is_txn_group both (group n)) (sym e) (listed_head is_txn_group (group 0) (group 1 ∷ []) (is_group-same (group 0)))
    | inr e ↦ subst (λ n. IsListed is_txn_group both (group n)) (sym e) (listed_tail is_txn_group (group 0) (group 1 ∷ []) (group 1) (in_one is_txn_group same_group is_group-same (group 1)))
  ]

  only : (u : TxnId) → IsListed is_txn (t ∷ []) u → u ≡ t
  only u h = listed_one is_txn is_txn-true is_txn-same t u h

  module _ (past : Past) (started : past.started ≡ both) where
    -- nothing precedes
    nothing : (u v : TxnId) → ¬ PrecedesTxn counting start past u v
    nothing u v p =
        let second = of_t p.second (subst (λ l. IsListed is_txn_group l p.second) started p.by.began) in
        let first = of_t p.by.first (subst (λ l. IsListed is_txn_group l p.by.first) started (listed_by_before is_txn_group past.started p.by.first p.second p.by.before)) in
        p.by.other (sym p.by.of_first ∙ (first ∙ sym second))

    alone : (a z : TxnId) → Mates (PrecedesTxn counting start past) a z → a ≡ z
    alone a z (inl e) = e
    alone a z (inr p) = absurd (none a z p.0)
      where
        none : (u v : TxnId) → ¬ Reaches (PrecedesTxn counting start past) u v
        none u _ (direct {t = v} e) = nothing u v e
        none u _ (through {s = x} {t = v} q e) = nothing x v e

    ordered : (waived : TxnId → Type 0) → RespectsPrecedence (PrecedesTxn counting start past) (PrecedesTxnNow counting start past) waived (t ∷ [])
    ordered waived =
        record {
          once = (λ h. absurd (omega arith), tt);
          earlier = λ u v h k e. absurd (nothing u v e);
          together = λ a b v h m n w k. absurd (omega arith);
          inside = λ v h w. inl (
            λ p m i. absurd (nothing p v i.precedes),
            λ z m n f l. false≢true (sym (txn_lt-itself v) ∙ subst (λ x. txn_lt x v ≡ true) (sym (alone v z m)) l),
          );
        }

    whole : (u : TxnId) → IsListed is_txn (t ∷ []) u → IsWhole counting past.started u
    whole u h g k =
        subst (λ l. IsListed is_txn_group l (record { txn = u; group = g })) (sym started)
        (subst (λ v. IsListed is_txn_group both (record { txn = v; group = g })) (sym (only u h)) (both_in g k))

  -- ---- the steps

  abbrev log1 : Log
  log1 = with_start counting first_log (group 0) []

  abbrev log2 : Log
  log2 = with_start counting log1 (group 1) []

  abbrev log3 : Log
  log3 = with_decision counting start log2 0 (t ∷ [])

  abbrev log4 : Log
  log4 = with_decision counting start log3 1 (t ∷ [])

  start1 : MayStart counting start first_log (group 0) []
  start1 = record { new = λ h. absurd (omega arith); listed = omega arith; needs_ran = tt; out_decided = λ u h. absurd (omega arith) }

  start2 : MayStart counting start log1 (group 1) []
  start2 =
      record {
        new = λ h. let e : 1 ≡ 0 = ap (λ (x : TxnGroup). x.group) (listed_one is_txn_group same_group is_group-same (group 0) (group 1) h) in absurd (omega arith);
        listed = omega arith;
        needs_ran = (in_one is_txn_group same_group is_group-same (group 0), tt);
        out_decided = λ u h. absurd (omega arith);
      }

  decide1 : MayDecide counting start log2 0 (t ∷ [])
  decide1 = record { new = λ u h k. absurd (omega arith); whole = whole log2.past refl; closed = λ u v h e. absurd (nothing log2.past refl u v e); ordered = ordered log2.past refl (IsWaived counting start log2) }

  decide2 : MayDecide counting start log3 1 (t ∷ [])
  decide2 = record { new = λ u h k. absurd (omega arith); whole = whole log3.past refl; closed = λ u v h e. absurd (nothing log3.past refl u v e); ordered = ordered log3.past refl (IsWaived counting start log3) }

  throughout : IsDecidedThroughout counting start log4 t
  throughout =
      record {
        in_order = listed_front is_txn log3.order (new_in log3.order (t ∷ [])) t (in_one is_txn is_txn-true is_txn-same t);
        everywhere = λ g k. elim (two g k) [
          | inl e ↦ subst (λ n. IsListed is_txn (log4.decided n) t) (sym e) (in_one is_txn is_txn-true is_txn-same t)
          | inr e ↦ subst (λ n. IsListed is_txn (log4.decided n) t) (sym e) (in_one is_txn is_txn-true is_txn-same t)
        ];
      }

  pub answered : (log : Log) × IsReachedLog counting start log × IsListed is_txn log.answered t
  answered = (
    with_answer log4 t,
    one_step_more (one_step_more (one_step_more (one_step_more (one_step_more no_steps (group_starts (group 0) [] start1)) (group_starts (group 1) [] start2)) (shard_decides 0 (t ∷ []) decide1)) (shard_decides 1 (t ∷ []) decide2)) (is_answered t throughout),
    in_one is_txn is_txn-true is_txn-same t,
  )
