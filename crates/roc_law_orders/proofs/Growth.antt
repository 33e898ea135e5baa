-- What stays where more groups run behind others
use Rattle.std.proofs.Common.{◌≡◌, ℤ, false, List, [], ◌∷◌, ◌++◌, append-nil, append_assoc, refl, sym, ap, subst, inl, inr, ◌∙◌}
use Rattle.std.specs.List.{AllByRecursion}
use Rattle.roc_sequence.specs.Places.{IsListed, IsListedBefore, NoneTwice}
use Rattle.roc_sequence.proofs.Holds.{all_weaker}
use Rattle.roc_sequence.proofs.Places.{listed_by_before, listed_or_not, listed_head, listed_tail}
use Rattle.roc_rows.specs.declared.cell.Cell.{Cell}
use Rattle.roc_rows.specs.Store.{Store, read}
use Rattle.roc_law_orders.specs.Behaviour.{TxnGroup, is_txn_group, is_written, Behaviour, IsLawful}
use Rattle.roc_law_orders.specs.Runs.{Stage, first_stage, needs, inputs_at, uses_at, after_group, after_groups, groups_before, stage_behind, stage_before, uses_in, account_at}
use Rattle.roc_law_orders.specs.Growth.{Stays}
use Rattle.roc_law_orders.proofs.SameGroups.{is_group-same}
use Rattle.roc_law_orders.proofs.Places.{apart, before_appended, before_itself, before_past, before_absent, none_twice_before}
use Rattle.roc_law_orders.proofs.Stages.{yielded_not, yielded_at, yielded-before, same_inputs, kept_cell}

after_groups-append : (B : Behaviour) (s : Stage) (Q T : List TxnGroup) → after_groups B s (Q ++ T) ≡ after_groups B (after_groups B s Q) T
after_groups-append B s [] T = refl
after_groups-append B s (q ∷ Q) T = after_groups-append B (after_group B s q) Q T

-- groups of T that do not write x leave it, where they run behind those of Q
pub unwritten_kept : (B : Behaviour) (start : Store) (x : Cell) → IsLawful B → (T Q : List TxnGroup) → NoneTwice is_txn_group (Q ++ T)
    → ((q : TxnGroup) → IsListed is_txn_group T q → is_written x (uses_in B start (Q ++ T) q) ≡ false)
    → read (stage_behind B start (Q ++ T)).store x ≡ read (stage_behind B start Q).store x
unwritten_kept B start x lawful [] Q n h = ap (λ F. read (stage_behind B start F).store x) (append-nil Q)
unwritten_kept B start x lawful (t ∷ T) Q n h =
    let e = append_assoc Q (t ∷ []) T in
    let first = listed_head is_txn_group t T (is_group-same t) in
    let f = before_past Q (t ∷ T) t (λ i. apart Q (t ∷ T) t n i first) ∙ (ap (λ F. Q ++ F) (before_itself T t) ∙ append-nil Q) in
    ap (λ F. read (stage_behind B start F).store x) (sym e)
    ∙ (unwritten_kept B start x lawful T (Q ++ t ∷ []) (subst (NoneTwice is_txn_group) (sym e) n)
    (λ q i. subst (λ F. is_written x (uses_in B start F q) ≡ false) (sym e) (h q (listed_tail is_txn_group t T q i)))
    ∙ (ap (λ (s : Stage). read s.store x) (after_groups-append B (first_stage start) Q (t ∷ []))
    ∙ kept_cell B lawful (stage_behind B start Q) t x (subst (λ F. is_written x (uses_at B (stage_behind B start F) t) ≡ false) f (h t first))))

-- the inputs of a group at its place are those in the end
pub inputs_found : (B : Behaviour) (start : Store) (Q : List TxnGroup) (r : TxnGroup) → NoneTwice is_txn_group Q
    → (IsListed is_txn_group Q r → AllByRecursion (λ d. IsListedBefore is_txn_group Q d r) (needs B r))
    → inputs_at B (stage_before B start Q r) r ≡ inputs_at B (stage_behind B start Q) r
inputs_found B start Q r n h =
    elim (listed_or_not is_txn_group Q r) [
      | inl l ↦
          same_inputs B (stage_before B start Q r) (stage_behind B start Q) r
          (all_weaker (λ d. IsListedBefore is_txn_group Q d r) (λ d. (stage_before B start Q r).yielded d ≡ (stage_behind B start Q).yielded d)
          (λ d b. yielded-before B Q (first_stage start) r d n b ∙ sym (yielded_at B Q (first_stage start) d n (listed_by_before is_txn_group Q d r b)))
          (needs B r) (h l))
      | inr l ↦ ap (λ F. inputs_at B (stage_behind B start F) r) (before_absent Q r l)
    ]

module _ (B : Behaviour) (start : Store) (Q T : List TxnGroup) where
  yielded_stays : (r : TxnGroup) → NoneTwice is_txn_group (Q ++ T) → IsListed is_txn_group Q r → (stage_behind B start (Q ++ T)).yielded r ≡ (stage_behind B start Q).yielded r
  yielded_stays r n h = ap (λ (s : Stage). s.yielded r) (after_groups-append B (first_stage start) Q T) ∙ yielded_not B T (stage_behind B start Q) r (apart Q T r n h)

  inputs_stay : (r : TxnGroup) → NoneTwice is_txn_group (Q ++ T) → AllByRecursion (IsListed is_txn_group Q) (needs B r) → inputs_at B (stage_behind B start (Q ++ T)) r ≡ inputs_at B (stage_behind B start Q) r
  inputs_stay r n h =
      same_inputs B (stage_behind B start (Q ++ T)) (stage_behind B start Q) r
      (all_weaker (IsListed is_txn_group Q) (λ d. (stage_behind B start (Q ++ T)).yielded d ≡ (stage_behind B start Q).yielded d) (λ d i. yielded_stays d n i) (needs B r) h)

-- what a group that waits uses, by its inputs alone
waiting_stays : (B : Behaviour) (start : Store) (Q T : List TxnGroup) (r : TxnGroup) → NoneTwice is_txn_group (Q ++ T) → ¬ IsListed is_txn_group Q r → AllByRecursion (IsListed is_txn_group Q) (needs B r)
    → ((given : List (List ℤ)) (s t : Store) → B.uses r given s ≡ B.uses r given t)
    → uses_in B start (Q ++ T) r ≡ uses_in B start Q r
waiting_stays B start Q T r n k h steady =
    ap (λ F. uses_at B (stage_behind B start F) r) (before_past Q T r k)
    ∙ ap (λ given. B.uses r given (stage_behind B start (Q ++ groups_before r T)).store) (inputs_stay B start Q (groups_before r T) r (subst (NoneTwice is_txn_group) (before_past Q T r k) (none_twice_before (Q ++ T) r n)) h)
    ∙ steady (inputs_at B (stage_behind B start Q) r) (stage_behind B start (Q ++ groups_before r T)).store (stage_behind B start Q).store
    ∙ sym (ap (λ F. uses_at B (stage_behind B start F) r) (before_absent Q r k))

pub stays : (B : Behaviour) (start : Store) (Q T : List TxnGroup) → NoneTwice is_txn_group (Q ++ T) → Stays B start Q T
stays B start Q T n =
    record {
      account = λ r h. ap (λ F. account_at B (stage_behind B start F) r) (before_appended Q T r h);
      yielded = λ r h. yielded_stays B start Q T r n h;
      inputs = λ r h. inputs_stay B start Q T r n h;
      uses = λ r h. ap (λ F. uses_at B (stage_behind B start F) r) (before_appended Q T r h);
      waiting = λ r k h steady. waiting_stays B start Q T r n k h steady;
    }
