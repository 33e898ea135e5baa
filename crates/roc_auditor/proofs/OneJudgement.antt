-- Of what folds tell there is one judgement, where each id has one answer at most
use Rattle.std.proofs.Common.{◌≡◌, ◌≢◌, ◌⊎◌, inl, inr, ℤ, List, [], ◌∷◌, ◌++◌, get_or, drop, Some, refl, sym, ap, subst, ◌∙◌}
use Rattle.std.specs.Option.{unwrap_or}
use Rattle.roc_sequence.specs.Lists.{Has}
use Rattle.roc_sequence.proofs.Listed.{has_listed}
use Rattle.roc_base.specs.declared.id.TxnId.{TxnId}
use Rattle.roc_base.specs.TxnId.{is_txn}
use Rattle.roc_base.specs.Equalities.{is_txn-same, is_txn-true}
use Rattle.roc_base.proofs.Ids.{txn_cases}
use Rattle.roc_program.specs.Program.{Workload}
use Rattle.roc_audit.specs.History.{WasAnswered}
use Rattle.roc_whole.specs.Serial.{start_store}
use Rattle.roc_audit.specs.Witness.{serial_reply_from}
use Rattle.roc_precedence.specs.Orders.{IsLeastOrder}
use Rattle.roc_precedence.specs.Cycles.{IsLeastCycle}
use Rattle.roc_precedence.proofs.Orders.{orders_are_one, order_has_no_cycle}
use Rattle.roc_precedence.proofs.OneCycle.{cycles_are_one}
use Rattle.roc_judge.specs.declared.folded.Folded.{Folded}
use Rattle.roc_judge.specs.declared.judgement.Judgement.{Judgement}
use Rattle.roc_judge.specs.declared.judgement.Judgement.TheVariants.{Missing, Unsubmitted, Cycle, Reply, Yes}
use Rattle.roc_judge.specs.Before.{GoesBefore, candidates, told}
use Rattle.roc_judge.specs.Judged.{AnsweredAreDecided, DecidedAreSubmitted, IsAnsweredUndecided, IsUnsubmitted, IsLeastId, RepliesAreRight, answers_told}
use Rattle.roc_judge.specs.Judged.{IsJudged, one_missing, one_unsubmitted, a_circle, a_wrong_reply, explained}

-- two places in one list: one is before the other, or they hold one
pub two_places : {A : Type 0} (front back : List A) (a b : A) (behind rest : List A) → front ++ a ∷ behind ≡ back ++ b ∷ rest → Has b front ⊎ (Has a back ⊎ (a ≡ b))
two_places [] [] a b behind rest e = inr (inr (ap (λ l. get_or l 0 a) e))
two_places [] (y ∷ ys) a b behind rest e = inr (inl (inl (ap (λ l. get_or l 0 a) e)))
two_places (x ∷ xs) [] a b behind rest e = inl (inl (sym (ap (λ l. get_or l 0 a) e)))
two_places {A} (x ∷ xs) (y ∷ ys) a b behind rest e = further (two_places xs ys a b behind rest (ap (drop 1) e))
  where
    further : Has b xs ⊎ (Has a ys ⊎ (a ≡ b)) → Has b (x ∷ xs) ⊎ (Has a (y ∷ ys) ⊎ (a ≡ b))
    further (inl h) = inl (inr h)
    further (inr (inl h)) = inr (inl (inr h))
    further (inr (inr h)) = inr (inr h)

-- one at its place
has_there : {A : Type 0} (a : A) (front behind : List A) → Has a (front ++ a ∷ behind)
has_there a [] behind = inl refl
has_there a (x ∷ xs) behind = inr (has_there a xs behind)

-- each id has one answer at most
abbrev pub AnsweredOnce : List Folded → Type 0
AnsweredOnce folds = (t : TxnId) (reply other : List ℤ) → WasAnswered (told folds) t reply → WasAnswered (told folds) t other → reply ≡ other

least_is_one : (P : TxnId → Type 0) (t u : TxnId) → IsLeastId P t → IsLeastId P u → t ≡ u
least_is_one P t u h k = elim (txn_cases t u) [
  | inl low ↦ absurd (k.least t h.holds low)
  | inr m ↦ elim m [ inl e ↦ e | inr low ↦ absurd (h.least u k.holds low) ]
]

module _ (program : Workload) (folds : List Folded) where
  none_undecided : AnsweredAreDecided folds → (t : TxnId) → ¬ IsAnsweredUndecided folds t
  none_undecided decided t h = h.1 (decided t h.0.0 h.0.1)

  none_unsubmitted : DecidedAreSubmitted folds → (t : TxnId) → ¬ IsUnsubmitted folds t
  none_unsubmitted submitted t h = h.1 (submitted t h.0)

  no_circle : (order c : List TxnId) → IsLeastOrder (GoesBefore folds) (candidates folds) order → ¬ IsLeastCycle (GoesBefore folds) (candidates folds) c
  no_circle order c least cycle = order_has_no_cycle (GoesBefore folds) (candidates folds) order least (c, cycle.is)

  no_wrong : (order ids : List TxnId) (t : TxnId) (logged run : List ℤ) → RepliesAreRight program folds order ids → Has t ids → WasAnswered (told folds) t logged
      → serial_reply_from program (start_store program) (told folds) order t ≡ Some run → ¬ (logged ≢ run)
  no_wrong order ids t logged run right here was is wrong =
      wrong (ap (λ o. unwrap_or o logged) (sym (right t logged (has_listed is_txn is_txn-true is_txn-same ids t here) was) ∙ is))

  missing_one : (t : TxnId) → IsLeastId (IsAnsweredUndecided folds) t → (k : Judgement) → IsJudged program folds k → Missing t ≡ k
  missing_one t h _ (one_missing u m) = ap (λ (x : TxnId). Missing x) (least_is_one (IsAnsweredUndecided folds) t u h m)
  missing_one t h _ (one_unsubmitted u d m) = absurd (none_undecided d t h.holds)
  missing_one t h _ (a_circle c d s m) = absurd (none_undecided d t h.holds)
  missing_one t h _ (a_wrong_reply order front behind u logged run d s l p r w i n) = absurd (none_undecided d t h.holds)
  missing_one t h _ (explained order d s l r) = absurd (none_undecided d t h.holds)

  unsubmitted_one : (t : TxnId) → AnsweredAreDecided folds → IsLeastId (IsUnsubmitted folds) t → (k : Judgement) → IsJudged program folds k → Unsubmitted t ≡ k
  unsubmitted_one t d h _ (one_missing u m) = absurd (none_undecided d u m.holds)
  unsubmitted_one t d h _ (one_unsubmitted u e m) = ap (λ (x : TxnId). Unsubmitted x) (least_is_one (IsUnsubmitted folds) t u h m)
  unsubmitted_one t d h _ (a_circle c e s m) = absurd (none_unsubmitted s t h.holds)
  unsubmitted_one t d h _ (a_wrong_reply order front behind u logged run e s l p r w i n) = absurd (none_unsubmitted s t h.holds)
  unsubmitted_one t d h _ (explained order e s l r) = absurd (none_unsubmitted s t h.holds)

  circle_one : (c : List TxnId) → AnsweredAreDecided folds → DecidedAreSubmitted folds → IsLeastCycle (GoesBefore folds) (candidates folds) c
      → (k : Judgement) → IsJudged program folds k → Cycle c ≡ k
  circle_one c d s h _ (one_missing u m) = absurd (none_undecided d u m.holds)
  circle_one c d s h _ (one_unsubmitted u e m) = absurd (none_unsubmitted s u m.holds)
  circle_one c d s h _ (a_circle b e f m) = ap (λ (x : List TxnId). Cycle x) (cycles_are_one (GoesBefore folds) (candidates folds) c b h m)
  circle_one c d s h _ (a_wrong_reply order front behind u logged run e f l p r w i n) = absurd (no_circle order c l h)
  circle_one c d s h _ (explained order e f l r) = absurd (no_circle order c l h)

  explained_one : (order : List TxnId) → AnsweredAreDecided folds → DecidedAreSubmitted folds → IsLeastOrder (GoesBefore folds) (candidates folds) order → RepliesAreRight program folds order order
      → (k : Judgement) → IsJudged program folds k → Yes order (answers_told folds) ≡ k
  explained_one order d s l r _ (one_missing u m) = absurd (none_undecided d u m.holds)
  explained_one order d s l r _ (one_unsubmitted u e m) = absurd (none_unsubmitted s u m.holds)
  explained_one order d s l r _ (a_circle b e f m) = absurd (no_circle order b l m)
  explained_one order d s l r _ (a_wrong_reply other front behind u logged run e f m p q w i n) =
      let same = orders_are_one (GoesBefore folds) (candidates folds) order other l m in
      absurd (no_wrong order order u logged run r (subst (λ (o : List TxnId). Has u o) (sym (same ∙ p)) (has_there u front behind)) w
      (subst (λ (o : List TxnId). serial_reply_from program (start_store program) (told folds) o u ≡ Some run) (sym same) i) n)
  explained_one order d s l r _ (explained other e f m q) = ap (λ (o : List TxnId). Yes o (answers_told folds)) (orders_are_one (GoesBefore folds) (candidates folds) order other l m)

  module _ (once : AnsweredOnce folds) (order front behind : List TxnId) (t : TxnId) (logged run : List ℤ) (d : AnsweredAreDecided folds) (s : DecidedAreSubmitted folds)
      (l : IsLeastOrder (GoesBefore folds) (candidates folds) order) (p : order ≡ front ++ t ∷ behind) (r : RepliesAreRight program folds order front) (w : WasAnswered (told folds) t logged)
      (i : serial_reply_from program (start_store program) (told folds) order t ≡ Some run) (n : logged ≢ run) where
    reply_one : (other back rest : List TxnId) (u : TxnId) (had ran : List ℤ) → IsLeastOrder (GoesBefore folds) (candidates folds) other → other ≡ back ++ u ∷ rest
        → RepliesAreRight program folds other back → WasAnswered (told folds) u had
        → serial_reply_from program (start_store program) (told folds) other u ≡ Some ran → had ≢ ran → Reply t logged run ≡ Reply u had ran
    reply_one other back rest u had ran m q k v j z = go (two_places front back t u behind rest (sym p ∙ (same ∙ q)))
      where
        same : order ≡ other
        same = orders_are_one (GoesBefore folds) (candidates folds) order other l m

        replies : t ≡ u → Some run ≡ Some ran
        replies e =
            sym i
            ∙ (ap (λ (o : List TxnId). serial_reply_from program (start_store program) (told folds) o t) same
            ∙ (ap (λ (x : TxnId). serial_reply_from program (start_store program) (told folds) other x) e ∙ j))

        go : Has u front ⊎ (Has t back ⊎ (t ≡ u)) → Reply t logged run ≡ Reply u had ran
        go (inl h) = absurd (no_wrong order front u had ran r h v (subst (λ (o : List TxnId). serial_reply_from program (start_store program) (told folds) o u ≡ Some ran) (sym same) j) z)
        go (inr (inl h)) = absurd (no_wrong other back t logged run k h w (subst (λ (o : List TxnId). serial_reply_from program (start_store program) (told folds) o t ≡ Some run) same i) n)
        go (inr (inr e)) =
            let f : logged ≡ had = once u logged had (subst (λ (x : TxnId). WasAnswered (told folds) x logged) e w) v in
            let g : run ≡ ran = ap (λ o. unwrap_or o run) (replies e) in
            λ at. Reply (e at) (f at) (g at)

    wrong_one : (k : Judgement) → IsJudged program folds k → Reply t logged run ≡ k
    wrong_one _ (one_missing u m) = absurd (none_undecided d u m.holds)
    wrong_one _ (one_unsubmitted u e m) = absurd (none_unsubmitted s u m.holds)
    wrong_one _ (a_circle b e f m) = absurd (no_circle order b l m)
    wrong_one _ (a_wrong_reply other back rest u had ran e f m q k v j z) = reply_one other back rest u had ran m q k v j z
    wrong_one _ (explained other e f m q) =
        let same = orders_are_one (GoesBefore folds) (candidates folds) order other l m in
        absurd (no_wrong other other t logged run q (subst (λ (o : List TxnId). Has t o) (sym p ∙ same) (has_there t front behind)) w
        (subst (λ (o : List TxnId). serial_reply_from program (start_store program) (told folds) o t ≡ Some run) same i) n)

  pub judgements_are_one : AnsweredOnce folds → (j k : Judgement) → IsJudged program folds j → IsJudged program folds k → j ≡ k
  judgements_are_one once _ k (one_missing t h) g = missing_one t h k g
  judgements_are_one once _ k (one_unsubmitted t d h) g = unsubmitted_one t d h k g
  judgements_are_one once _ k (a_circle c d s h) g = circle_one c d s h k g
  judgements_are_one once _ k (a_wrong_reply order front behind t logged run d s l p r w i n) g = wrong_one once order front behind t logged run d s l p r w i n k g
  judgements_are_one once _ k (explained order d s l r) g = explained_one order d s l r k g
