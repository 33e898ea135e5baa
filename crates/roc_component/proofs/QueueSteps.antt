-- The steps of turns that wait, by what calls on maps and sets change
use Rattle.std.proofs.Common.{◌≡◌, ◌++◌, Bool, true, false, cond, List, [], ◌∷◌, Option, Some, None, refl, sym, ◌∙◌, ap, subst, ◌⊎◌, inl, inr}
use Rattle.std.proofs.lemmas.Bool.{false≢true}
use Rattle.std.specs.Ordering.{is_eq, is_gt}
use Rattle.roc_sequence.specs.Lists.{Has}
use Rattle.roc_sequence.specs.Places.{IsListed}
use Rattle.roc_sequence.proofs.Members.{has_left, has_right, has_more}
use Rattle.roc_sequence.proofs.Places.{listed_or_not}
use Rattle.roc_base.specs.declared.id.TxnId.{TxnId}
use Rattle.roc_base.specs.TxnId.{is_txn, txn_cmp}
use Rattle.roc_component.specs.declared.turn.Turn.{Turn}
use Rattle.roc_component.specs.declared.queue.Waiting.{Waiting}
use Rattle.roc_component.specs.Inner.Turns.{AreTurns, IsLeft, IsNextTurn}
use Rattle.roc_component.specs.Inner.Queue.{IsQueue, IsOpenAt}
use Rattle.roc_component.proofs.OneChange.{at_same, at_other}
use Rattle.roc_component.proofs.OneOrder.{cases_txn}
use Rattle.roc_component.proofs.Queued.{next_ready, next_left, all_taken, takes, waits}

-- ---- looking for one that was not taken

module _ (all rest more taken : List TxnId) (u : TxnId) (kept : (p : TxnId) → Has p all → IsListed is_txn taken p ⊎ Has p rest) (only : (p : TxnId) → Has p rest → Has p all) (e : rest ≡ more ++ u ∷ []) where
  to_more : (p : TxnId) → Has p all → IsListed is_txn taken p ⊎ ((p ≡ u) ⊎ Has p more)
  to_more p h = elim (kept p h) [ inl k ↦ inl k | inr k ↦ elim (has_more p u more (subst (Has p) e k)) [ inl i ↦ inr (inr i) | inr i ↦ inr (inl i) ] ]

  from_more : (p : TxnId) → Has p more → Has p all
  from_more p h = only p (subst (Has p) (sym e) (has_left p more (u ∷ []) h))

  pub open_here : ¬ IsListed is_txn taken u → IsOpenAt all taken more (Some u)
  open_here n = (n, only u (subst (Has u) (sym e) (has_right u more (u ∷ []) (inl refl))), to_more, from_more)

  pub open_behind : IsListed is_txn taken u → ((p : TxnId) → Has p all → IsListed is_txn taken p ⊎ Has p more) × ((p : TxnId) → Has p more → Has p all)
  open_behind t = (λ p h. elim (to_more p h) [ inl k ↦ inl k | inr k ↦ elim k [ inl i ↦ inl (subst (IsListed is_txn taken) (sym i) t) | inr i ↦ inr i ] ], from_more)

module _ (turns : List Turn) (a : AreTurns turns) (taken : List TxnId) (left : TxnId → Option (List TxnId)) (ready : TxnId → Bool) (waiting : TxnId → Option (List Waiting)) where
  -- one that waits is put with others under an id that was not taken
  pub settles :
      (due : List TxnId) (pending : List Waiting) (w x : Waiting) (u : TxnId) (removed more : TxnId → Option (List Waiting)) (was under : List Waiting)
      → IsQueue turns taken due (pending ++ w ∷ []) left ready waiting
      → x.key ≡ w.key → IsOpenAt w.rest.items taken x.rest.items (Some u)
      → ((q : TxnId) → removed q ≡ cond (is_eq (txn_cmp u q)) None (waiting q)) → ((q : TxnId) → more q ≡ cond (is_eq (txn_cmp u q)) (Some under) (removed q))
      → (waiting u ≡ Some was) ⊎ ((waiting u ≡ None) × (was ≡ [])) → under ≡ was ++ x ∷ []
      → IsQueue turns taken due pending left ready more
  settles due pending w x u removed more was under s key open_at at_removed at_more there e =
      waits turns a taken due left ready waiting pending w s u x key open_at.0 open_at.1 open_at.2 open_at.3 under more
      (at_same u (Some under) removed more at_more)
      (λ q n. at_other u (Some under) removed more at_more q n ∙ at_other u None waiting removed at_removed q n)
      (subst (Has x) (sym e) (has_right x was (x ∷ []) (inl refl)))
      (λ ws f v h. subst (Has v) (sym e) (has_left v was (x ∷ []) (old ws f v h there)))
      (λ v h. elim (has_more v x was (subst (Has v) e h)) [ inl k ↦ inr (new v k there) | inr k ↦ inl k ])
    where
      old : (ws : List Waiting) → waiting u ≡ Some ws → (v : Waiting) → Has v ws → (waiting u ≡ Some was) ⊎ ((waiting u ≡ None) × (was ≡ [])) → Has v was
      old ws f v h (inl g) = (let i : Some ws ≡ Some was = sym f ∙ g in let j : ws ≡ was = cc in subst (Has v) j h)
      old ws f v h (inr g) = absurd (let i : None ≡ Some ws = sym g.0 ∙ f in cc)

      new : (v : Waiting) → Has v was → (waiting u ≡ Some was) ⊎ ((waiting u ≡ None) × (was ≡ [])) → (ws : List Waiting) × (waiting u ≡ Some ws) × Has v ws
      new v h (inl g) = (was, g, h)
      new v h (inr g) = absurd (subst (Has v) g.1 h)

  module _ (s : IsQueue turns taken [] [] left ready waiting) (k : TxnId) (less : TxnId → Option (List TxnId)) (at_less : (q : TxnId) → less q ≡ cond (is_eq (txn_cmp k q)) None (left q)) where
    abbrev IsOut : (TxnId → Bool) → Type 0
    IsOut fewer = (t : Turn) × Has t turns × (left k ≡ Some t.ids) × IsLeft taken t × IsNextTurn turns taken t × IsQueue turns (taken ++ t.ids) t.ids [] less fewer waiting

    out : (fewer : TxnId → Bool) → ((q : TxnId) → ¬ (q ≡ k) → ready q ≡ true → fewer q ≡ true) → ((q : TxnId) → fewer q ≡ true → (ready q ≡ true) × ¬ (q ≡ k)) → (t : Turn) × Has t turns × (t.key ≡ k) × IsLeft taken t × IsNextTurn turns taken t → IsOut fewer
    out fewer kept only t =
        let e = t.2 in
        let o = takes turns a taken left ready waiting s t.0 t.1 t.3 less
        (λ q n. at_other k None left less at_less q (λ f. n (f ∙ sym e))) (ap less e ∙ at_same k None left less at_less)
        fewer (λ q n. kept q (λ f. n (f ∙ sym e))) (λ q r. let f = only q r in (f.0, λ g. f.1 (g ∙ e))) in
        (t.0, t.1, sym (ap left e) ∙ s.here t.0 t.1 t.3, t.3, t.4, o)

    pub out_ready : ready k ≡ true → ((q : TxnId) → ready q ≡ true → is_gt (txn_cmp k q) ≡ false) → (fewer : TxnId → Bool) → ((q : TxnId) → fewer q ≡ cond (is_eq (txn_cmp k q)) false (ready q)) → IsOut fewer
    out_ready r least fewer at_fewer =
        out fewer (λ q n h. at_other k false ready fewer at_fewer q n ∙ h) (λ q h. elim (cases_txn q k) [
          | inl e ↦ absurd (false≢true (sym (at_same k false ready fewer at_fewer) ∙ (ap fewer (sym e) ∙ h)))
          | inr n ↦ (sym (at_other k false ready fewer at_fewer q n) ∙ h, n)
        ]) (next_ready turns a taken left ready waiting s k r least)

    pub out_left : ((q : TxnId) → ready q ≡ true → ⊥) → (ids : List TxnId) → left k ≡ Some ids → ((q : TxnId) (other : List TxnId) → left q ≡ Some other → is_gt (txn_cmp k q) ≡ false) → IsOut ready
    out_left unready ids e least = out ready (λ q n h. h) (λ q h. absurd (unready q h)) (next_left turns a taken left ready waiting s unready k ids e least)

  pub ended : IsQueue turns taken [] [] left ready waiting → ((q : TxnId) → left q ≡ None) → (t : Turn) → Has t turns → IsListed is_txn taken t.key
  ended s gone t h = elim (listed_or_not is_txn taken t.key) [ inl l ↦ l | inr n ↦ absurd (all_taken turns a taken left ready waiting s gone t h n) ]
