-- A relation has at most one least cycle
use Rattle.std.proofs.Common.{◌≡◌, Bool, true, false, ◌&&◌, ◌||◌, List, [], ◌∷◌, length, refl, sym, ap, ◌∙◌, inl, inr, arith}
use Rattle.std.proofs.lemmas.Bool.{false≢true, or_left}
use Rattle.roc_base.specs.declared.id.TxnId.{TxnId}
use Rattle.roc_base.specs.TxnId.{is_txn, txn_lt}
use Rattle.roc_base.specs.Equalities.{is_txn-same}
use Rattle.roc_base.proofs.Ids.{txn_lt-itself, txn_cases}
use Rattle.roc_precedence.specs.Cycles.{IsLeastCycle, stands_before}

pub comes_same : (w v : TxnId) (ws vs : List TxnId) → w ≡ v → stands_before (w ∷ ws) (v ∷ vs) ≡ stands_before ws vs
comes_same w v ws vs e =
    ap (λ (x : TxnId). stands_before (x ∷ ws) (v ∷ vs)) e
    ∙ (ap (λ (t : Bool). t || (is_txn v v && stands_before ws vs)) (txn_lt-itself v) ∙ ap (λ (t : Bool). t && stands_before ws vs) (is_txn-same v))

apart : (a b : List TxnId) → length a ≡ length b → stands_before a b ≡ false → stands_before b a ≡ false → a ≡ b
apart [] [] n h k = refl
apart [] (b ∷ vs) n h k = absurd (omega arith)
apart (a ∷ us) [] n h k = absurd (omega arith)
apart (a ∷ us) (b ∷ vs) n h k =
    elim (txn_cases a b) [
      | inl low ↦ absurd (false≢true (sym h ∙ or_left (txn_lt a b) (is_txn a b && stands_before us vs) low))
      | inr m ↦ elim m [
        | inl e ↦ (
            let f = apart us vs (omega arith) (sym (comes_same a b us vs e) ∙ h) (sym (comes_same b a vs us (sym e)) ∙ k) in
            λ i. e i ∷ f i)
        | inr low ↦ absurd (false≢true (sym k ∙ or_left (txn_lt b a) (is_txn b a && stands_before vs us) low))
      ]
    ]

not_true : (b : Bool) → ¬ (b ≡ true) → b ≡ false
not_true true n = absurd (n refl)
not_true false n = refl

pub cycles_are_one : (G : TxnId → TxnId → Type 0) (M c d : List TxnId) → IsLeastCycle G M c → IsLeastCycle G M d → c ≡ d
cycles_are_one G M c d h k =
    let low = h.shortest d k.is in
    let high = k.shortest c h.is in
    let same : length c ≡ length d = omega arith in
    apart c d same (not_true (stands_before c d) (k.least c h.is h.begins same)) (not_true (stands_before d c) (h.least d k.is k.begins (sym same)))
