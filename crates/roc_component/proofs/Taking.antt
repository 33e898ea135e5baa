-- Ids that are taken one by one
use Rattle.std.proofs.Common.{◌≡◌, Bool, true, false, cond, ◌||◌, List, [], ◌∷◌, ◌++◌, refl, sym, ap, ◌∙◌}
use Rattle.std.proofs.lemmas.List.Folds.{list_any-append}
use Rattle.std.specs.Ordering.{is_eq}
use Rattle.roc_sequence.specs.Places.{is_listed}
use Rattle.roc_base.specs.declared.id.TxnId.{TxnId}
use Rattle.roc_base.specs.TxnId.{is_txn, txn_cmp}
use Rattle.roc_base.proofs.Ids.{is_listed-any}
use Rattle.roc_depgraph.proofs.Listed.{is_eq-txn_cmp}

pub listed_more : (xs : List TxnId) (x u : TxnId) → is_listed is_txn (xs ++ x ∷ []) u ≡ cond (is_eq (txn_cmp x u)) true (is_listed is_txn xs u)
listed_more xs x u =
    is_listed-any (xs ++ x ∷ []) u ∙ list_any-append (λ y. is_txn y u) xs (x ∷ []) ∙ ap (λ b. b || (is_txn x u || false)) (sym (is_listed-any xs u))
    ∙ either (is_listed is_txn xs u) (is_txn x u)
    ∙ ap (λ b. cond b true (is_listed is_txn xs u)) (sym (is_eq-txn_cmp x u))
  where
    either : (a b : Bool) → (a || (b || false)) ≡ cond b true a
    either true true = refl
    either true false = refl
    either false true = refl
    either false false = refl
