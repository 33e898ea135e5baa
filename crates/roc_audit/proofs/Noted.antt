-- Orders that grow
use Rattle.std.proofs.Common.{◌≡◌, ℕ, ◌+◌, ◌<◌, Bool, true, false, not, cond, ◌||◌, List, [], ◌∷◌, ◌++◌, length, take, get_or, refl, sym, ap, ◌∙◌}
use Rattle.std.proofs.lemmas.Bool.{false≢true}
use Rattle.std.proofs.lemmas.List.{take_more}
use Rattle.std.proofs.lemmas.List.Folds.{list_any-append}
use Rattle.roc_sequence.specs.Places.{is_listed}
use Rattle.roc_base.specs.declared.id.TxnId.{TxnId}
use Rattle.roc_base.specs.TxnId.{is_txn}
use Rattle.roc_base.proofs.Ids.{is_listed-any}
use Rattle.roc_audit.specs.Order.{noted, noted_one}

-- one more is listed
pub listed_more : (ids : List TxnId) (t u : TxnId) → is_listed is_txn (ids ++ t ∷ []) u ≡ cond (is_txn t u) true (is_listed is_txn ids u)
listed_more ids t u =
    is_listed-any (ids ++ t ∷ []) u ∙ list_any-append (λ x. is_txn x u) ids (t ∷ []) ∙ ap (λ b. b || (is_txn t u || false)) (sym (is_listed-any ids u)) ∙ either (is_listed is_txn ids u) (is_txn t u)
  where
    either : (a b : Bool) → (a || (b || false)) ≡ cond b true a
    either true true = refl
    either true false = refl
    either false true = refl
    either false false = refl

-- an insertion tells whether the id was among the members before
pub unlisted : (ids : List TxnId) (t : TxnId) (had is_new : Bool) → had ≡ is_listed is_txn ids t → is_new ≡ not had → is_new ≡ true → is_listed is_txn ids t ≡ false
unlisted ids t true is_new h e new = absurd (false≢true (sym e ∙ new))
unlisted ids t false is_new h e new = sym h

pub listed : (ids : List TxnId) (t : TxnId) (had is_new : Bool) → had ≡ is_listed is_txn ids t → is_new ≡ not had → is_new ≡ false → is_listed is_txn ids t ≡ true
listed ids t true is_new h e old = sym h
listed ids t false is_new h e old = absurd (false≢true (sym old ∙ e))

pub noted-append : (order xs ys : List TxnId) → noted order (xs ++ ys) ≡ noted (noted order xs) ys
noted-append order [] ys = refl
noted-append order (x ∷ xs) ys = noted-append (noted_one order x) xs ys

-- one more of the ids was noted
pub noted_more : (order ids : List TxnId) (i : ℕ) (d : TxnId) → i < length ids → noted order (take (i + 1) ids) ≡ noted_one (noted order (take i ids)) (get_or ids i d)
noted_more order ids i d h = ap (noted order) (take_more ids i d h) ∙ noted-append order (take i ids) (get_or ids i d ∷ [])
