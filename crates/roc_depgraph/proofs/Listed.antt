-- Ids in a list, by place, by test and as the keys of a set
use Rattle.std.proofs.Common.{◌≡◌, Bool, true, List, [], ◌∷◌, map, sym, ◌∙◌, subst, arith, inl, inr}
use Rattle.std.proofs.lemmas.Bool.{false≢true, or_cases, or_left, or_right}
use Rattle.std.proofs.lemmas.Bool.Decides.{nat_tests}
use Rattle.std.specs.List.{list_any}
use Rattle.std.specs.Ordering.{is_eq}
use Rattle.roc_sequence.specs.Lists.{Has}
use Rattle.roc_sequence.specs.Places.{IsListed}
use Rattle.roc_sequence.proofs.Listed as listed
use Rattle.roc_sequence.proofs.Places.{listed_head, listed_tail, listed_cases}
use Rattle.roc_base.specs.declared.id.TxnId.{TxnId}
use Rattle.roc_base.specs.TxnId.{is_txn, txn_cmp}
use Rattle.roc_base.specs.Equalities.{is_txn-same, is_txn-true}

-- a set's test of a key
abbrev pub has : List TxnId → TxnId → Bool
has xs u = list_any (λ k. is_eq (txn_cmp u k)) xs

pub is_eq-txn_cmp : (a b : TxnId) → is_eq (txn_cmp a b) ≡ is_txn a b
is_eq-txn_cmp a b = grind (arith, nat_tests)

pub is_eq-same : (a : TxnId) → is_eq (txn_cmp a a) ≡ true
is_eq-same a = is_eq-txn_cmp a a ∙ is_txn-same a

pub is_eq-true : (a b : TxnId) → is_eq (txn_cmp a b) ≡ true → a ≡ b
is_eq-true a b h = is_txn-true a b (sym (is_eq-txn_cmp a b) ∙ h)

pub has_from_listed : (xs : List TxnId) (u : TxnId) → IsListed is_txn xs u → has xs u ≡ true
has_from_listed [] u h = absurd (omega arith)
has_from_listed (x ∷ xs) u h =
    elim (listed_cases is_txn x xs u h) [
      | inl e ↦ or_left (is_eq (txn_cmp u x)) (has xs u) (is_eq-txn_cmp u x ∙ e)
      | inr k ↦ or_right (is_eq (txn_cmp u x)) (has xs u) (has_from_listed xs u k.1)
    ]

pub listed_from_has : (xs : List TxnId) (u : TxnId) → has xs u ≡ true → IsListed is_txn xs u
listed_from_has [] u h = absurd (false≢true h)
listed_from_has (x ∷ xs) u h =
    elim (or_cases (is_eq (txn_cmp u x)) (has xs u) h) [
      | inl e ↦ subst (λ v. IsListed is_txn (v ∷ xs) u) (is_eq-true u x e) (listed_head is_txn u xs (is_txn-same u))
      | inr k ↦ listed_tail is_txn x xs u (listed_from_has xs u k)
    ]

-- ---- the lemmas on lists, for ids

pub has_listed : (ids : List TxnId) (u : TxnId) → Has u ids → IsListed is_txn ids u
has_listed = listed.has_listed is_txn is_txn-true is_txn-same

pub listed_has : (ids : List TxnId) (u : TxnId) → IsListed is_txn ids u → Has u ids
listed_has = listed.listed_has is_txn is_txn-true is_txn-same

pub listed_one : (x u : TxnId) → IsListed is_txn (x ∷ []) u → u ≡ x
listed_one = listed.listed_one is_txn is_txn-true is_txn-same

pub in_one : (x : TxnId) → IsListed is_txn (x ∷ []) x
in_one = listed.in_one is_txn is_txn-true is_txn-same

pub has_under : {B : Type 0} (key : B → TxnId) (bs : List B) (u : TxnId) → IsListed is_txn (map key bs) u → (b : B) × Has b bs × (key b ≡ u)
has_under key = listed.has_under is_txn is_txn-true is_txn-same key

pub under_has : {B : Type 0} (key : B → TxnId) (bs : List B) (b : B) → Has b bs → IsListed is_txn (map key bs) (key b)
under_has key = listed.under_has is_txn is_txn-true is_txn-same key
