-- What the second of two runs decides stands behind all that the first one ordered
use Rattle.std.proofs.Common.{◌≡◌, ◌∙◌, Bool, true, false, List, [], ◌∷◌, ◌++◌, refl, sym, ap, subst, append_assoc, inl, inr}
use Rattle.std.specs.Prelude.{if◌then◌else◌, not}
use Rattle.roc_sequence.specs.Lists.{Has}
use Rattle.roc_sequence.specs.Places.{is_listed}
use Rattle.roc_sequence.proofs.Holds.{same_tests}
use Rattle.roc_sequence.proofs.Members.{has_append, has_left, has_right, from_has_filter}
use Rattle.roc_sequence.proofs.Places.{listed_true, listed_test}
use Rattle.roc_base.specs.declared.id.TxnId.{TxnId}
use Rattle.roc_base.specs.TxnId.{is_txn}
use Rattle.roc_depgraph.proofs.Listed.{has_listed, listed_has}
use Rattle.roc_audit.specs.declared.entry.Entry.{Entry}
use Rattle.roc_audit.specs.declared.entry.Entry.TheVariants.{Submitted}
use Rattle.roc_audit.specs.History.{WasSubmitted}
use Rattle.roc_audit.specs.Order.{noted_one, noted}
use Rattle.roc_audit.specs.Woven.{without_views, entry_id}
use Rattle.roc_law_world.proofs.TimeSteps.{noted_grows}

-- ids that are not in front are noted behind
pub noted_behind : (xs ys ts : List TxnId) → ((t : TxnId) → Has t ts → ¬ Has t xs) → noted (xs ++ ys) ts ≡ xs ++ noted ys ts
noted_behind xs ys [] apart = refl
noted_behind xs ys (t ∷ ts) apart =
    ap (λ l. noted l ts) one ∙ noted_behind xs (noted_one ys t) ts (λ u h. apart u (inr h))
  where
    same : is_listed is_txn (xs ++ ys) t ≡ is_listed is_txn ys t
    same =
        same_tests (is_listed is_txn (xs ++ ys) t) (is_listed is_txn ys t)
        (λ h. elim (has_append t xs ys (listed_has (xs ++ ys) t (listed_true is_txn (xs ++ ys) t h))) [
          | inl k ↦ absurd (apart t (inl refl) k)
          | inr k ↦ listed_test is_txn ys t (has_listed ys t k)
        ])
        (λ h. listed_test is_txn (xs ++ ys) t (has_listed (xs ++ ys) t (has_right t xs ys (listed_has ys t (listed_true is_txn ys t h)))))

    one : noted_one (xs ++ ys) t ≡ xs ++ noted_one ys t
    one = ap (λ b. (xs ++ ys) ++ (if b then [] else t ∷ [])) same ∙ append_assoc xs ys (if is_listed is_txn ys t then [] else t ∷ [])

-- what is noted is there
pub has_noted : (order ts : List TxnId) (t : TxnId) → Has t ts → Has t (noted order ts)
has_noted order [] t h = absurd h
has_noted order (u ∷ ts) t (inr h) = has_noted (noted_one order u) ts t h
has_noted order (u ∷ ts) t (inl e) =
    let grown = noted_grows (noted_one order u) ts in
    subst (Has t) (sym grown.1) (has_left t (noted_one order u) grown.0 (subst (λ v. Has v (noted_one order u)) (sym e) (go (is_listed is_txn order u) refl)))
  where
    go : (b : Bool) → is_listed is_txn order u ≡ b → Has u (order ++ (if b then [] else u ∷ []))
    go true h = has_left u order [] (listed_has order u (listed_true is_txn order u h))
    go false h = has_right u order (u ∷ []) (inl refl)

-- what was submitted of transactions was submitted
pub submitted_all : (is_view : TxnId → Bool) (history : List Entry) (t : TxnId) → WasSubmitted (without_views is_view history) t → WasSubmitted history t
submitted_all is_view history t (proc, args, h) = (proc, args, (from_has_filter (λ (e : Entry). not (is_view (entry_id e))) (Submitted t proc args) history h).0)
