-- Facts that pass a test and are not known, as a loop puts them one behind another
use Rattle.std.proofs.Common.{◌≡◌, ℕ, ◌+◌, ◌<◌, Bool, true, false, cond, not, List, [], ◌∷◌, ◌++◌, length, filter, take, get_or, sym, ap, ◌∙◌, append_assoc, append-nil, arith}
use Rattle.std.proofs.lemmas.Bool.Decides.{nat_tests}
use Rattle.std.proofs.lemmas.List.Elements.{filter-append}
use Rattle.std.specs.Ordering.{partial_lt}
use Rattle.roc_base.specs.declared.id.TxnId.{TxnId}
use Rattle.roc_base.specs.contracts.id.TxnIdPartialOrd.TheImpl.{partial_cmp-value}
use Rattle.roc_base.specs.TxnId.{txn_lt}
use Rattle.roc_sequence.proofs.Fronts.{front_more}
use Rattle.roc_depgraph.specs.declared.known.KnownList.{KnownList}
use Rattle.roc_depgraph.specs.Deps.{is_known}
use Rattle.roc_step.specs.Carried.{unknown_of}

module _ (p : KnownList → Bool) (known facts : List KnownList) (i : ℕ) (k : KnownList) (within : i < length facts) (is : k ≡ get_or facts i k)
    (first mid next : List KnownList) (so_far : mid ≡ first ++ unknown_of known (filter p (take i facts))) where
  one_more : first ++ unknown_of known (filter p (take (i + 1) facts)) ≡ mid ++ unknown_of known (cond (p k) (k ∷ []) [])
  one_more =
      let before = filter p (take i facts) in
      ap (λ ks. first ++ unknown_of known (filter p ks)) (sym (front_more facts i k within is))
      ∙ ap (λ ks. first ++ unknown_of known ks) (filter-append p (take i facts) (k ∷ []))
      ∙ ap (λ ks. first ++ ks) (filter-append (λ (f : KnownList). not (is_known known f.of)) before (filter p (k ∷ [])))
      ∙ sym (append_assoc first (unknown_of known before) (unknown_of known (filter p (k ∷ []))))
      ∙ ap (λ ks. ks ++ unknown_of known (filter p (k ∷ []))) (sym so_far)

  -- one that passes is put behind where it is unknown, and one that does not leaves all as it is
  pub news_more : p k ≡ true → next ≡ mid ++ unknown_of known (k ∷ []) → next ≡ first ++ unknown_of known (filter p (take (i + 1) facts))
  news_more h put = put ∙ ap (λ b. mid ++ unknown_of known (cond b (k ∷ []) [])) (sym h) ∙ sym one_more

  pub news_same : p k ≡ false → next ≡ mid → next ≡ first ++ unknown_of known (filter p (take (i + 1) facts))
  news_same h same = same ∙ sym (append-nil mid) ∙ ap (λ b. mid ++ unknown_of known (cond b (k ∷ []) [])) (sym h) ∙ sym one_more

-- the order of ids that code has is the one of clauses
pub before_is : (a b : TxnId) → partial_lt partial_cmp-value.it a b ≡ txn_lt a b
before_is a b = grind (arith, nat_tests)
