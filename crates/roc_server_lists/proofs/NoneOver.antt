-- Where nothing is over, nothing is forgotten
use Rattle.std.proofs.Common.{◌≡◌, ◌≢◌, ◌==◌, ℕ, Bool, true, false, not, List, [], ◌∷◌, length, map, filter, arith, refl, sym, ap, subst, ◌∙◌, inl}
use Rattle.std.proofs.lemmas.Bool.{eqb-true, not_from_false}
use Rattle.roc_sequence.specs.Lists.{Has}
use Rattle.roc_sequence.specs.Places.{is_listed, IsListed}
use Rattle.roc_sequence.proofs.Places.{listed_head}
use Rattle.roc_base.specs.declared.id.TxnId.{TxnId}
use Rattle.roc_base.specs.TxnId.{is_txn}
use Rattle.roc_base.specs.Equalities.{is_txn-same}
use Rattle.roc_base.proofs.Ids.{unlisted_none}
use Rattle.roc_step.specs.declared.waits.OpenFetch.{OpenFetch}
use Rattle.roc_depgraph.specs.declared.known.KnownList.{KnownList}
use Rattle.roc_depgraph.specs.Closure.{IsRisingListOf}
use Rattle.roc_step.specs.Links.{without_links}
use Rattle.roc_step.proofs.WithoutLinks.{all_without_none}
use Rattle.roc_step.specs.Forgets.{is_over, over}
use Rattle.roc_server_groups.proofs.IndexSteps.{filter_all}
use Rattle.roc_server_lists.specs.declared.parts.ListParts.{ListParts}
use Rattle.roc_server_lists.specs.Inner.Keeping.{IsOverOf}
use Rattle.roc_server_lists.specs.Inner.Parts.{kept_in, AreConsistent}
use Rattle.roc_server_lists.specs.Inner.Trials.{lists_forgetting, lists_without}
use Rattle.roc_server_lists.proofs.SomeLeft.{member_some}

pub no_ids : (ids : List TxnId) (none : Bool) → none ≡ (length ids == 0) → none ≡ true → ids ≡ []
no_ids [] none is e = refl
no_ids (t ∷ ts) none is e = absurd (let n : length (t ∷ ts) ≡ 0 = eqb-true (length (t ∷ ts)) 0 (sym is ∙ e) in omega arith)

-- no id is listed rising where none is listed
over_none : (ids : List TxnId) → IsRisingListOf (IsListed is_txn ids) [] → ids ≡ []
over_none [] h = refl
over_none (t ∷ ts) h = absurd (unlisted_none t (h.complete t (listed_head is_txn t ts (is_txn-same t))))

-- no component is over then, since each has a member
open_all : (marks : List ℕ) (taken : List (List TxnId)) → over marks taken ≡ [] → ((c : List TxnId) → Has c taken → c ≢ []) → (c : List TxnId) → Has c taken → not (is_over marks c) ≡ true
open_all marks taken none some [] h = absurd (some [] h refl)
open_all marks taken none some (t ∷ ts) h = not_from_false (is_over marks (t ∷ ts)) (go (is_over marks (t ∷ ts)) refl)
  where
    go : (b : Bool) → is_over marks (t ∷ ts) ≡ b → b ≡ false
    go true e = absurd (unlisted_none t (subst (λ us. IsListed is_txn us t) none (member_some (is_over marks) taken (t ∷ ts) t h (inl refl) e)))
    go false e = refl

none_gone : (k : ListParts) → ((c : List TxnId) → Has c k.taken.components → not (is_over k.marks c) ≡ true) → lists_without [] (kept_in k) ≡ kept_in k
none_gone k stays i = record {
  lists = record {
    known = filter_all (λ (x : KnownList). not (is_listed is_txn [] x.of)) k.table.known (λ x h. refl) i;
    links = followed i;
    waiting = record { asked = filter_all (λ (a : OpenFetch). not (is_listed is_txn [] a.id)) k.waits.waiting.asked (λ a h. refl) i; askers = k.waits.waiting.askers };
    taken = filter_all (λ c. not (is_over k.marks c)) k.taken.components stays i;
  };
  below = k.marks;
}
  where
    followed : map (without_links (is_listed is_txn [])) (filter (λ (x : KnownList). not (is_listed is_txn [] x.of)) k.table.links) ≡ k.table.links
    followed =
        ap (map (without_links (is_listed is_txn []))) (filter_all (λ (x : KnownList). not (is_listed is_txn [] x.of)) k.table.links (λ x h. refl))
        ∙ all_without_none (is_listed is_txn []) k.table.links (λ d h. refl)

module _ (k : ListParts) (gone : List TxnId) (is_none : gone ≡ []) (o : IsOverOf k gone) where
  none : over k.marks k.taken.components ≡ []
  none = over_none (over k.marks k.taken.components) (subst (IsRisingListOf (IsListed is_txn (over k.marks k.taken.components))) is_none o.over)

  pub nothing_forgotten : kept_in k ≡ lists_forgetting (kept_in k)
  nothing_forgotten = sym (ap (λ ids. lists_without ids (kept_in k)) none ∙ none_gone k (open_all k.marks k.taken.components none o.right.taken_some))

  pub nothing_over : AreConsistent k
  nothing_over = record { right = o.right; none_over = none }
