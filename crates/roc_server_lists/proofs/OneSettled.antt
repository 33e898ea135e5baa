-- A transaction that its watermark ends, as a list of at most one
use Rattle.std.proofs.Common.{◌≡◌, ◌≤◌, ◌&&◌, ℕ, Bool, true, false, if◌then◌else◌, cond, nat_lt, List, [], ◌∷◌, Some, None, length, map, refl, sym, ap, subst, ◌∙◌, arith}
use Rattle.std.specs.List.{slice_get}
use Rattle.std.specs.List.Sorted.{IsStrictlySortedBy}
use Rattle.roc_sequence.specs.Places.{is_listed}
use Rattle.roc_base.specs.declared.id.TxnId.{TxnId}
use Rattle.roc_base.specs.TxnId.{is_txn, txn_cmp}
use Rattle.roc_base.specs.Equalities.{is_txn-true}
use Rattle.roc_base.proofs.Ids.{none_rise}
use Rattle.roc_depgraph.specs.declared.known.KnownList.{KnownList}
use Rattle.roc_step.specs.Below.{is_ended}
use Rattle.roc_step.specs.Links.{without_links}
use Rattle.roc_step.proofs.WithoutLinks.{all_without_none}
use Rattle.roc_server_lists.specs.Inner.Trials.{links_settled}

-- what is listed in a list of one
in_list : (id t : TxnId) → is_listed is_txn (id ∷ []) t ≡ is_txn t id
in_list id t = elim (is_txn t id) as (λ b. nat_lt (cond b 0 1) 1 ≡ b) [ true ↦ refl | false ↦ refl ]

one_rises : (t : TxnId) → IsStrictlySortedBy txn_cmp (t ∷ [])
unfolding IsStrictlySortedBy
one_rises t = (tt, none_rise)

-- ---- the list

abbrev pub if_ended : (marks : List ℕ) → TxnId → List TxnId
if_ended marks id = if is_ended marks id then id ∷ [] else []

module _ (marks : List ℕ) (id : TxnId) (ids : List TxnId) (are : ids ≡ if_ended marks id) where
  -- exactly the transaction is listed, where it is ended
  pub one_listed : (t : TxnId) → is_listed is_txn ids t ≡ (is_txn t id && is_ended marks t)
  one_listed t = ap (λ ts. is_listed is_txn ts t) are ∙ go (is_ended marks id) refl (is_txn t id) refl
    where
      go : (b : Bool) → is_ended marks id ≡ b → (c : Bool) → is_txn t id ≡ c → is_listed is_txn (if b then id ∷ [] else []) t ≡ (c && is_ended marks t)
      go true e true f = in_list id t ∙ f ∙ sym (ap (is_ended marks) (is_txn-true t id f) ∙ e)
      go true e false f = in_list id t ∙ f
      go false e true f = sym (ap (is_ended marks) (is_txn-true t id f) ∙ e)
      go false e false f = refl

  pub at_most_one : length ids ≤ 1
  at_most_one = subst (λ ts. length ts ≤ 1) (sym are) (go (is_ended marks id))
    where
      go : (b : Bool) → length (if b then id ∷ [] else []) ≤ 1
      go true = omega arith
      go false = omega arith

  pub settled_rise : IsStrictlySortedBy txn_cmp ids
  settled_rise = subst (IsStrictlySortedBy txn_cmp) (sym are) (go (is_ended marks id))
    where
      go : (b : Bool) → IsStrictlySortedBy txn_cmp (if b then id ∷ [] else [])
      go true = one_rises id
      go false = none_rise

-- ---- its first, of at most one

pub only_first : (ids : List TxnId) (t : TxnId) → length ids ≤ 1 → Some t ≡ slice_get ids 0 → ids ≡ t ∷ []
only_first [] t h e = absurd (let f : Some t ≡ None = e in cc)
only_first (x ∷ []) t h e = let f : Some t ≡ Some x = e in let g : t ≡ x = cc in ap (λ v. v ∷ []) (sym g)
only_first (x ∷ y ∷ ids) t h e = absurd (omega arith)

pub no_first : (ids : List TxnId) → None ≡ slice_get ids 0 → ids ≡ []
no_first [] e = refl
no_first (x ∷ ids) e = absurd (let f : None ≡ Some x = e in cc)

-- ---- what is followed where the entries that name it are done

pub links_of_one : (links : List KnownList) (id : TxnId) → map (without_links (λ t. is_txn t id)) links ≡ links_settled links (id ∷ [])
links_of_one links id = λ i. map (without_links (λ t. sym (in_list id t) i)) links

pub links_of_none : (links : List KnownList) → links_settled links [] ≡ links
links_of_none links = all_without_none (is_listed is_txn []) links (λ d h. refl)
