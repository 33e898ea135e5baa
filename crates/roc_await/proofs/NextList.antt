-- What is known of the last lists, of which the next one is to be taken in
use Rattle.std.proofs.Common.{◌≡◌, ◌≢◌, Bool, true, false, cond, List, [], ◌∷◌, ◌++◌, map, Some, None, refl, sym, ap, subst, ◌∙◌, inl, inr, arith}
use Rattle.std.proofs.lemmas.Bool.{cond-true, cond-false}
use Rattle.roc_sequence.specs.Places.{IsListed}
use Rattle.roc_sequence.proofs.Places.{listed_head, listed_tail, listed_cases}
use Rattle.roc_base.specs.declared.id.TxnId.{TxnId}
use Rattle.roc_base.specs.TxnId.{is_txn}
use Rattle.roc_base.specs.Equalities.{is_txn-true, is_txn-same}
use Rattle.roc_depgraph.specs.declared.known.KnownList.{KnownList}
use Rattle.roc_depgraph.specs.Deps.{list_of}
use Rattle.roc_await.specs.declared.lack.Lack.{Lack}
use Rattle.roc_step.specs.Learning.{AreLearnable}
use Rattle.roc_await.specs.Inner.Taken.{AreLacksTaken}

-- ---- in two lists, one behind the other

abbrev pub ofs : List KnownList → List TxnId
ofs ks = map (λ k. k.of) ks

list_behind : (known ks : List KnownList) (t : TxnId) → list_of t known ≡ None → list_of t (known ++ ks) ≡ list_of t ks
list_behind [] ks t h = refl
list_behind (x ∷ xs) ks t h = go (is_txn x.of t) h (list_behind xs ks t)
  where
    go : (b : Bool) → cond b (Some x.edges) (list_of t xs) ≡ None → (list_of t xs ≡ None → list_of t (xs ++ ks) ≡ list_of t ks) → cond b (Some x.edges) (list_of t (xs ++ ks)) ≡ list_of t ks
    go true e ih = absurd (cc)
    go false e ih = ih e

list_front : (known ks : List KnownList) (t : TxnId) → list_of t ks ≡ None → list_of t (known ++ ks) ≡ list_of t known
list_front [] ks t h = h
list_front (x ∷ xs) ks t h = ap (cond (is_txn x.of t) (Some x.edges)) (list_front xs ks t h)

none_before : (known ks : List KnownList) (t : TxnId) → list_of t (known ++ ks) ≡ None → list_of t known ≡ None
none_before [] ks t h = refl
none_before (x ∷ xs) ks t h = go (is_txn x.of t) h (none_before xs ks t)
  where
    go : (b : Bool) → cond b (Some x.edges) (list_of t (xs ++ ks)) ≡ None → (list_of t (xs ++ ks) ≡ None → list_of t xs ≡ None) → cond b (Some x.edges) (list_of t xs) ≡ None
    go true e ih = absurd (cc)
    go false e ih = ih e

none_unlisted : (ks : List KnownList) (t : TxnId) → ¬ IsListed is_txn (ofs ks) t → list_of t ks ≡ None
none_unlisted [] t n = refl
none_unlisted (k ∷ ks) t n = go (is_txn k.of t) refl (none_unlisted ks t)
  where
    go : (b : Bool) → is_txn k.of t ≡ b → ((¬ IsListed is_txn (ofs ks) t) → list_of t ks ≡ None) → list_of t (k ∷ ks) ≡ None
    go true e ih = absurd (n (subst (IsListed is_txn (ofs (k ∷ ks))) (is_txn-true k.of t e) (listed_head is_txn k.of (ofs ks) (is_txn-same k.of))))
    go false e ih = cond-false (is_txn k.of t) (Some k.edges) (list_of t ks) e ∙ ih (λ l. n (listed_tail is_txn k.of (ofs ks) t l))

-- of none of the new ones a list was known
new_unknown : (known news : List KnownList) → AreLearnable known news → (t : TxnId) → IsListed is_txn (ofs news) t → list_of t known ≡ None
new_unknown known [] h t l = absurd (omega arith)
new_unknown known (k ∷ ks) h t l =
    elim (listed_cases is_txn k.of (ofs ks) t l) [
      | inl e ↦ subst (λ x. list_of x known ≡ None) (sym (is_txn-true t k.of e)) h.0
      | inr r ↦ none_before known (k ∷ []) t (new_unknown (known ++ k ∷ []) ks h.1 t r.1)
    ]

-- ---- the next one

pub record IsNext (known all : List KnownList) (u : TxnId) (later : List TxnId) : Type 0 where
  pub none : list_of u known ≡ None
  pub later_none : (t : TxnId) → IsListed is_txn later t → list_of t known ≡ None
  pub others : (t : TxnId) → t ≢ u → ¬ IsListed is_txn later t → list_of t all ≡ list_of t known

module _ (before all : List KnownList) (u : TxnId) (later : List TxnId) (lacks : List Lack) (taken : AreLacksTaken before all (u ∷ later) lacks) where
  in_news : (t : TxnId) → IsListed is_txn (u ∷ later) t → IsListed is_txn (ofs taken.news) t
  in_news t l = subst (λ ids. IsListed is_txn ids t) taken.left_are l

  pub next_is : IsNext taken.known all u later
  next_is = record {
    none = new_unknown taken.known taken.news taken.learnable u (in_news u (listed_head is_txn u later (is_txn-same u)));
    later_none = λ t l. new_unknown taken.known taken.news taken.learnable t (in_news t (listed_tail is_txn u later t l));
    others = λ t other n. ap (list_of t) taken.all_are ∙ list_front taken.known taken.news t (none_unlisted taken.news t (λ l. never t other n l));
  }
    where
      never : (t : TxnId) → t ≢ u → ¬ IsListed is_txn later t → IsListed is_txn (ofs taken.news) t → ⊥
      never t other n l = elim (listed_cases is_txn u later t (subst (λ ids. IsListed is_txn ids t) (sym taken.left_are) l)) [
        | inl e ↦ other (is_txn-true t u e)
        | inr r ↦ n r.1
      ]

  -- the list that the first of the new ones is
  pub record IsFirstNew : Type 0 where
    pub first : KnownList
    pub behind : List KnownList
    pub all_are : all ≡ taken.known ++ first ∷ behind
    pub of : u ≡ first.of
    pub later_are : later ≡ ofs behind
    pub learnable : AreLearnable (taken.known ++ first ∷ []) behind
    pub list : list_of u all ≡ Some first.edges

  pub first_new : IsFirstNew
  first_new = go taken.news taken.all_are taken.left_are taken.learnable
    where
      go : (news : List KnownList) → all ≡ taken.known ++ news → u ∷ later ≡ ofs news → AreLearnable taken.known news → IsFirstNew
      go [] a l h = absurd (cc)
      go (k ∷ ks) a l h =
          let of : u ≡ k.of = cc in
          let later_are : later ≡ ofs ks = cc in
          record {
            first = k;
            behind = ks;
            all_are = a;
            of = of;
            later_are = later_are;
            learnable = h.1;
            list = ap (list_of u) a ∙ list_behind taken.known (k ∷ ks) u next_is.none ∙ cond-true (is_txn k.of u) (Some k.edges) (list_of u ks) (subst (λ x. is_txn k.of x ≡ true) (sym of) (is_txn-same k.of));
          }
