-- What is followed of known lists: all entries but those that name what is done
use Rattle.std.proofs.Common.{◌≡◌, Bool, true, false, cond, not, List, [], ◌∷◌, ◌++◌, map, filter, Some, is_some, unwrap_or, refl, sym, ap, ◌∙◌, ◌⊎◌, inl, inr}
use Rattle.std.proofs.lemmas.Bool.{false≢true, not_from_false}
use Rattle.roc_sequence.specs.Lists.{Has}
use Rattle.roc_sequence.proofs.Holds.{any_has, has_any}
use Rattle.roc_sequence.proofs.Members.{has_append, has_left, has_right, has_filter, from_has_filter}
use Rattle.roc_base.specs.declared.id.TxnId.{TxnId}
use Rattle.roc_base.specs.TxnId.{is_txn}
use Rattle.roc_base.specs.Edge.{Dependency}
use Rattle.roc_depgraph.specs.declared.known.KnownList.{KnownList}
use Rattle.roc_depgraph.specs.Deps.{list_of, is_known, IsKnown, entries_of, Precedes}
use Rattle.roc_step.specs.Links.{without_links, all_entries}

-- what is followed of a known list: some of its entries, and each other one names what is done
pub record IsFollowedOf (Done : TxnId → Type 0) (known link : KnownList) : Type 0 where
  pub of : link.of ≡ known.of
  pub within : (d : Dependency) → Has d link.edges → Has d known.edges
  pub followed : (d : Dependency) → Has d known.edges → Has d link.edges ⊎ Done d.from

-- what is followed of each of these lists, at the place of the list
abbrev pub AreFollowedOf : (Done : TxnId → Type 0) → (known links : List KnownList) → Type 0
AreFollowedOf Done [] [] = Unit {0}
AreFollowedOf Done [] (l ∷ ls) = ⊥
AreFollowedOf Done (k ∷ ks) [] = ⊥
AreFollowedOf Done (k ∷ ks) (l ∷ ls) = IsFollowedOf Done k l × AreFollowedOf Done ks ls

module _ (Done : TxnId → Type 0) where
  -- ---- what keeps it

  -- more is done
  pub followed_later : (Later : TxnId → Type 0) → ((u : TxnId) → Done u → Later u) → (known links : List KnownList) → AreFollowedOf Done known links → AreFollowedOf Later known links
  followed_later Later more [] [] are = tt
  followed_later Later more [] (l ∷ ls) are = absurd are
  followed_later Later more (k ∷ ks) [] are = absurd are
  followed_later Later more (k ∷ ks) (l ∷ ls) are =
      (record { of = are.0.of; within = are.0.within; followed = λ d h. elim (are.0.followed d h) [ inl m ↦ inl m | inr z ↦ inr (more d.from z) ] }, followed_later Later more ks ls are.1)

  followed_itself : (ks : List KnownList) → AreFollowedOf Done ks ks
  followed_itself [] = tt
  followed_itself (k ∷ ks) = (record { of = refl; within = λ d h. h; followed = λ d h. inl h }, followed_itself ks)

  -- entries that name what is done are left out
  module _ (p : TxnId → Bool) (done : (u : TxnId) → p u ≡ true → Done u) where
    without_more : (k l : KnownList) → IsFollowedOf Done k l → IsFollowedOf Done k (without_links p l)
    without_more k l is = record {
      of = is.of;
      within = λ d h. is.within d (from_has_filter (λ (x : Dependency). not (p x.from)) d l.edges h).0;
      followed = λ d h. elim (is.followed d h) [ inl m ↦ go d m (p d.from) refl | inr z ↦ inr z ];
    }
      where
        go : (d : Dependency) → Has d l.edges → (b : Bool) → p d.from ≡ b → Has d (without_links p l).edges ⊎ Done d.from
        go d m true e = inr (done d.from e)
        go d m false e = inl (has_filter (λ (x : Dependency). not (p x.from)) d l.edges m (not_from_false (p d.from) e))

    pub followed_marked : (known links : List KnownList) → AreFollowedOf Done known links → AreFollowedOf Done known (map (without_links p) links)
    followed_marked [] [] are = tt
    followed_marked [] (l ∷ ls) are = absurd are
    followed_marked (k ∷ ks) [] are = absurd are
    followed_marked (k ∷ ks) (l ∷ ls) are = (without_more k l are.0, followed_marked ks ls are.1)

    -- lists are learnt
    pub followed_learnt : (known links news : List KnownList) → AreFollowedOf Done known links → AreFollowedOf Done (known ++ news) (links ++ map (without_links p) news)
    followed_learnt [] [] news are = followed_marked news news (followed_itself news)
    followed_learnt [] (l ∷ ls) news are = absurd are
    followed_learnt (k ∷ ks) [] news are = absurd are
    followed_learnt (k ∷ ks) (l ∷ ls) news are = (are.0, followed_learnt ks ls news are.1)

    -- only lists of some transactions stay
    pub followed_left : (stays : TxnId → Bool) (known links : List KnownList) → AreFollowedOf Done known links → AreFollowedOf Done (filter (λ k. stays k.of) known) (map (without_links p) (filter (λ k. stays k.of) links))
    followed_left stays [] [] are = tt
    followed_left stays [] (l ∷ ls) are = absurd are
    followed_left stays (k ∷ ks) [] are = absurd are
    followed_left stays (k ∷ ks) (l ∷ ls) are = go (stays k.of) (stays l.of) (ap stays are.0.of) (followed_left stays ks ls are.1)
      where
        some : List KnownList → List KnownList
        some xs = filter (λ x. stays x.of) xs

        go : (b c : Bool) → c ≡ b → AreFollowedOf Done (some ks) (map (without_links p) (some ls)) → AreFollowedOf Done (cond b (k ∷ some ks) (some ks)) (map (without_links p) (cond c (l ∷ some ls) (some ls)))
        go true true e ih = (without_more k l are.0, ih)
        go true false e ih = absurd (false≢true e)
        go false true e ih = absurd (false≢true (sym e))
        go false false e ih = ih

  -- ---- what follows from it

  pub known_alike : (known links : List KnownList) → AreFollowedOf Done known links → (t : TxnId) → is_known links t ≡ is_known known t
  known_alike [] [] are t = refl
  known_alike [] (l ∷ ls) are t = absurd are
  known_alike (k ∷ ks) [] are t = absurd are
  known_alike (k ∷ ks) (l ∷ ls) are t = ap (λ (v : TxnId). is_some (cond (is_txn v t) (Some l.edges) (list_of t ls))) are.0.of ∙ go (is_txn k.of t) (known_alike ks ls are.1 t)
    where
      go : (b : Bool) → is_known ls t ≡ is_known ks t → is_some (cond b (Some l.edges) (list_of t ls)) ≡ is_some (cond b (Some k.edges) (list_of t ks))
      go true ih = refl
      go false ih = ih

  -- entries that are followed are entries, and the others name what is done
  pub link_entry : (known links : List KnownList) → AreFollowedOf Done known links → (t : TxnId) (d : Dependency) → Has d (entries_of links t) → Has d (entries_of known t)
  link_entry [] [] are t d h = h
  link_entry [] (l ∷ ls) are t d h = absurd are
  link_entry (k ∷ ks) [] are t d h = absurd are
  link_entry (k ∷ ks) (l ∷ ls) are t d h = go (is_txn k.of t) (is_txn l.of t) (ap (λ (v : TxnId). is_txn v t) are.0.of) h (link_entry ks ls are.1 t d)
    where
      go : (b c : Bool) → c ≡ b → Has d (unwrap_or (cond c (Some l.edges) (list_of t ls)) []) → (Has d (entries_of ls t) → Has d (entries_of ks t)) → Has d (unwrap_or (cond b (Some k.edges) (list_of t ks)) [])
      go true true e m ih = are.0.within d m
      go true false e m ih = absurd (false≢true e)
      go false true e m ih = absurd (false≢true (sym e))
      go false false e m ih = ih m

  pub entry_followed : (known links : List KnownList) → AreFollowedOf Done known links → (t : TxnId) (d : Dependency) → Has d (entries_of known t) → Has d (entries_of links t) ⊎ Done d.from
  entry_followed [] [] are t d h = inl h
  entry_followed [] (l ∷ ls) are t d h = absurd are
  entry_followed (k ∷ ks) [] are t d h = absurd are
  entry_followed (k ∷ ks) (l ∷ ls) are t d h = go (is_txn k.of t) (is_txn l.of t) (ap (λ (v : TxnId). is_txn v t) are.0.of) h (entry_followed ks ls are.1 t d)
    where
      go : (b c : Bool) → c ≡ b → Has d (unwrap_or (cond b (Some k.edges) (list_of t ks)) []) → (Has d (entries_of ks t) → Has d (entries_of ls t) ⊎ Done d.from) → Has d (unwrap_or (cond c (Some l.edges) (list_of t ls)) []) ⊎ Done d.from
      go true true e m ih = are.0.followed d m
      go true false e m ih = absurd (false≢true e)
      go false true e m ih = absurd (false≢true (sym e))
      go false false e m ih = ih m

  pub among_known : (known links : List KnownList) → AreFollowedOf Done known links → (d : Dependency) → Has d (all_entries links) → Has d (all_entries known)
  among_known [] [] are d h = h
  among_known [] (l ∷ ls) are d h = absurd are
  among_known (k ∷ ks) [] are d h = absurd are
  among_known (k ∷ ks) (l ∷ ls) are d h = elim (has_append d l.edges (all_entries ls) h) [
    | inl m ↦ has_left d k.edges (all_entries ks) (are.0.within d m)
    | inr m ↦ has_right d k.edges (all_entries ks) (among_known ks ls are.1 d m)
  ]

-- ---- lists of which some entries are left out

module _ (p : TxnId → Bool) (ks : List KnownList) where
  abbrev Out : TxnId → Type 0
  Out u = p u ≡ true

  abbrev left : List KnownList
  left = map (without_links p) ks

  marks : AreFollowedOf Out ks left
  marks = followed_marked Out p (λ u e. e) ks ks (followed_itself Out ks)

  pub known_marked : (t : TxnId) → IsKnown ks t → IsKnown left t
  known_marked t h = known_alike Out ks left marks t ∙ h

  pub precedes_marked : (u t : TxnId) → Precedes left u t → Precedes ks u t
  precedes_marked u t h =
      let a = any_has (λ (d : Dependency). is_txn d.from u) (entries_of left t) h in
      has_any (λ (d : Dependency). is_txn d.from u) (entries_of ks t) a.0 (link_entry Out ks left marks t a.0 a.1) a.2
