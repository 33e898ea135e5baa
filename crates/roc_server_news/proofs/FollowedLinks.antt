-- What is followed of lists is kept as lists are learnt, marked and forgotten, and what is known of it
use Rattle.std.proofs.Common.{◌≡◌, Bool, true, false, cond, not, List, [], ◌∷◌, ◌++◌, map, filter, refl, sym, ap, ◌∙◌, inl, inr}
use Rattle.std.proofs.lemmas.Bool.{false≢true, not_from_false}
use Rattle.roc_sequence.specs.Lists.{Has}
use Rattle.roc_sequence.proofs.Members.{has_append, has_left, has_right, has_filter, from_has_filter}
use Rattle.roc_base.specs.declared.id.TxnId.{TxnId}
use Rattle.roc_base.specs.Edge.{Dependency}
use Rattle.roc_depgraph.specs.declared.known.KnownList.{KnownList}
use Rattle.roc_depgraph.specs.Deps.{is_known}
use Rattle.roc_step.specs.Learning.{AreLearnable}
use Rattle.roc_step.specs.Links.{without_links, all_entries, IsLinkOf, AreLinksOf}
use Rattle.roc_step.proofs.SameIds.{ids_of, ids_without, known_alike, learnable_alike}

not_ended : (ended p : TxnId → Bool) → ((u : TxnId) → p u ≡ true → ended u ≡ true) → (u : TxnId) → ended u ≡ false → p u ≡ false
not_ended ended p done u n = go (p u) refl
  where
    go : (b : Bool) → p u ≡ b → b ≡ false
    go true e = absurd (false≢true (sym n ∙ done u e))
    go false e = refl

module _ (ended : TxnId → Bool) where
  link_itself : (k : KnownList) → IsLinkOf ended k k
  link_itself k = record { of = refl; within = λ d h. h; followed = λ d h n. h }

  -- ---- what keeps it

  module _ (p : TxnId → Bool) (done : (u : TxnId) → p u ≡ true → ended u ≡ true) where
    link_without : (k l : KnownList) → IsLinkOf ended k l → IsLinkOf ended k (without_links p l)
    link_without k l is = record {
      of = is.of;
      within = λ d h. is.within d (from_has_filter (λ (x : Dependency). not (p x.from)) d l.edges h).0;
      followed = λ d h n. has_filter (λ (x : Dependency). not (p x.from)) d l.edges (is.followed d h n) (not_from_false (p d.from) (not_ended ended p done d.from n));
    }

    -- entries that name ended ones are marked
    pub links_marked : (known links : List KnownList) → AreLinksOf ended known links → AreLinksOf ended known (map (without_links p) links)
    links_marked [] [] are = tt
    links_marked [] (l ∷ ls) are = absurd are
    links_marked (k ∷ ks) [] are = absurd are
    links_marked (k ∷ ks) (l ∷ ls) are = (link_without k l are.0, links_marked ks ls are.1)

    -- lists are learnt
    pub links_learnt : (known links news : List KnownList) → AreLinksOf ended known links → AreLinksOf ended (known ++ news) (links ++ map (without_links p) news)
    links_learnt [] [] news are = links_marked news news (own news)
      where
        own : (ks : List KnownList) → AreLinksOf ended ks ks
        own [] = tt
        own (k ∷ ks) = (link_itself k, own ks)
    links_learnt [] (l ∷ ls) news are = absurd are
    links_learnt (k ∷ ks) [] news are = absurd are
    links_learnt (k ∷ ks) (l ∷ ls) news are = (are.0, links_learnt ks ls news are.1)

    -- only lists of some transactions stay, and entries that name ended ones are marked
    pub links_left : (stays : TxnId → Bool) (known links : List KnownList) → AreLinksOf ended known links
        → AreLinksOf ended (filter (λ k. stays k.of) known) (map (without_links p) (filter (λ k. stays k.of) links))
    links_left stays [] [] are = tt
    links_left stays [] (l ∷ ls) are = absurd are
    links_left stays (k ∷ ks) [] are = absurd are
    links_left stays (k ∷ ks) (l ∷ ls) are = go (stays k.of) (stays l.of) (ap stays are.0.of) (links_left stays ks ls are.1)
      where
        some : List KnownList → List KnownList
        some xs = filter (λ x. stays x.of) xs

        go : (b c : Bool) → c ≡ b → AreLinksOf ended (some ks) (map (without_links p) (some ls)) → AreLinksOf ended (cond b (k ∷ some ks) (some ks)) (map (without_links p) (cond c (l ∷ some ls) (some ls)))
        go true true e ih = (link_without k l are.0, ih)
        go true false e ih = absurd (false≢true e)
        go false true e ih = absurd (false≢true (sym e))
        go false false e ih = ih

  -- more is ended
  pub links_later : (later : TxnId → Bool) → ((u : TxnId) → ended u ≡ true → later u ≡ true) → (known links : List KnownList) → AreLinksOf ended known links → AreLinksOf later known links
  links_later later more [] [] are = tt
  links_later later more [] (l ∷ ls) are = absurd are
  links_later later more (k ∷ ks) [] are = absurd are
  links_later later more (k ∷ ks) (l ∷ ls) are =
      (record { of = are.0.of; within = are.0.within; followed = λ d h n. are.0.followed d h (not_ended later ended more d.from n) }, links_later later more ks ls are.1)

  -- ---- what is known of it

  pub links_ids : (known links : List KnownList) → AreLinksOf ended known links → ids_of links ≡ ids_of known
  links_ids [] [] are = refl
  links_ids [] (l ∷ ls) are = absurd are
  links_ids (k ∷ ks) [] are = absurd are
  links_ids (k ∷ ks) (l ∷ ls) are = λ i. are.0.of i ∷ links_ids ks ls are.1 i

  pub links_known : (known links : List KnownList) → AreLinksOf ended known links → (t : TxnId) → is_known links t ≡ is_known known t
  links_known known links are = known_alike known links (links_ids known links are)

  pub links_learnable : (p : TxnId → Bool) (known links news : List KnownList) → AreLinksOf ended known links → AreLearnable known news → AreLearnable links (map (without_links p) news)
  links_learnable p known links news are = learnable_alike known links news (map (without_links p) news) (links_ids known links are) (ids_without p news)

  -- entries that name no ended one are followed
  pub followed_among_all : (known links : List KnownList) → AreLinksOf ended known links → (d : Dependency) → Has d (all_entries known) → ended d.from ≡ false → Has d (all_entries links)
  followed_among_all [] [] are d h n = h
  followed_among_all [] (l ∷ ls) are d h n = absurd are
  followed_among_all (k ∷ ks) [] are d h n = absurd are
  followed_among_all (k ∷ ks) (l ∷ ls) are d h n =
      elim (has_append d k.edges (all_entries ks) h) [
        | inl m ↦ has_left d l.edges (all_entries ls) (are.0.followed d m n)
        | inr m ↦ has_right d l.edges (all_entries ls) (followed_among_all ks ls are.1 d m n)
      ]
