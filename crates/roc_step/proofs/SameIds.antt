-- Lists of the same transactions, in the same order
use Rattle.std.proofs.Common.{◌≡◌, ℕ, zero, suc, ◌<◌, Bool, true, false, cond, List, [], ◌∷◌, ◌++◌, length, get_or, map, filter, Option, Some, None, is_some, refl, sym, ap, subst, ◌∙◌, arith}
use Rattle.std.proofs.lemmas.List.{map-append}
use Rattle.roc_base.specs.declared.id.TxnId.{TxnId}
use Rattle.roc_base.specs.TxnId.{is_txn}
use Rattle.roc_base.specs.Edge.{Dependency}
use Rattle.roc_depgraph.specs.declared.known.KnownList.{KnownList}
use Rattle.roc_depgraph.specs.Deps.{list_of, is_known}
use Rattle.roc_step.specs.Learning.{AreLearnable}
use Rattle.roc_step.specs.Links.{without_links}

abbrev pub ids_of : List KnownList → List TxnId
ids_of ks = map (λ k. k.of) ks

pub ids_more : (known links : List KnownList) (k l : KnownList) → ids_of links ≡ ids_of known → l.of ≡ k.of → ids_of (links ++ l ∷ []) ≡ ids_of (known ++ k ∷ [])
ids_more known links k l e f = map-append (λ (x : KnownList). x.of) links (l ∷ []) ∙ (λ i. e i ++ f i ∷ []) ∙ sym (map-append (λ (x : KnownList). x.of) known (k ∷ []))

-- entries that are left out change no id
pub ids_without : (passes : TxnId → Bool) (ks : List KnownList) → ids_of (map (without_links passes) ks) ≡ ids_of ks
ids_without passes [] = refl
ids_without passes (k ∷ ks) = ap (λ us. k.of ∷ us) (ids_without passes ks)

-- a test of the id leaves of the lists those of the ids that it leaves
pub ids_some : (stays : TxnId → Bool) (ks : List KnownList) → ids_of (filter (λ k. stays k.of) ks) ≡ filter stays (ids_of ks)
ids_some stays [] = refl
ids_some stays (k ∷ ks) = elim (stays k.of) as (λ b. ids_of (cond b (k ∷ filter (λ x. stays x.of) ks) (filter (λ x. stays x.of) ks)) ≡ cond b (k.of ∷ filter stays (ids_of ks)) (filter stays (ids_of ks))) [
  | true ↦ ap (λ us. k.of ∷ us) (ids_some stays ks)
  | false ↦ ids_some stays ks
]

-- the two at a place are of one transaction
pub same_at : (known links : List KnownList) (at : ℕ) (none : KnownList) → ids_of links ≡ ids_of known → at < length known → (get_or links at none).of ≡ (get_or known at none).of
same_at [] links at none e h = absurd (omega arith)
same_at (k ∷ ks) [] at none e h = absurd (cc)
same_at (k ∷ ks) (l ∷ ls) zero none e h = cc
same_at (k ∷ ks) (l ∷ ls) (suc at) none e h = let rest : ids_of ls ≡ ids_of ks = cc in same_at ks ls at none rest (omega arith)

pub as_many : (known links : List KnownList) → ids_of links ≡ ids_of known → length links ≡ length known
as_many [] [] e = refl
as_many [] (l ∷ ls) e = absurd (cc)
as_many (k ∷ ks) [] e = absurd (cc)
as_many (k ∷ ks) (l ∷ ls) e = let rest : ids_of ls ≡ ids_of ks = cc in ap suc (as_many ks ls rest)

-- what is known of the one is known of the other
pub known_alike : (known links : List KnownList) → ids_of links ≡ ids_of known → (t : TxnId) → is_known links t ≡ is_known known t
known_alike [] [] e t = refl
known_alike [] (l ∷ ls) e t = absurd (cc)
known_alike (k ∷ ks) [] e t = absurd (cc)
known_alike (k ∷ ks) (l ∷ ls) e t =
    let first : l.of ≡ k.of = cc in
    let rest : ids_of ls ≡ ids_of ks = cc in
    ap (λ (v : TxnId). is_some (cond (is_txn v t) (Some l.edges) (list_of t ls))) first ∙ go (is_txn k.of t) (known_alike ks ls rest t)
  where
    go : (b : Bool) → is_known ls t ≡ is_known ks t → is_some (cond b (Some l.edges) (list_of t ls)) ≡ is_some (cond b (Some k.edges) (list_of t ks))
    go true ih = refl
    go false ih = ih

none_is : (o : Option (List Dependency)) → is_some o ≡ false → o ≡ None
none_is None e = refl
none_is (Some es) e = absurd (cc)

pub unknown_alike : (known links : List KnownList) → ids_of links ≡ ids_of known → (t : TxnId) → list_of t known ≡ None → list_of t links ≡ None
unknown_alike known links e t h = none_is (list_of t links) (known_alike known links e t ∙ ap is_some h)

-- and what can be learnt behind the one can be behind the other
pub learnable_alike : (known links news linked : List KnownList) → ids_of links ≡ ids_of known → ids_of linked ≡ ids_of news → AreLearnable known news → AreLearnable links linked
learnable_alike known links [] [] e f h = tt
learnable_alike known links [] (l ∷ linked) e f h = absurd (cc)
learnable_alike known links (n ∷ news) [] e f h = absurd (cc)
learnable_alike known links (n ∷ news) (l ∷ linked) e f h =
    let first : l.of ≡ n.of = cc in
    let rest : ids_of linked ≡ ids_of news = cc in (
      subst (λ v. list_of v links ≡ None) (sym first) (unknown_alike known links e n.of h.0),
      learnable_alike (known ++ n ∷ []) (links ++ l ∷ []) news linked (ids_more known links n l e first) rest h.1,
    )
