-- Lists of which some are forgotten, where each entry that names one of these is done
use Rattle.std.proofs.Common.{◌≡◌, Bool, true, false, cond, not, List, [], ◌∷◌, map, filter, Option, Some, None, is_some, unwrap_or, refl, sym, ap, subst, ◌∙◌, ◌⊎◌, inl, inr}
use Rattle.std.proofs.lemmas.Bool.{false≢true, not-true, not_from_false}
use Rattle.std.specs.List.{list_any}
use Rattle.std.specs.Option.{option_map}
use Rattle.roc_sequence.proofs.Holds.{any_has, has_any}
use Rattle.roc_sequence.proofs.Members.{has_filter, from_has_filter}
use Rattle.roc_base.specs.declared.id.TxnId.{TxnId}
use Rattle.roc_base.specs.TxnId.{is_txn}
use Rattle.roc_base.specs.Equalities.{is_txn-true}
use Rattle.roc_base.specs.Edge.{Dependency}
use Rattle.roc_depgraph.specs.declared.known.KnownList.{KnownList}
use Rattle.roc_depgraph.specs.Deps.{list_of, IsKnown, IsDecided, Precedes}
use Rattle.roc_depgraph.specs.Reach.{Reaches, direct, through}
use Rattle.roc_depgraph.proofs.Chains.{closed_chain, weaker_chain}
use Rattle.roc_depgraph.proofs.Laws.{ancestor_decided}
use Rattle.roc_step.specs.Links.{without_links}

module _ (forgotten : TxnId → Bool) (links : List KnownList) where
  -- what is followed of the lists that are left
  abbrev left_of : List KnownList → List KnownList
  left_of ks = map (without_links forgotten) (filter (λ k. not (forgotten k.of)) ks)

  abbrev pub left : List KnownList
  left = left_of links

  abbrev some_of : List Dependency → List Dependency
  some_of es = filter (λ d. not (forgotten d.from)) es

  list_left : (ks : List KnownList) (t : TxnId) → list_of t (left_of ks) ≡ cond (forgotten t) None (option_map some_of (list_of t ks))
  list_left [] t = elim (forgotten t) as (λ b. None ≡ cond b None (option_map some_of None)) [ true ↦ refl | false ↦ refl ]
  list_left (k ∷ ks) t = go (forgotten k.of) refl (list_left ks t)
    where
      here : is_txn k.of t ≡ true → forgotten k.of ≡ forgotten t
      here e = ap forgotten (is_txn-true k.of t e)

      gone : forgotten k.of ≡ true → list_of t (left_of ks) ≡ cond (forgotten t) None (option_map some_of (list_of t ks)) → (c : Bool) → is_txn k.of t ≡ c
          → list_of t (left_of ks) ≡ cond (forgotten t) None (option_map some_of (cond c (Some k.edges) (list_of t ks)))
      gone e ih true f =
          let is : forgotten t ≡ true = sym (here f) ∙ e in
          ih ∙ ap (λ b. cond b None (option_map some_of (list_of t ks))) is ∙ sym (ap (λ b. cond b None (Some (some_of k.edges))) is)
      gone e ih false f = ih

      stays : forgotten k.of ≡ false → list_of t (left_of ks) ≡ cond (forgotten t) None (option_map some_of (list_of t ks)) → (c : Bool) → is_txn k.of t ≡ c
          → cond c (Some (some_of k.edges)) (list_of t (left_of ks)) ≡ cond (forgotten t) None (option_map some_of (cond c (Some k.edges) (list_of t ks)))
      stays e ih true f = sym (ap (λ b. cond b None (Some (some_of k.edges))) (sym (here f) ∙ e))
      stays e ih false f = ih

      go : (b : Bool) → forgotten k.of ≡ b → list_of t (left_of ks) ≡ cond (forgotten t) None (option_map some_of (list_of t ks))
          → list_of t (map (without_links forgotten) (cond (not b) (k ∷ filter (λ x. not (forgotten x.of)) ks) (filter (λ x. not (forgotten x.of)) ks))) ≡ cond (forgotten t) None (option_map some_of (list_of t (k ∷ ks)))
      go true e ih = gone e ih (is_txn k.of t) refl
      go false e ih = stays e ih (is_txn k.of t) refl

  -- ---- what is known, and what precedes what

  pub known_left : (t : TxnId) → IsKnown left t → IsKnown links t × (forgotten t ≡ false)
  known_left t h = go (forgotten t) refl (list_of t links) (ap is_some (sym (list_left links t)) ∙ h)
    where
      go : (b : Bool) → forgotten t ≡ b → (o : Option (List Dependency)) → is_some (cond b None (option_map some_of o)) ≡ true → (is_some o ≡ true) × (forgotten t ≡ false)
      go true e o k = absurd (false≢true k)
      go false e None k = absurd (false≢true k)
      go false e (Some es) k = (refl, e)

  pub left_known : (t : TxnId) → IsKnown links t → forgotten t ≡ false → IsKnown left t
  left_known t h f = ap is_some (list_left links t ∙ ap (λ b. cond b None (option_map some_of (list_of t links))) f) ∙ go (list_of t links) h
    where
      go : (o : Option (List Dependency)) → is_some o ≡ true → is_some (option_map some_of o) ≡ true
      go None k = absurd (false≢true k)
      go (Some es) k = refl

  pub precedes_left : (u t : TxnId) → Precedes left u t → Precedes links u t × (forgotten u ≡ false)
  precedes_left u t h = go (forgotten t) (list_of t links) (subst (λ (o : Option (List Dependency)). list_any (λ d. is_txn d.from u) (unwrap_or o []) ≡ true) (list_left links t) h)
    where
      go : (b : Bool) (o : Option (List Dependency)) → list_any (λ d. is_txn d.from u) (unwrap_or (cond b None (option_map some_of o)) []) ≡ true → (list_any (λ d. is_txn d.from u) (unwrap_or o []) ≡ true) × (forgotten u ≡ false)
      go true o k = absurd (false≢true k)
      go false None k = absurd (false≢true k)
      go false (Some es) k =
          let d = any_has (λ (d : Dependency). is_txn d.from u) (some_of es) k in
          let l = from_has_filter (λ (d : Dependency). not (forgotten d.from)) d.0 es d.1 in
          (has_any (λ (d : Dependency). is_txn d.from u) es d.0 l.0 d.2, ap forgotten (sym (is_txn-true d.0.from u d.2)) ∙ not-true (forgotten d.0.from) l.1)

  pub left_precedes : (u t : TxnId) → Precedes links u t → forgotten u ≡ false → forgotten t ≡ false → Precedes left u t
  left_precedes u t h f g =
      subst (λ (o : Option (List Dependency)). list_any (λ d. is_txn d.from u) (unwrap_or o []) ≡ true) (sym (list_left links t ∙ ap (λ b. cond b None (option_map some_of (list_of t links))) g)) (go (list_of t links) h)
    where
      go : (o : Option (List Dependency)) → list_any (λ d. is_txn d.from u) (unwrap_or o []) ≡ true → list_any (λ d. is_txn d.from u) (unwrap_or (option_map some_of o) []) ≡ true
      go None k = absurd (false≢true k)
      go (Some es) k =
          let d = any_has (λ (d : Dependency). is_txn d.from u) es k in
          has_any (λ (d : Dependency). is_txn d.from u) (some_of es) d.0
          (has_filter (λ (d : Dependency). not (forgotten d.from)) d.0 es d.1 (not_from_false (forgotten d.0.from) (ap forgotten (is_txn-true d.0.from u d.2) ∙ f))) d.2

  pub reaches_left : (u t : TxnId) → Reaches (Precedes left) u t → Reaches (Precedes links) u t
  reaches_left = weaker_chain (Precedes left) (Precedes links) (λ u t e. (precedes_left u t e).0)

  pub first_left : (u t : TxnId) → Reaches (Precedes left) u t → forgotten u ≡ false
  first_left u _ (direct e) = (precedes_left u _ e).1
  first_left u _ (through p e) = first_left u _ p

  -- ---- what is decided

  -- one that is decided and not forgotten stays so
  pub decided_left : (t : TxnId) → IsDecided links t → forgotten t ≡ false → IsDecided left t
  decided_left t d f = record {
    own = left_known t d.own f;
    ancestors = λ u p. left_known u (d.ancestors u (reaches_left u t p)) (first_left u t p);
  }

  -- and where all that are forgotten were decided, so was whatever is
  module _ (were : (u : TxnId) → forgotten u ≡ true → IsDecided links u) where
    abbrev IsEither : TxnId → Type 0
    IsEither t = IsDecided left t ⊎ IsDecided links t

    either_closed : (u t : TxnId) → IsEither t → Precedes links u t → IsEither u
    either_closed u t (inr d) e = inr (ancestor_decided links u t d (direct e))
    either_closed u t (inl d) e = go (forgotten u) refl
      where
        go : (b : Bool) → forgotten u ≡ b → IsEither u
        go true f = inr (were u f)
        go false f = inl (ancestor_decided left u t d (direct (left_precedes u t e f (known_left t d.own).1)))

    either_known : (t : TxnId) → IsEither t → IsKnown links t
    either_known t (inl d) = (known_left t d.own).0
    either_known t (inr d) = d.own

    pub left_decided : (t : TxnId) → IsDecided left t → IsDecided links t × (forgotten t ≡ false)
    left_decided t d =
        (record { own = (known_left t d.own).0; ancestors = λ u p. either_known u (closed_chain (Precedes links) IsEither either_closed u t (inl d) p) }, (known_left t d.own).1)
