-- Lists of which some entries are done: what was decided stays so
use Rattle.std.proofs.Common.{◌≡◌, Bool, true, false, cond, not, List, [], ◌∷◌, map, filter, Option, Some, None, unwrap_or, refl, subst, ◌∙◌}
use Rattle.std.proofs.lemmas.Bool.{false≢true}
use Rattle.std.specs.List.{list_any}
use Rattle.std.specs.Option.{option_map}
use Rattle.roc_sequence.proofs.Holds.{any_has, has_any}
use Rattle.roc_sequence.proofs.Members.{from_has_filter}
use Rattle.roc_base.specs.declared.id.TxnId.{TxnId}
use Rattle.roc_base.specs.TxnId.{is_txn}
use Rattle.roc_base.specs.Edge.{Dependency}
use Rattle.roc_depgraph.specs.declared.known.KnownList.{KnownList}
use Rattle.roc_depgraph.specs.Deps.{is_known, list_of, IsDecided, Precedes}
use Rattle.roc_depgraph.proofs.Chains.{weaker_chain}
use Rattle.roc_step.specs.Links.{without_links}
use Rattle.roc_step.proofs.SameIds.{ids_without, known_alike}

module _ (done : TxnId → Bool) (links : List KnownList) where
  abbrev pub marked : List KnownList
  marked = map (without_links done) links

  abbrev some_of : List Dependency → List Dependency
  some_of es = filter (λ d. not (done d.from)) es

  -- the same transactions are known
  pub marked_known : (t : TxnId) → is_known marked t ≡ is_known links t
  marked_known t = known_alike links marked (ids_without done links) t

  list_marked : (ks : List KnownList) (t : TxnId) → list_of t (map (without_links done) ks) ≡ option_map some_of (list_of t ks)
  list_marked [] t = refl
  list_marked (k ∷ ks) t = go (is_txn k.of t) (list_marked ks t)
    where
      go : (b : Bool) → list_of t (map (without_links done) ks) ≡ option_map some_of (list_of t ks) → cond b (Some (some_of k.edges)) (list_of t (map (without_links done) ks)) ≡ option_map some_of (cond b (Some k.edges) (list_of t ks))
      go true ih = refl
      go false ih = ih

  precedes_before : (u t : TxnId) → Precedes marked u t → Precedes links u t
  precedes_before u t h = go (list_of t links) (subst (λ (o : Option (List Dependency)). list_any (λ d. is_txn d.from u) (unwrap_or o []) ≡ true) (list_marked links t) h)
    where
      go : (o : Option (List Dependency)) → list_any (λ d. is_txn d.from u) (unwrap_or (option_map some_of o) []) ≡ true → list_any (λ d. is_txn d.from u) (unwrap_or o []) ≡ true
      go None k = absurd (false≢true k)
      go (Some es) k =
          let d = any_has (λ (d : Dependency). is_txn d.from u) (some_of es) k in
          has_any (λ (d : Dependency). is_txn d.from u) es d.0 (from_has_filter (λ (d : Dependency). not (done d.from)) d.0 es d.1).0 d.2

  pub still_decided : (t : TxnId) → IsDecided links t → IsDecided marked t
  still_decided t d = record {
    own = marked_known t ∙ d.own;
    ancestors = λ u p. marked_known u ∙ d.ancestors u (weaker_chain (Precedes marked) (Precedes links) precedes_before u t p);
  }
