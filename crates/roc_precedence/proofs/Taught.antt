-- Lists that are taught one after another
use Rattle.std.proofs.Common.{◌≡◌, ℕ, ◌+◌, ◌<◌, ◌++◌, Bool, true, false, cond, ◌||◌, List, [], ◌∷◌, length, map, take, get_or, Option, Some, None, unwrap_or, refl, sym, ap, subst, ◌∙◌, inl, inr, arith}
use Rattle.std.proofs.lemmas.List.{take_more}
use Rattle.std.specs.List.{list_any}
use Rattle.std.specs.Option.{is_some}
use Rattle.std.specs.List.Sorted.{IsStrictlySortedBy}
use Rattle.roc_sequence.specs.Lists.{Has}
use Rattle.roc_sequence.specs.Places.{IsListed}
use Rattle.roc_sequence.proofs.Appended.{listed_front, listed_behind, listed_either}
use Rattle.roc_sequence.proofs.Holds.{any_has, has_any}
use Rattle.roc_sequence.proofs.Members.{has_map, from_has_map}
use Rattle.roc_base.specs.declared.id.TxnId.{TxnId}
use Rattle.roc_base.specs.TxnId.{is_txn, txn_cmp}
use Rattle.roc_base.specs.Equalities.{is_txn-true, is_txn-same}
use Rattle.roc_base.proofs.Ids.{is_txn-ne}
use Rattle.roc_base.specs.Edge.{Dependency}
use Rattle.roc_base.specs.Edges.{entry_at, all_of, joined_with}
use Rattle.roc_depgraph.specs.declared.known.KnownList.{KnownList}
use Rattle.roc_depgraph.specs.declared.learnt.Learnt.{Learnt}
use Rattle.roc_depgraph.specs.declared.learnt.Learnt.TheVariants.{New, Repeat, Differs}
use Rattle.roc_depgraph.specs.Deps.{list_of, learnt}
use Rattle.roc_depgraph.specs.Learnt.{Learns}
use Rattle.roc_depgraph.specs.Visits.{IsNamed}
use Rattle.roc_depgraph.proofs.Laws.{list_of-learnt, list_of-learnt_other}
use Rattle.roc_depgraph.proofs.Listed.{listed_one, in_one}
use Rattle.roc_component.proofs.ListsWithin.{new_at, once_from_rising}
use Rattle.roc_precedence.specs.declared.pair.Pair.{Pair}
use Rattle.roc_precedence.specs.Pairs.{IsPaired}
use Rattle.roc_precedence.specs.Inner.Lists.{AreListsFor, IsListFor, IsRunOf, SayTheSame, entry_of, precedes}

-- ---- the entries of a run

any_found : (u : TxnId) (es : List Dependency) → list_any (λ d. is_txn d.from u) es ≡ is_some (entry_at u es)
any_found u [] = refl
any_found u (e ∷ es) = go (is_txn e.from u) (any_found u es)
  where
    go : (b : Bool) → list_any (λ d. is_txn d.from u) es ≡ is_some (entry_at u es) → (b || list_any (λ d. is_txn d.from u) es) ≡ is_some (cond b (Some e) (entry_at u es))
    go true ih = refl
    go false ih = ih

pub one_found : (known : List KnownList) (u t : TxnId) (list : List Dependency) (found : Option Dependency) (b : Bool) → b ≡ is_some found → found ≡ entry_at u list → Some list ≡ list_of t known → b ≡ precedes known u t
one_found known u t list found b e f g =
    e ∙ (ap is_some f ∙ (sym (any_found u list) ∙ ap (λ (o : Option (List Dependency)). list_any (λ d. is_txn d.from u) (unwrap_or o [])) g))

any_said : (u : TxnId) (es : List Dependency) → list_any (λ d. is_txn d.from u) es ≡ is_some (all_of u es)
any_said u [] = refl
any_said u (e ∷ es) = go (is_txn e.from u) (any_said u es)
  where
    go : (b : Bool) → list_any (λ d. is_txn d.from u) es ≡ is_some (all_of u es) → (b || list_any (λ d. is_txn d.from u) es) ≡ is_some (cond b (Some (joined_with e (all_of u es))) (all_of u es))
    go true ih = refl
    go false ih = ih

module _ (t : TxnId) (sorted run : List Pair) (is : IsRunOf t sorted run) where
  named_from : (u : TxnId) → IsNamed (map entry_of run) u → IsPaired sorted u t
  named_from u h =
      let d = any_has (λ (d : Dependency). is_txn d.from u) (map entry_of run) h in
      let p = from_has_map entry_of d.0 run d.1 in
      let f = is.from p.0 p.1 in
      let e : p.0.earlier ≡ u = sym (ap (λ (d : Dependency). d.from) p.2) ∙ is_txn-true d.0.from u d.2 in
      subst (λ (v : Pair). Has v sorted) (λ i. record { later = f.1 i; earlier = e i }) f.0

  named_to : (u : TxnId) → IsPaired sorted u t → IsNamed (map entry_of run) u
  named_to u h =
      let p : Pair = record { later = t; earlier = u } in
      has_any (λ (d : Dependency). is_txn d.from u) (map entry_of run) (entry_of p) (has_map entry_of p run (is.all p h refl)) (is_txn-same u)

  pub list_is_for : (entries edges : List Dependency) → entries ≡ map entry_of run → ((u : TxnId) → entry_at u edges ≡ all_of u entries) → IsListFor sorted t edges
  list_is_for entries edges e f u =
      let same : list_any (λ d. is_txn d.from u) edges ≡ list_any (λ d. is_txn d.from u) (map entry_of run) =
      any_found u edges ∙ (ap is_some (f u) ∙ (sym (any_said u entries) ∙ ap (list_any (λ d. is_txn d.from u)) e)) in
      (λ h. named_from u (sym same ∙ h), λ h. same ∙ named_to u h)

-- ---- one list after another

pub lists_start : (pairs : List Pair) (known : List KnownList) → known ≡ [] → AreListsFor pairs [] known
lists_start pairs known e = record { each = λ t h. absurd (omega arith); only = λ t n. ap (list_of t) e }

module _ (pairs : List Pair) (done : List TxnId) (id : TxnId) (old new : List KnownList) (edges : List Dependency) (are : AreListsFor pairs done old) (absent : ¬ IsListed is_txn done id) (is : IsListFor pairs id edges) (made : new ≡ learnt old id edges) where
  other : (t : TxnId) → ¬ (t ≡ id) → list_of t new ≡ list_of t old
  other t n = ap (list_of t) made ∙ list_of-learnt_other old id edges t (is_txn-ne id t (λ e. n (sym e)))

  own : list_of id new ≡ Some edges
  own = ap (list_of id) made ∙ list_of-learnt old id edges (are.only id absent)

  abbrev Says : Option (List Dependency) → TxnId → Type 0
  Says o t = (u : TxnId) → (IsNamed (unwrap_or o []) u → IsPaired pairs u t) × (IsPaired pairs u t → IsNamed (unwrap_or o []) u)

  each_more : (t : TxnId) → IsListed is_txn (done ++ id ∷ []) t → Says (list_of t new) t
  each_more t h =
      elim (listed_either is_txn done (id ∷ []) t h) [
        | inl l ↦ subst (λ o. Says o t) (sym (other t (λ e. absent (subst (IsListed is_txn done) e l)))) (are.each t l)
        | inr l ↦ (let e = listed_one id t l.1 in subst (λ v. Says (list_of v new) v) (sym e) (subst (λ o. Says o id) (sym own) is))
      ]

  pub lists_more : AreListsFor pairs (done ++ id ∷ []) new
  lists_more = record {
    each = each_more;
    only = λ t n. other t (λ e. n (listed_behind is_txn done (id ∷ []) t (subst (IsListed is_txn (id ∷ [])) (sym e) (in_one id)))) ∙ are.only t (λ l. n (listed_front is_txn done (id ∷ []) t l));
  }

pub learns_more : (pairs : List Pair) (ids : List TxnId) (i : ℕ) (id none : TxnId) (old new : List KnownList) (answer : Learnt) (edges : List Dependency) → IsStrictlySortedBy txn_cmp ids → i < length ids → id ≡ get_or ids i none → AreListsFor pairs (take i ids) old → IsListFor pairs id edges → Learns id edges old answer new → AreListsFor pairs (take (i + 1) ids) new
learns_more pairs ids i id none old new answer edges rising h e are is learns =
    subst (λ xs. AreListsFor pairs xs new) (ap (λ x. take i ids ++ x ∷ []) e ∙ sym (take_more ids i none h)) (lists_more pairs (take i ids) id old new edges are absent is (made answer learns))
  where
    absent : ¬ IsListed is_txn (take i ids) id
    absent = new_at ids i id none (once_from_rising ids rising) h e

    unknown : list_of id old ≡ None
    unknown = are.only id absent

    made : (answer : Learnt) → Learns id edges old answer new → new ≡ learnt old id edges
    made New a = a.1
    made Repeat a = absurd (let f : Some edges ≡ None = sym a.0 ∙ unknown in cc)
    made Differs a = absurd (let f : Some a.0.0 ≡ None = sym a.0.1 ∙ unknown in cc)

-- by other pairs that say the same
pub lists_for : (met sorted pairs : List Pair) (ids : List TxnId) (known : List KnownList) → met ≡ sorted → SayTheSame sorted pairs → AreListsFor met ids known → AreListsFor pairs ids known
lists_for met sorted pairs ids known seen same are = record {
  each = λ t h u. (
    (λ k. (same u t).0 (subst (λ (l : List Pair). IsPaired l u t) seen ((are.each t h u).0 k))),
    (λ k. (are.each t h u).1 (subst (λ (l : List Pair). IsPaired l u t) (sym seen) ((same u t).1 k))),
  );
  only = are.only;
}
