-- What is missing for what the entries of a new list name
use Rattle.std.proofs.Common.{◌≡◌, ◌≢◌, ◌⊎◌, inl, inr, Bool, true, false, cond, not, ◌||◌, List, [], ◌∷◌, ◌++◌, map, filter, Option, Some, None, is_some, refl, sym, ap, subst, ◌∙◌, arith}
use Rattle.std.proofs.lemmas.Bool.{false≢true, not-true, and_parts, and_from, or_cases, or_left, or_right}
use Rattle.std.specs.List.{list_any, flat_map}
use Rattle.roc_sequence.specs.Lists.{Has}
use Rattle.roc_sequence.specs.Places.{IsListed, is_listed}
use Rattle.roc_sequence.proofs.Appended.{listed_front, listed_behind, listed_either}
use Rattle.roc_sequence.proofs.Filtered.{listed_filter, from_listed_filter}
use Rattle.roc_sequence.proofs.Holds.{any_has, has_any}
use Rattle.roc_sequence.proofs.Places.{listed_true, listed_test, listed_or_not}
use Rattle.roc_base.specs.declared.id.TxnId.{TxnId}
use Rattle.roc_base.specs.TxnId.{is_txn}
use Rattle.roc_base.specs.Equalities.{is_txn-true}
use Rattle.roc_base.proofs.Ids.{is_txn-eq, is_txn-ne, is_txn-false}
use Rattle.roc_base.specs.Edge.{Dependency}
use Rattle.roc_base.specs.Edges.{entry_at}
use Rattle.roc_depgraph.specs.declared.known.KnownList.{KnownList}
use Rattle.roc_depgraph.specs.Closure.{IsRisingListOf}
use Rattle.roc_depgraph.specs.Deps.{list_of, is_known, IsKnown, Precedes, learnt}
use Rattle.roc_depgraph.specs.Reach.{Reaches, direct, through, ReachesOrIs}
use Rattle.roc_depgraph.proofs.Decided.{known_of_decided}
use Rattle.roc_depgraph.proofs.Laws.{decided_stays}
use Rattle.roc_depgraph.proofs.Listed.{has_under}
use Rattle.roc_await.specs.declared.group.Group.{Group}
use Rattle.roc_await.specs.declared.lack.Lack.{Lack}
use Rattle.roc_await.specs.Lacks.{IsMissing, IsLack}
use Rattle.roc_depgraph.specs.Visits.{IsNamed}
use Rattle.roc_depgraph.proofs.Walk.{listed_named as named_listed}
use Rattle.roc_await.specs.Inner.Grown.{AreListed, IsMissingFor, others}
use Rattle.roc_await.specs.Inner.Groups.{lack_with, all_lacks, names_any, missing_if_named, is_other_unknown}
use Rattle.roc_await.specs.Inner.Taken.{AreLacksSince}
use Rattle.roc_await.proofs.InGroups.{IsInGroup, has_lack, lack_has, listed_flat, from_listed_flat}
use Rattle.roc_await.proofs.NextList.{IsNext}
use Rattle.roc_await.proofs.OneMore.{nothing_into, missing_from_named, named_from_missing}

-- nothing leads to a transaction whose list is unknown
nothing_leads : (known : List KnownList) (x : TxnId) → list_of x known ≡ None → (v : TxnId) → Reaches (Precedes known) v x → ⊥
nothing_leads known x none v (direct e) = nothing_into known x [] none v e
nothing_leads known x none v (through {s = s} p e) = nothing_into known x [] none s e

unknown_none : (known : List KnownList) (x : TxnId) → list_of x known ≡ None → ¬ IsKnown known x
unknown_none known x none h = false≢true (sym (ap is_some none) ∙ h)

none_of_unknown : (list : Option (List Dependency)) → is_some list ≡ false → list ≡ None
none_of_unknown None h = refl
none_of_unknown (Some es) h = absurd (cc)

pub other_test : (u v : TxnId) → v ≢ u → not (is_txn v u) ≡ true
other_test u v n = ap not (is_txn-ne v u n)

pub test_other : (u v : TxnId) → not (is_txn v u) ≡ true → v ≢ u
test_other u v t = is_txn-false v u (not-true (is_txn v u) t)

-- the entry of an id is found where one names it
entry_named : (edges : List Dependency) (t : TxnId) → is_some (entry_at t edges) ≡ list_any (λ d. is_txn d.from t) edges
entry_named [] t = refl
entry_named (d ∷ es) t = go (is_txn d.from t) (entry_named es t)
  where
    go : (b : Bool) → is_some (entry_at t es) ≡ list_any (λ d. is_txn d.from t) es → is_some (cond b (Some d) (entry_at t es)) ≡ b || list_any (λ d. is_txn d.from t) es
    go true ih = refl
    go false ih = ih

listed_named : (edges : List Dependency) (x : TxnId) → IsListed is_txn (map (λ d. d.from) edges) x → IsNamed edges x
listed_named edges x l =
    let d = has_under (λ (d : Dependency). d.from) edges x l in
    has_any (λ (d : Dependency). is_txn d.from x) edges d.0 d.1 (is_txn-eq d.0.from x d.2)

module _ (before known all : List KnownList) (u : TxnId) (edges : List Dependency) (later : List TxnId) (groups : List Group) (since : AreLacksSince before known (all_lacks groups)) (next : IsNext known all u later) where
  abbrev of_groups : List TxnId
  of_groups = flat_map (missing_if_named u edges) groups

  abbrev of_entries : List TxnId
  of_entries = filter (is_other_unknown all later u) (map (λ d. d.from) edges)

  -- ---- what is found is missing

  from_group : (v : TxnId) → IsListed is_txn of_groups v → IsMissingFor known u edges v
  from_group v l =
      let w = from_listed_flat (missing_if_named u edges) v groups l in
      go w.0 w.1 (names_any edges w.0.of) refl w.2
    where
      go : (g : Group) → Has g groups → (b : Bool) → names_any edges g.of ≡ b → IsListed is_txn (cond b (others u g.missing) []) v → IsMissingFor known u edges v
      go g h false e m = absurd (omega arith)
      go g h true e m =
          let t = any_has (λ t. is_some (entry_at t edges)) g.of e in
          let lack : IsLack known (lack_with g.missing t.0) = since.each (lack_with g.missing t.0) (lack_has g t.0 groups h t.1) in
          let f = from_listed_filter is_txn is_txn-true (λ v. not (is_txn v u)) g.missing v m in
          record { named = t.0; is = sym (entry_named edges t.0) ∙ t.2; missing = record { other = test_other u v f.0; missing = lack.missing.sound v f.1 } }

  from_entry : (v : TxnId) → IsListed is_txn of_entries v → IsMissingFor known u edges v
  from_entry v l =
      let f = from_listed_filter is_txn is_txn-true (is_other_unknown all later u) (map (λ d. d.from) edges) v l in
      let p = and_parts (not (is_txn v u)) (is_listed is_txn later v || not (is_known all v)) f.0 in
      let other : v ≢ u = test_other u v p.0 in
      record { named = v; is = listed_named edges v f.1; missing = record { other = other; missing = (inl refl, unknown other p.1) } }
    where
      unknown : v ≢ u → is_listed is_txn later v || not (is_known all v) ≡ true → ¬ IsKnown known v
      unknown other p = elim (listed_or_not is_txn later v) [
        | inl k ↦ unknown_none known v (next.later_none v k)
        | inr n ↦ elim (or_cases (is_listed is_txn later v) (not (is_known all v)) p) [
          | inl k ↦ absurd (n (listed_true is_txn later v k))
          | inr k ↦ (λ h. false≢true (sym (not-true (is_known all v) k) ∙ (ap is_some (next.others v other n) ∙ h)))
        ]
      ]

  -- ---- what is missing is found

  in_entries : (x : TxnId) → IsNamed edges x → x ≢ u → list_of x known ≡ None → IsListed is_txn of_entries x
  in_entries x h other none = listed_filter is_txn is_txn-true (is_other_unknown all later u) (map (λ d. d.from) edges) x
      (and_from (not (is_txn x u)) (is_listed is_txn later x || not (is_known all x)) (other_test u x other) unknown) (named_listed edges x h)
    where
      unknown : is_listed is_txn later x || not (is_known all x) ≡ true
      unknown = elim (listed_or_not is_txn later x) [
        | inl k ↦ or_left (is_listed is_txn later x) (not (is_known all x)) (listed_test is_txn later x k)
        | inr n ↦ or_right (is_listed is_txn later x) (not (is_known all x)) (ap (λ o. not (is_some o)) (next.others x other n ∙ none))
      ]

  in_group : (l : Lack) → Has l (all_lacks groups) → IsNamed edges l.of → (v : TxnId) → v ≢ u → IsMissing known l.of v → IsListed is_txn of_groups v
  in_group l h named v other m =
      let i : IsInGroup groups l = has_lack groups l h in
      let names : names_any edges i.group.of ≡ true = has_any (λ t. is_some (entry_at t edges)) i.group.of l.of i.of (entry_named edges l.of ∙ named) in
      let lack : IsLack known l = since.each l h in
      let there : IsListed is_txn i.group.missing v = subst (λ ids. IsListed is_txn ids v) i.missing (lack.missing.complete v m) in
      listed_flat (missing_if_named u edges) v i.group groups i.there
      (subst (λ b. IsListed is_txn (cond b (others u i.group.missing) []) v) (sym names) (listed_filter is_txn is_txn-true (λ v. not (is_txn v u)) i.group.missing v (other_test u v other) there))

  found : (v : TxnId) → IsMissingFor known u edges v → IsListed is_txn (of_groups ++ of_entries) v
  found v m = go (is_known known m.named) refl
    where
      same : list_of m.named known ≡ None → ReachesOrIs (Precedes known) v m.named → v ≡ m.named
      same none (inl e) = e
      same none (inr p) = absurd (nothing_leads known m.named none v p)

      go : (b : Bool) → is_known known m.named ≡ b → IsListed is_txn (of_groups ++ of_entries) v
      go false k =
          let none : list_of m.named known ≡ None = none_of_unknown (list_of m.named known) k in
          let e : v ≡ m.named = same none m.missing.missing.0 in
          let other : m.named ≢ u = λ i. m.missing.other (e ∙ i) in
          listed_behind is_txn of_groups of_entries v (subst (IsListed is_txn of_entries) (sym e) (in_entries m.named m.is other none))
      go true k = elim (since.all m.named k) [
        | inl d ↦ absurd (m.missing.missing.1 (known_of_decided known m.named (decided_stays before known since.keeps m.named d) v m.missing.missing.0))
        | inr w ↦ listed_front is_txn of_groups of_entries v (in_group w.0 w.1 (subst (IsNamed edges) (sym w.2) m.is) v m.missing.other (subst (λ x. IsMissing known x v) (sym w.2) m.missing.missing))
      ]

  pub are_listed : AreListed (IsMissingFor known u edges) (of_groups ++ of_entries)
  are_listed = record { sound = λ v l. from_either v (listed_either is_txn of_groups of_entries v l); complete = found }
    where
      from_either : (v : TxnId) → IsListed is_txn of_groups v ⊎ ((¬ IsListed is_txn of_groups v) × IsListed is_txn of_entries v) → IsMissingFor known u edges v
      from_either v (inl l) = from_group v l
      from_either v (inr l) = from_entry v l.1

-- ---- all together

pub all_missing : (known : List KnownList) (u : TxnId) (edges : List Dependency) → list_of u known ≡ None → (found ids : List TxnId) → AreListed (IsMissingFor known u edges) found
    → IsRisingListOf (IsListed is_txn found) ids → IsRisingListOf (IsMissing (learnt known u edges) u) ids
all_missing known u edges none found ids are rising = record {
  rising = rising.rising;
  sound = λ v l. missing_from_named known u edges none v (are.sound v (rising.sound v l));
  complete = λ v m. rising.complete v (are.complete v (named_from_missing known u edges none v m));
}
