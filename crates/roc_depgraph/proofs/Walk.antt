-- The search for all that is reached
use Rattle.std.proofs.Common.{◌≡◌, ◌+◌, ◌-◌, ◌<◌, ◌≤◌, Bool, true, false, cond, List, [], ◌∷◌, ◌++◌, length, map, Option, Some, None, sym, ◌∙◌, subst, arith, inl, inr, length-append, unwrap_or}
use Rattle.std.proofs.lemmas.Bool.{false≢true, or_cases}
use Rattle.std.proofs.lemmas.Map.Keys.{IsDistinct-from_sorted}
use Rattle.std.proofs.lemmas.Map.Made.{length-le_from_is_member}
use Rattle.std.specs.Cmp.{eq_by_cmp_equiv}
use Rattle.std.specs.List.{list_any}
use Rattle.std.specs.List.Sorted.{IsStrictlySortedBy}
use Rattle.roc_sequence.specs.Places.{IsListed}
use Rattle.roc_sequence.proofs.Places.{listed_or_not, listed_head, listed_tail}
use Rattle.roc_sequence.proofs.Appended.{listed_front, listed_behind, listed_either}
use Rattle.roc_base.specs.declared.id.TxnId.{TxnId}
use Rattle.roc_base.specs.TxnId.{is_txn, txn_cmp}
use Rattle.roc_base.proofs.Ids.{txn_cmp-total}
use Rattle.roc_base.specs.Equalities.{is_txn-same, is_txn-true}
use Rattle.roc_base.specs.Edge.{Dependency}
use Rattle.roc_depgraph.specs.declared.known.KnownList.{KnownList}
use Rattle.roc_depgraph.specs.Closure.{IsRisingListOf}
use Rattle.roc_depgraph.specs.Deps.{Precedes, entries_of, list_of}
use Rattle.roc_depgraph.specs.Reach.{Reaches, direct, through, ReachesOrIs}
use Rattle.roc_depgraph.specs.Visits.{Visits, IsNamed}
use Rattle.roc_depgraph.proofs.Chains.{chain_before, closed_from}
use Rattle.roc_depgraph.proofs.Visited.{visits_none}
use Rattle.roc_depgraph.proofs.Listed.{has_from_listed, listed_from_has, listed_one, in_one}

-- What was found is reached. What precedes a found id was found, unless the id is still to be done
pub record IsSearch (known : List KnownList) (id : TxnId) (found todo : List TxnId) : Type 0 where
  pub rising : IsStrictlySortedBy txn_cmp found
  pub start : IsListed is_txn found id
  pub sound : (u : TxnId) → IsListed is_txn found u → ReachesOrIs (Precedes known) u id
  pub waiting : (u : TxnId) → IsListed is_txn todo u → IsListed is_txn found u
  pub closed : (u t : TxnId) → IsListed is_txn found t → (¬ IsListed is_txn todo t) → Precedes known u t → IsListed is_txn found u

-- the ids that the entries of known lists name
abbrev pub named_ids : List KnownList → List TxnId
named_ids [] = []
named_ids (k ∷ ks) = map (λ d. d.from) k.edges ++ named_ids ks

-- all that can be found
abbrev pub findable : List KnownList → TxnId → List TxnId
findable known id = id ∷ named_ids known

pub listed_named : (es : List Dependency) (u : TxnId) → IsNamed es u → IsListed is_txn (map (λ d. d.from) es) u
listed_named [] u h = absurd (false≢true h)
listed_named (d ∷ es) u h =
    elim (or_cases (is_txn d.from u) (list_any (λ d. is_txn d.from u) es) h) [
      | inl e ↦ subst (IsListed is_txn (d.from ∷ map (λ d. d.from) es)) (is_txn-true d.from u e) (listed_head is_txn d.from (map (λ d. d.from) es) (is_txn-same d.from))
      | inr k ↦ listed_tail is_txn d.from (map (λ d. d.from) es) u (listed_named es u k)
    ]

pub named_from : (known : List KnownList) (u t : TxnId) → Precedes known u t → IsListed is_txn (named_ids known) u
named_from [] u t h = absurd (false≢true h)
named_from (k ∷ ks) u t h = go (is_txn k.of t) h (named_from ks u t)
  where
    go : (b : Bool) → list_any (λ d. is_txn d.from u) (unwrap_or (cond b (Some k.edges) (list_of t ks)) []) ≡ true → (Precedes ks u t → IsListed is_txn (named_ids ks) u) → IsListed is_txn (map (λ d. d.from) k.edges ++ named_ids ks) u
    go true n ih = listed_front is_txn (map (λ d. d.from) k.edges) (named_ids ks) u (listed_named k.edges u n)
    go false n ih = listed_behind is_txn (map (λ d. d.from) k.edges) (named_ids ks) u (ih n)

findable_from : (known : List KnownList) (id u : TxnId) → ReachesOrIs (Precedes known) u id → IsListed is_txn (findable known id) u
findable_from known id u (inl e) = subst (IsListed is_txn (findable known id)) (sym e) (listed_head is_txn id (named_ids known) (is_txn-same id))
findable_from known id u (inr p) = listed_tail is_txn id (named_ids known) u (go id p)
  where
    go : (t : TxnId) → Reaches (Precedes known) u t → IsListed is_txn (named_ids known) u
    go t (direct e) = named_from known u t e
    go t (through p e) = go _ p

module _ (known : List KnownList) (id : TxnId) where
  pub search_start : (found todo : List TxnId) → IsStrictlySortedBy txn_cmp found → found ≡ id ∷ [] → todo ≡ id ∷ [] → IsSearch known id found todo
  search_start found todo r e f =
      record {
        rising = r;
        start = subst (λ l. IsListed is_txn l id) (sym e) (in_one id);
        sound = λ u h. inl (listed_one id u (subst (λ l. IsListed is_txn l u) e h));
        waiting = λ u h. subst (λ l. IsListed is_txn l u) (f ∙ sym e) h;
        closed = λ u t h n p. absurd (n (subst (λ l. IsListed is_txn l t) (e ∙ sym f) h));
      }

  -- all that precedes one of those still to be done was visited
  pub search_more : (found todo found2 todo2 : List TxnId) (next : TxnId) → IsSearch known id found (todo ++ next ∷ []) → Visits (entries_of known next) found todo found2 todo2 → IsSearch known id found2 todo2
  search_more found todo found2 todo2 next s v =
      record {
        rising = v.rising s.rising;
        start = v.keeps id s.start;
        sound = λ u h. elim (v.only u h) [
          | inl k ↦ s.sound u k
          | inr n ↦ inr (chain_before (Precedes known) u next id n (s.sound next next_found))
        ];
        waiting = λ u h. elim (v.only_todo u h) [
          | inl k ↦ v.keeps u (s.waiting u (listed_front is_txn todo (next ∷ []) u k))
          | inr n ↦ v.named u n
        ];
        closed = λ u t h n p. elim (listed_or_not is_txn found t) [
          | inr k ↦ absurd (n (v.new_todo t h k))
          | inl k ↦ elim (listed_or_not is_txn (todo ++ next ∷ []) t) [
            | inr m ↦ v.keeps u (s.closed u t k m p)
            | inl m ↦ elim (listed_either is_txn todo (next ∷ []) t m) [
              | inl i ↦ absurd (n (v.keeps_todo t i))
              | inr i ↦ v.named u (subst (Precedes known u) (listed_one next t i.1) p)
            ]
          ]
        ];
      }
    where
      next_found : IsListed is_txn found next
      next_found = s.waiting next (listed_behind is_txn todo (next ∷ []) next (in_one next))

  pub found_bounded : (found todo : List TxnId) → IsSearch known id found todo → length found ≤ length (findable known id)
  found_bounded found todo s =
      length-le_from_is_member (eq_by_cmp_equiv txn_cmp-total) found (findable known id) (IsDistinct-from_sorted txn_cmp found s.rising)
      (λ q h. has_from_listed (findable known id) q (findable_from known id q (s.sound q (listed_from_has found q h))))

  -- with each visit less is left
  search_ends : (found todo found2 todo2 : List TxnId) (next : TxnId) → IsSearch known id found (todo ++ next ∷ []) → Visits (entries_of known next) found todo found2 todo2 → (length (findable known id) - length found2) + length todo2 < (length (findable known id) - length found) + length (todo ++ next ∷ [])
  search_ends found todo found2 todo2 next s v =
      let a = found_bounded found (todo ++ next ∷ []) s in
      let b = found_bounded found2 todo2 (search_more found todo found2 todo2 next s v) in
      let c = v.count in
      let d = length-append todo (next ∷ []) in
      omega arith

  -- one turn of the search: the last id of those still to be done was taken out, and its list visited
  pub record IsTurn (found todo found2 todo2 : List TxnId) : Type 0 where
    pub search : IsSearch known id found2 todo2
    pub smaller : (length (findable known id) - length found2) + length todo2 < (length (findable known id) - length found) + length todo

  turn : (found waiting todo found2 todo2 : List TxnId) (next : TxnId) → IsSearch known id found waiting → waiting ≡ todo ++ next ∷ [] → Visits (entries_of known next) found todo found2 todo2 → IsTurn found waiting found2 todo2
  turn found waiting todo found2 todo2 next s e v =
      let t = subst (IsSearch known id found) e s in
      subst (λ l. IsTurn found l found2 todo2) (sym e) (record { search = search_more found todo found2 todo2 next t v; smaller = search_ends found todo found2 todo2 next t v })

  pub turn_known : (found waiting todo found2 todo2 : List TxnId) (next : TxnId) (es : List Dependency) → IsSearch known id found waiting → waiting ≡ todo ++ next ∷ [] → Some es ≡ list_of next known → Visits es found todo found2 todo2 → IsTurn found waiting found2 todo2
  turn_known found waiting todo found2 todo2 next es s e k v =
      turn found waiting todo found2 todo2 next s e (subst (λ (o : Option (List Dependency)). Visits (unwrap_or o []) found todo found2 todo2) k v)

  pub turn_unknown : (found waiting todo : List TxnId) (next : TxnId) → IsSearch known id found waiting → waiting ≡ todo ++ next ∷ [] → None ≡ list_of next known → IsTurn found waiting found todo
  turn_unknown found waiting todo next s e k =
      turn found waiting todo found todo next s e (subst (λ (o : Option (List Dependency)). Visits (unwrap_or o []) found todo found todo) k (visits_none found todo))

  pub search_done : (found todo : List TxnId) → IsSearch known id found todo → length todo ≡ 0 → IsRisingListOf (λ u. ReachesOrIs (Precedes known) u id) found
  search_done found todo s e =
      record {
        rising = s.rising;
        sound = s.sound;
        complete = λ u h. closed_from (Precedes known) (IsListed is_txn found) (λ v t k p. s.closed v t k (λ i. absurd (omega arith)) p) u id s.start h;
      }
