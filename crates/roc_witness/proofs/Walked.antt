-- Walks and the levels from which they begin
use Rattle.std.proofs.Common.{◌≡◌, ℕ, zero, suc, ◌<◌, Bool, true, false, cond, List, [], ◌∷◌, ◌++◌, length, Some, None, find, filter, get_or, refl, sym, ap, subst, ◌∙◌, ◌⊎◌, inl, inr, arith, append_assoc}
use Rattle.std.proofs.lemmas.Bool.{false≢true, or_left}
use Rattle.std.proofs.lemmas.List.{get_or_read}
use Rattle.std.specs.List.{AllByRecursion, list_any}
use Rattle.roc_sequence.specs.Lists.{Has}
use Rattle.roc_sequence.specs.Rising.{IsRising}
use Rattle.roc_sequence.proofs.Holds.{all_has, any_has, has_any, has_all}
use Rattle.roc_sequence.proofs.Members.{has_one, has_filter, from_has_filter}
use Rattle.roc_sequence.proofs.Found.{found_has, none_passes}
use Rattle.roc_sequence.proofs.Rising.{rising_filter}
use Rattle.roc_scgraph.specs.declared.vertex.Vertex.{Vertex}
use Rattle.roc_scgraph.specs.Order.{is_before}
use Rattle.roc_witness.specs.Order.{stands_before}
use Rattle.roc_witness.specs.Inner.Walks.{IsWalk, IsLeastWalk, HasNoWalk, IsLeastAdded, level, AreLevels}
use Rattle.roc_witness.proofs.Ordered.{comes_not, comes_same}

-- ---- rising lists

all_filter : {A : Type 0} (P : A → Type 0) (p : A → Bool) (xs : List A) → AllByRecursion P xs → AllByRecursion P (filter p xs)
all_filter P p xs h = has_all P (filter p xs) (λ a k. all_has P a xs h (from_has_filter p a xs k).0)

-- what is found in a rising list comes before all others that pass
first_found : {A : Type 0} (before : A → A → Bool) (p : A → Bool) (xs : List A) (v : A) → IsRising before xs → find p xs ≡ Some v → (o : A) → Has o xs → p o ≡ true → (o ≡ v) ⊎ (before v o ≡ true)
first_found before p [] v h e o i k = absurd i
first_found {A} before p (x ∷ xs) v h e o i k = go (p x) refl e i (λ f j. first_found before p xs v h.1 f o j k)
  where
    go : (t : Bool) → p x ≡ t → cond t (Some x) (find p xs) ≡ Some v → Has o (x ∷ xs) → (find p xs ≡ Some v → Has o xs → (o ≡ v) ⊎ (before v o ≡ true)) → (o ≡ v) ⊎ (before v o ≡ true)
    go true f m (inl j) further = inl (let same : x ≡ v = cc in j ∙ same)
    go true f m (inr j) further = inr (let same : x ≡ v = cc in subst (λ (y : A). before y o ≡ true) same (all_has (λ y. before x y ≡ true) o xs h.0 j))
    go false f m (inl j) further = absurd (false≢true (sym f ∙ ap p (sym j) ∙ k))
    go false f m (inr j) further = further m j

module _ (may_step : Vertex → Vertex → Bool) (vertices : List Vertex) (goal : Vertex) where
  abbrev At : ℕ → List Vertex
  At count = level may_step vertices goal count

  -- a walk begins at its level
  at_level : (v : Vertex) (way : List Vertex) → Has v vertices → IsWalk may_step vertices v goal way → Has v (At (suc (length way)))
  at_level v [] there walk = has_filter (λ u. list_any (may_step u) (goal ∷ [])) v vertices there (or_left (may_step v goal) false walk.joined.0)
  at_level v (w ∷ ws) there walk =
      has_filter (λ u. list_any (may_step u) (At (suc (length ws)))) v vertices there
      (has_any (may_step v) (At (suc (length ws))) w (at_level w ws walk.within.0 (record { within = walk.within.1; joined = walk.joined.1 })) walk.joined.0)

  -- and at a level a walk begins
  from_level : (count : ℕ) (v : Vertex) → Has v (At (suc count)) → Has v vertices × ((way : List Vertex) × IsWalk may_step vertices v goal way × (length way ≡ count))
  from_level zero v h =
      let k = from_has_filter (λ u. list_any (may_step u) (goal ∷ [])) v vertices h in
      let r = any_has (may_step v) (goal ∷ []) k.1 in
      (k.0, ([], record { within = tt; joined = (subst (λ u. may_step v u ≡ true) (has_one r.0 goal r.1) r.2, tt) }, refl))
  from_level (suc count) v h =
      let k = from_has_filter (λ u. list_any (may_step u) (At (suc count))) v vertices h in
      let r = any_has (may_step v) (At (suc count)) k.1 in
      let further = from_level count r.0 r.1 in
      (k.0, (r.0 ∷ further.1.0, record { within = (further.0, further.1.1.within); joined = (r.2, further.1.1.joined) }, ap suc further.1.2))

  module _ (from : Vertex) (count : ℕ) where
    -- where none of the level can be reached there is no walk
    none_led : find (may_step from) (At (suc count)) ≡ None → HasNoWalk may_step vertices from goal (suc count)
    none_led e [] walk long = absurd (omega arith)
    none_led e (w ∷ ws) walk long =
        let n : length ws ≡ count = omega arith in
        none_passes (may_step from) (At (suc count)) e w (subst (λ k. Has w (At (suc k))) n (at_level w ws walk.within.0 (record { within = walk.within.1; joined = walk.joined.1 }))) walk.joined.0

    -- where one can be reached, a walk goes on there
    goes_on : (v : Vertex) → find (may_step from) (At (suc count)) ≡ Some v → HasNoWalk may_step vertices v goal count → ⊥
    goes_on v e none = let r = from_level count v (found_has (may_step from) (At (suc count)) v e).0 in none r.1.0 r.1.1 r.1.2

    -- the least walk goes through the first of them
    least_led : (v : Vertex) (way : List Vertex) → IsRising is_before vertices → find (may_step from) (At (suc count)) ≡ Some v → IsLeastWalk may_step vertices v goal count way → IsLeastWalk may_step vertices from goal (suc count) (v ∷ way)
    least_led v way rising e least =
        let found = found_has (may_step from) (At (suc count)) v e in
        record {
          walk = record { within = ((from_level count v found.0).0, least.walk.within); joined = (found.1, least.walk.joined) };
          long = ap suc least.long;
          least = least_of;
        }
      where
        least_of : (other : List Vertex) → IsWalk may_step vertices from goal other → length other ≡ suc count → stands_before other (v ∷ way) ≡ false
        least_of [] walk long = absurd (omega arith)
        least_of (w ∷ ws) walk long =
            let n : length ws ≡ count = omega arith in
            let rest : IsWalk may_step vertices w goal ws = record { within = walk.within.1; joined = walk.joined.1 } in
            let here : Has w (At (suc count)) = subst (λ k. Has w (At (suc k))) n (at_level w ws walk.within.0 rest) in
            elim (first_found is_before (may_step from) (At (suc count)) v (rising_filter is_before (λ u. list_any (may_step u) (At count)) vertices rising) e w here walk.joined.0) [
              | inl same ↦ comes_same w v ws way same ∙ least.least ws (subst (λ u. IsWalk may_step vertices u goal ws) same rest) n
              | inr later ↦ comes_not w v ws way later
            ]

  -- ---- going down from a level that was read

  pub read_level : (levels : List (List Vertex)) (left : ℕ) (read target : List Vertex) → AreLevels may_step vertices goal levels → left < length levels → read ≡ get_or levels left read → target ≡ read → target ≡ At left
  read_level levels left read target known within is same = same ∙ get_or_read levels left read within is [] ∙ known left within

  module _ (from : Vertex) (left count : ℕ) (target : List Vertex) (down : left ≡ suc count) (known : target ≡ At left) where
    at_target : target ≡ At (suc count)
    at_target = subst (λ k. target ≡ At k) down known

    pub nothing_led : None ≡ find (may_step from) target → HasNoWalk may_step vertices from goal left
    nothing_led e = subst (HasNoWalk may_step vertices from goal) (sym down) (none_led from count (ap (find (may_step from)) (sym at_target) ∙ sym e))

    pub goes_on_from : (v : Vertex) → Some v ≡ find (may_step from) target → HasNoWalk may_step vertices v goal count → ⊥
    goes_on_from v e = goes_on from count v (ap (find (may_step from)) (sym at_target) ∙ sym e)

    pub least_added : (v : Vertex) (old mid new : List Vertex) → IsRising is_before vertices → Some v ≡ find (may_step from) target → mid ≡ old ++ v ∷ [] → IsLeastAdded may_step vertices v goal count mid new → IsLeastAdded may_step vertices from goal left old new
    least_added v old mid new rising e is r =
        record {
          way = v ∷ r.way;
          added = r.added ∙ ap (λ (vs : List Vertex). vs ++ r.way) is ∙ append_assoc old (v ∷ []) r.way;
          least = subst (λ k. IsLeastWalk may_step vertices from goal k (v ∷ r.way)) (sym down) (least_led from count v r.way rising (ap (find (may_step from)) (sym at_target) ∙ sym e) r.least);
        }
