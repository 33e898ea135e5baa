-- A search back from a transaction, level by level
use Rattle.std.proofs.Common.{◌≡◌, ℕ, zero, suc, ◌+◌, ◌-◌, ◌<◌, ◌≤◌, ◌++◌, List, [], ◌∷◌, length, get_or, take, Bool, true, false, Option, Some, None, refl, sym, subst, ap, ◌⊎◌, inl, inr, arith, length-append, unwrap_or}
use Rattle.std.proofs.lemmas.Bool.{false≢true, cases_lt}
use Rattle.std.proofs.lemmas.List.{get_or_append_left, get_or_push, take_more}
use Rattle.std.proofs.lemmas.Map.Keys.{IsDistinct-from_sorted}
use Rattle.std.proofs.lemmas.Map.Made.{length-le_from_is_member}
use Rattle.std.specs.Cmp.{eq_by_cmp_equiv}
use Rattle.std.specs.List.Sorted.{IsStrictlySortedBy}
use Rattle.roc_sequence.specs.Places.{IsListed}
use Rattle.roc_sequence.proofs.Appended.{listed_front, listed_behind, listed_either}
use Rattle.roc_sequence.proofs.Places.{listed_or_not}
use Rattle.roc_base.specs.declared.id.TxnId.{TxnId}
use Rattle.roc_base.specs.TxnId.{is_txn, txn_cmp}
use Rattle.roc_base.proofs.Ids.{txn_cmp-total, unlisted_none}
use Rattle.roc_base.specs.Edge.{Dependency}
use Rattle.roc_depgraph.specs.declared.known.KnownList.{KnownList}
use Rattle.roc_depgraph.specs.Deps.{Precedes, entries_of, list_of}
use Rattle.roc_depgraph.specs.Visits.{Visits}
use Rattle.roc_depgraph.proofs.Listed.{has_from_listed, listed_from_has, listed_one, in_one}
use Rattle.roc_depgraph.proofs.Visited.{visits_none}
use Rattle.roc_depgraph.proofs.Walk.{named_ids, named_from}
use Rattle.roc_precedence.specs.Inner.Rounds.{Walks, IsNearer, IsLevel, AreFound, LeadsInto, StepsBack, IsWithinMost, IsOver, AreLevels, HasNoRound, IsRoundWithin}

-- ---- one level behind another

pub within_less : (most : Option ℕ) (a b : ℕ) → IsWithinMost most b → a ≤ b → IsWithinMost most a
within_less None a b h k = tt
within_less (Some m) a b h k = omega arith

module _ (E : TxnId → TxnId → Type 0) (s : TxnId) where
  pub nearer_more : (n m : ℕ) (u : TxnId) → n ≤ m → IsNearer E n u s → IsNearer E m u s
  nearer_more n m u h r = let k = r.1 in (r.0, omega arith, r.2)

  pub step_nearer : (n : ℕ) (u t : TxnId) → E u t → IsNearer E n t s → IsNearer E (suc n) u s
  step_nearer n u t e r = let k = r.1 in (suc r.0, omega arith, (t, e, r.2))

  pub level_start : (level : List TxnId) → level ≡ s ∷ [] → IsLevel E s 0 level
  level_start level e = record {
    sound = λ u h. listed_one s u (subst (λ l. IsListed is_txn l u) e h);
    complete = λ u w. inl (subst (λ l. IsListed is_txn l u) (sym e) (subst (IsListed is_txn (s ∷ [])) (sym w) (in_one s)));
  }

  pub found_start : (found : List TxnId) → found ≡ [] → AreFound E s 0 found
  found_start found e = record {
    sound = λ u h. absurd (unlisted_none u (subst (λ l. IsListed is_txn l u) e h));
    complete = λ u r. let k = r.1 in absurd (omega arith);
  }

  module _ (n : ℕ) (level found found2 next : List TxnId) (f : AreFound E s n found) (l : IsLevel E s n level) (b : StepsBack E level found found2 next) where
    into_walks : (u : TxnId) → LeadsInto E level u → Walks E (suc n) u s
    into_walks u h = (h.0, h.2, l.sound h.0 h.1)

    found_at : (u : TxnId) → Walks E (suc n) u s → IsListed is_txn found2 u
    found_at u w =
        elim (l.complete w.0 w.2) [
          | inl h ↦ b.all u (w.0, h, w.1)
          | inr r ↦ b.keeps u (f.complete u (step_nearer n u w.0 w.1 r))
        ]

    found_from : (u : TxnId) → IsListed is_txn found2 u → IsNearer E (suc (suc n)) u s
    found_from u h =
        elim (b.only u h) [
          | inl k ↦ nearer_more (suc n) (suc (suc n)) u (omega arith) (f.sound u k)
          | inr k ↦ (n, omega arith, into_walks u k)
        ]

    found_all : (u : TxnId) → IsNearer E (suc (suc n)) u s → IsListed is_txn found2 u
    found_all u r =
        let k = r.1 in
        elim (cases_lt (suc r.0) (suc n)) [
          | inl h ↦ b.keeps u (f.complete u (r.0, h, r.2))
          | inr h ↦ (let e : suc r.0 ≡ suc n = omega arith in found_at u (subst (λ m. Walks E m u s) e r.2))
        ]

    pub found_next : AreFound E s (suc n) found2
    found_next = record { sound = found_from; complete = found_all }

    pub level_next : IsLevel E s (suc n) next
    level_next = record {
      sound = λ u h. into_walks u (b.behind u h);
      complete = λ u w. elim (listed_or_not is_txn found u) [
        | inl h ↦ inr (f.sound u h)
        | inr m ↦ inl (b.new u (found_at u w) m)
      ];
    }

    -- s was found for the first time
    pub closes_now : ¬ IsListed is_txn found s → IsListed is_txn found2 s → Walks E (suc n) s s
    closes_now unmet h =
        let r = found_from s h in
        let k = r.1 in
        elim (cases_lt (suc r.0) (suc n)) [
          | inl m ↦ absurd (unmet (f.complete s (r.0, m, r.2)))
          | inr m ↦ (let e : suc r.0 ≡ suc n = omega arith in subst (λ i. Walks E i s s) e r.2)
        ]

  pub levels_more : (levels : List (List TxnId)) (level : List TxnId) → AreLevels E s levels → IsLevel E s (length levels) level → AreLevels E s (levels ++ level ∷ [])
  levels_more levels level a l i h =
      elim (cases_lt i (length levels)) [
        | inl k ↦ subst (IsLevel E s i) (sym (get_or_append_left levels (level ∷ []) [] i k)) (a i k)
        | inr k ↦ (
            let d = length-append levels (level ∷ []) in
            let e : length levels ≡ i = omega arith in
            subst (IsLevel E s i) (sym (get_or_push levels level [] i e)) (subst (λ m. IsLevel E s m level) e l))
      ]

  -- ---- where a search ends

  module _ (n : ℕ) (level : List TxnId) (l : IsLevel E s n level) (none : length level ≡ 0) where
    at_level : (u : TxnId) → Walks E n u s → IsNearer E n u s
    at_level u w = elim (l.complete u w) [ inl h ↦ absurd (omega arith) | inr r ↦ r ]

    some_steps : 0 < n
    some_steps =
        elim (cases_lt 0 n) [
          | inl h ↦ h
          | inr h ↦ (let e : 0 ≡ n = omega arith in let r = at_level s (subst (λ m. Walks E m s s) e refl) in let k = r.1 in absurd (omega arith))
        ]

    up_to : (j : ℕ) (u : TxnId) → suc j ≤ n → Walks E (suc j) u s → IsNearer E n u s
    up_to j u h w =
        elim (cases_lt (suc j) n) [
          | inl k ↦ (j, k, w)
          | inr k ↦ (let e : suc j ≡ n = omega arith in at_level u (subst (λ m. Walks E m u s) e w))
        ]

    pub settled : (m : ℕ) (u : TxnId) → Walks E (suc m) u s → IsNearer E n u s
    settled zero u w = let h = some_steps in up_to zero u (omega arith) w
    settled (suc m) u w = let r = settled m w.0 w.2 in let k = r.1 in up_to (suc r.0) u (omega arith) (w.0, w.1, r.2)

  pub none_within : (n : ℕ) (level found : List TxnId) (most : Option ℕ) → AreFound E s n found → IsLevel E s n level → ¬ IsListed is_txn found s
      → (length level ≡ 0) ⊎ (¬ IsWithinMost most (suc n)) → HasNoRound E most s
  none_within n level found most f l unmet (inl e) j h w = unmet (f.complete s (nearer_more n (suc n) s (omega arith) (settled n level l e j s w)))
  none_within n level found most f l unmet (inr past) j h w =
      elim (cases_lt (suc j) (suc n)) [
        | inl k ↦ unmet (f.complete s (j, k, w))
        | inr k ↦ past (within_less most (suc n) (suc j) h k)
      ]

-- what the test of an end says, of a level and a number that it was asked of
pub goes_on : (over : Bool) (met level : List TxnId) (n m : ℕ) (most : Option ℕ) → IsOver met n most over → over ≡ false → met ≡ level → n ≡ m → (0 < length level) × IsWithinMost most (suc m)
goes_on true met level n m most h e f g = absurd (false≢true (sym e))
goes_on false met level n m most h e f g = (subst (λ (l : List TxnId). 0 < length l) f h.0, subst (λ i. IsWithinMost most (suc i)) g h.1)

pub has_ended : (over : Bool) (met level : List TxnId) (n m : ℕ) (most : Option ℕ) → IsOver met n most over → over ≡ true → met ≡ level → n ≡ m → (length level ≡ 0) ⊎ (¬ IsWithinMost most (suc m))
has_ended false met level n m most h e f g = absurd (false≢true e)
has_ended true met level n m most (inl h) e f g = inl (subst (λ (l : List TxnId). length l ≡ 0) f h)
has_ended true met level n m most (inr h) e f g = inr (subst (λ i. ¬ IsWithinMost most (suc i)) g h)

-- ---- a level back by known lists

module _ (known : List KnownList) where
  abbrev E : TxnId → TxnId → Type 0
  E = Precedes known

  pub steps_none : (level found next : List TxnId) → level ≡ [] → next ≡ [] → StepsBack E level found found next
  steps_none level found next e f = record {
    keeps = λ u h. h;
    all = λ u h. absurd (unlisted_none h.0 (subst (λ l. IsListed is_txn l h.0) e h.1));
    only = λ u h. inl h;
    new = λ u h n. absurd (n h);
    behind = λ u h. absurd (unlisted_none u (subst (λ l. IsListed is_txn l u) f h));
    rising = λ r. r;
    count = let e : length next ≡ 0 = ap length f in omega arith;
  }

  module _ (level first found next found2 next2 : List TxnId) (id : TxnId) (b : StepsBack E level first found next) (v : Visits (entries_of known id) found next found2 next2) where
    wider : (u : TxnId) → LeadsInto E level u → LeadsInto E (level ++ id ∷ []) u
    wider u h = (h.0, listed_front is_txn level (id ∷ []) h.0 h.1, h.2)

    last : IsListed is_txn (level ++ id ∷ []) id
    last = listed_behind is_txn level (id ∷ []) id (in_one id)

    pub steps_more : StepsBack E (level ++ id ∷ []) first found2 next2
    steps_more = record {
      keeps = λ u h. v.keeps u (b.keeps u h);
      all = λ u h. elim (listed_either is_txn level (id ∷ []) h.0 h.1) [
        | inl k ↦ v.keeps u (b.all u (h.0, k, h.2))
        | inr k ↦ v.named u (subst (Precedes known u) (listed_one id h.0 k.1) h.2)
      ];
      only = λ u h. elim (v.only u h) [
        | inl k ↦ elim (b.only u k) [ inl m ↦ inl m | inr m ↦ inr (wider u m) ]
        | inr n ↦ inr (id, last, n)
      ];
      new = λ u h n. elim (listed_or_not is_txn found u) [ inl k ↦ v.keeps_todo u (b.new u k n) | inr m ↦ v.new_todo u h m ];
      behind = λ u h. elim (v.only_todo u h) [ inl k ↦ wider u (b.behind u k) | inr n ↦ (id, last, n) ];
      rising = λ r. v.rising (b.rising r);
      count = let c = b.count in let d = v.count in omega arith;
    }

  pub steps_known : (level first found next found2 next2 : List TxnId) (id : TxnId) (es : List Dependency) → StepsBack E level first found next → Some es ≡ list_of id known
      → Visits es found next found2 next2 → StepsBack E (level ++ id ∷ []) first found2 next2
  steps_known level first found next found2 next2 id es b k v =
      steps_more level first found next found2 next2 id b (subst (λ (o : Option (List Dependency)). Visits (unwrap_or o []) found next found2 next2) k v)

  pub steps_unknown : (level first found next : List TxnId) (id : TxnId) → StepsBack E level first found next → None ≡ list_of id known → StepsBack E (level ++ id ∷ []) first found next
  steps_unknown level first found next id b k =
      steps_more level first found next found next id b (subst (λ (o : Option (List Dependency)). Visits (unwrap_or o []) found next found next) k (visits_none found next))

  -- one more id of a level, whose list is known or not
  pub steps_listed : (level first found next found2 next2 found3 next3 : List TxnId) (i : ℕ) (none : TxnId) (es : List Dependency) → i < length level → found3 ≡ found2 → next3 ≡ next2
      → StepsBack E (take i level) first found next
      → Some es ≡ list_of (get_or level i none) known → Visits es found next found2 next2 → StepsBack E (take (i + 1) level) first found3 next3
  steps_listed level first found next found2 next2 found3 next3 i none es h e f b k v =
      subst (λ l. StepsBack E l first found3 next3) (sym (take_more level i none h))
      (subst (λ l. StepsBack E (take i level ++ get_or level i none ∷ []) first l next3) (sym e)
      (subst (λ l. StepsBack E (take i level ++ get_or level i none ∷ []) first found2 l) (sym f) (steps_known (take i level) first found next found2 next2 (get_or level i none) es b k v)))

  pub steps_unlisted : (level first found next found3 next3 : List TxnId) (i : ℕ) (none : TxnId) → i < length level → found3 ≡ found → next3 ≡ next → StepsBack E (take i level) first found next
      → None ≡ list_of (get_or level i none) known → StepsBack E (take (i + 1) level) first found3 next3
  steps_unlisted level first found next found3 next3 i none h e f b k =
      subst (λ l. StepsBack E l first found3 next3) (sym (take_more level i none h))
      (subst (λ l. StepsBack E (take i level ++ get_or level i none ∷ []) first l next3) (sym e)
      (subst (λ l. StepsBack E (take i level ++ get_or level i none ∷ []) first found l) (sym f) (steps_unknown (take i level) first found next (get_or level i none) b k)))

  -- ---- the search

  pub record IsSearching (s : TxnId) (found : List TxnId) (levels : List (List TxnId)) (level : List TxnId) : Type 0 where
    pub back : AreLevels E s levels
    pub front : IsLevel E s (length levels) level
    pub met : AreFound E s (length levels) found
    pub not_yet : ¬ IsListed is_txn found s
    pub rising : IsStrictlySortedBy txn_cmp found

  pub searching_start : (s : TxnId) (found : List TxnId) (levels : List (List TxnId)) (level : List TxnId) → found ≡ [] → IsStrictlySortedBy txn_cmp found → levels ≡ [] → level ≡ s ∷ []
      → IsSearching s found levels level
  searching_start s found levels level e r f g = subst (λ l. IsSearching s found l level) (sym f) start
    where
      start : IsSearching s found [] level
      start = record {
        back = λ i h. absurd (omega arith);
        front = level_start E s level g;
        met = found_start E s found e;
        not_yet = λ h. unlisted_none s (subst (λ l. IsListed is_txn l s) e h);
        rising = r;
      }

  module _ (s : TxnId) (found found2 : List TxnId) (levels levels2 : List (List TxnId)) (level next : List TxnId) (is : IsSearching s found levels level)
      (b : StepsBack E level found found2 next) (pushed : levels2 ≡ levels ++ level ∷ []) where
    longer : suc (length levels) ≡ length levels2
    longer = let d = length-append levels (level ∷ []) in subst (λ (l : List (List TxnId)). suc (length levels) ≡ length l) (sym pushed) (omega arith)

    more_levels : AreLevels E s levels2
    more_levels = subst (AreLevels E s) (sym pushed) (levels_more E s levels level is.back is.front)

    more_found : AreFound E s (length levels2) found2
    more_found = subst (λ n. AreFound E s n found2) longer (found_next E s (length levels) level found found2 next is.met is.front b)

    pub searching_more : ¬ IsListed is_txn found2 s → IsSearching s found2 levels2 next
    searching_more unmet = record {
      back = more_levels;
      front = subst (λ n. IsLevel E s n next) longer (level_next E s (length levels) level found found2 next is.met is.front b);
      met = more_found;
      not_yet = unmet;
      rising = b.rising is.rising;
    }

    pub round_found : (most : Option ℕ) → IsWithinMost most (suc (length levels)) → IsListed is_txn found2 s → IsRoundWithin E s most (Some levels2)
    round_found most h k = (
      record {
        back = more_levels;
        some = let l = longer in omega arith;
        closes = subst (λ n. Walks E n s s) longer (closes_now E s (length levels) level found found2 next is.met is.front b is.not_yet k);
        shortest = λ r. is.not_yet (is.met.complete s (subst (λ n. IsNearer E n s s) (sym longer) r));
      },
      subst (IsWithinMost most) longer h,
    )

    nearer_named : (n : ℕ) (q : TxnId) → IsNearer E n q s → IsListed is_txn (named_ids known) q
    nearer_named n q r = named_from known q r.2.0 r.2.1

    bounded : (n : ℕ) (some : List TxnId) → IsStrictlySortedBy txn_cmp some → AreFound E s n some → length some ≤ length (named_ids known)
    bounded n some r f =
        length-le_from_is_member (eq_by_cmp_equiv txn_cmp-total) some (named_ids known) (IsDistinct-from_sorted txn_cmp some r)
        (λ q h. has_from_listed (named_ids known) q (nearer_named (suc n) q (f.sound q (listed_from_has some q h))))

    pub searching_ends : 0 < length level → (length (named_ids known) - length found2) + length next < (length (named_ids known) - length found) + length level
    searching_ends h =
        let a = bounded (length levels) found is.rising is.met in
        let c = bounded (length levels2) found2 (b.rising is.rising) more_found in
        let d = b.count in
        omega arith

  pub search_none : (s : TxnId) (found : List TxnId) (levels : List (List TxnId)) (level : List TxnId) (most : Option ℕ) → IsSearching s found levels level
      → (length level ≡ 0) ⊎ (¬ IsWithinMost most (suc (length levels))) → HasNoRound E most s
  search_none s found levels level most is over = none_within E s (length levels) level found most is.met is.front is.not_yet over
