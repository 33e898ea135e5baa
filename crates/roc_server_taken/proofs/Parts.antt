-- Components in parts: one more or less in one of them, and which parts have room
use Rattle.std.proofs.Common.{◌≡◌, ◌≢◌, ◌<◌, ◌≤◌, ◌+◌, ◌==◌, ◌&&◌, ℕ, zero, suc, Bool, true, false, cond, List, [], ◌∷◌, ◌++◌, length, filter, inl, inr}
use Rattle.std.proofs.Common.{refl, sym, ap, subst, ◌∙◌, append-nil, append_assoc, arith}
use Rattle.std.proofs.lemmas.Bool.Decides.{nat_tests}
use Rattle.std.proofs.lemmas.List.{get_or-set_same, get_or-set_other, length-append, length-set}
use Rattle.std.proofs.lemmas.List.Elements.{filter-append}
use Rattle.std.proofs.Math.ListN.{set}
use Rattle.std.specs.List.{flat_map, AllByRecursion}
use Rattle.roc_sequence.specs.Lists.{Has}
use Rattle.roc_sequence.specs.Rising.{IsRising}
use Rattle.roc_sequence.proofs.Holds.{all_has, has_any}
use Rattle.roc_sequence.proofs.Members.{has_left, has_right}
use Rattle.roc_base.specs.declared.id.TxnId.{TxnId}
use Rattle.roc_step.specs.Below.{is_ended}
use Rattle.roc_server_taken.specs.declared.components.Component.{Component}
use Rattle.roc_server_taken.specs.Inner.Over.{is_not_ahead, is_under, AreStanding, IsPutBetween}
use Rattle.roc_server_taken.specs.Inner.Standing.{is_among, part_at, part_of, wanted_at, AreInParts, HaveRoom, StandAt}
use Rattle.roc_server_taken.proofs.LeftOpen.{all_put, count_between, none_between}

abbrev pub flat : List (List Component) → List Component
flat ps = flat_map (λ p. p) ps

-- ---- one more, and one less

module _ (c : Component) where
  -- one more in a part
  pub put_in : (ps : List (List Component)) (at : ℕ) (new : List Component) → at < length ps → IsPutBetween c (part_at ps at) new → IsPutBetween c (flat ps) (flat (set ps at new))
  put_in [] at new lt put = absurd (omega (arith, lt))
  put_in (p ∷ ps) zero new lt put = record {
    before = put.before;
    behind = put.behind ++ flat ps;
    was = ap (λ l. l ++ flat ps) put.was ∙ append_assoc put.before put.behind (flat ps);
    is = ap (λ l. l ++ flat ps) put.is ∙ append_assoc put.before (c ∷ put.behind) (flat ps);
  }
  put_in (p ∷ ps) (suc at) new lt put =
      let rest = put_in ps at new (omega (arith, lt)) put in
      record {
        before = p ++ rest.before;
        behind = rest.behind;
        was = ap (λ l. p ++ l) rest.was ∙ sym (append_assoc p rest.before rest.behind);
        is = ap (λ l. p ++ l) rest.is ∙ sym (append_assoc p rest.before (c ∷ rest.behind));
      }

  -- the first of a part less
  pub first_out : (ps : List (List Component)) (at : ℕ) (new : List Component) → at < length ps → part_at ps at ≡ c ∷ new → IsPutBetween c (flat (set ps at new)) (flat ps)
  first_out [] at new lt e = absurd (omega (arith, lt))
  first_out (p ∷ ps) zero new lt e = record { before = []; behind = new ++ flat ps; was = refl; is = ap (λ l. l ++ flat ps) e }
  first_out (p ∷ ps) (suc at) new lt e =
      let rest = first_out ps at new (omega (arith, lt)) e in
      record {
        before = p ++ rest.before;
        behind = rest.behind;
        was = ap (λ l. p ++ l) rest.was ∙ sym (append_assoc p rest.before rest.behind);
        is = ap (λ l. p ++ l) rest.is ∙ sym (append_assoc p rest.before (c ∷ rest.behind));
      }

  -- how many may come to stand in a part
  pub wanted_put : (at : ℕ) (old new : List Component) → IsPutBetween c old new → wanted_at at new ≡ wanted_at at old + cond (is_among at c.members) 1 0
  wanted_put at old new put = go (is_among at c.members) refl
    where
      test : Component → Bool
      test d = is_among at d.members

      go : (b : Bool) → is_among at c.members ≡ b → wanted_at at new ≡ wanted_at at old + cond b 1 0
      go true e =
          let same : wanted_at at new ≡ suc (wanted_at at old) =
          ap (λ l. length (filter test l)) put.is ∙ count_between test c put.before put.behind e ∙ ap (λ l. suc (length (filter test l))) (sym put.was) in
          omega (arith, same)
      go false e =
          let same : wanted_at at new ≡ wanted_at at old =
          ap (λ l. length (filter test l)) put.is ∙ ap length (none_between test c put.before put.behind e) ∙ ap (λ l. length (filter test l)) (sym put.was) in
          omega (arith, same)

-- ---- each part

-- a part is another, or as it was
pub each_set : (ps : List (List Component)) (at : ℕ) (new : List Component) → at < length ps → ((k : ℕ) → k < 16 → StandAt k (part_at ps k)) → StandAt at new
    → (k : ℕ) → k < 16 → StandAt k (part_at (set ps at new) k)
each_set ps at new lt each s k small = go (k == at) refl
  where
    go : (b : Bool) → (k == at) ≡ b → StandAt k (part_at (set ps at new) k)
    go true e =
        let same : at ≡ k = grind (arith, nat_tests) in
        subst (λ i. StandAt i (part_at (set ps at new) i)) same (subst (StandAt at) (sym (get_or-set_same ps at new [] lt)) s)
    go false e =
        let apart : k ≢ at = grind (arith, nat_tests) in
        subst (StandAt k) (sym (get_or-set_other ps at k new [] apart)) (each k small)

-- ---- room

pub has_part : (c : Component) (ps : List (List Component)) (k : ℕ) → Has c (part_at ps k) → Has c (flat ps)
has_part c [] k h = elim h [ ]
has_part c (p ∷ ps) zero h = has_left c p (flat ps) h
has_part c (p ∷ ps) (suc k) h = has_right c p (flat ps) (has_part c ps k h)

module _ (test : Component → Bool) where
  all_count : (cs : List Component) → ((c : Component) → Has c cs → test c ≡ true) → length cs ≡ length (filter test cs)
  all_count [] h = refl
  all_count (c ∷ cs) h = ap suc (all_count cs (λ d has. h d (inr has))) ∙ sym (ap (λ b. length (cond b (c ∷ filter test cs) (filter test cs))) (h c (inl refl)))

  part_count : (ps : List (List Component)) (k : ℕ) → ((c : Component) → Has c (part_at ps k) → test c ≡ true) → length (part_at ps k) ≤ length (filter test (flat ps))
  part_count [] k h = omega arith
  part_count (p ∷ ps) zero h = omega (arith, all_count p h, ap length (filter-append test p (flat ps)), length-append (filter test p) (filter test (flat ps)))
  part_count (p ∷ ps) (suc k) h = omega (arith, part_count ps k h, ap length (filter-append test p (flat ps)), length-append (filter test p) (filter test (flat ps)))

-- as many as stand in a part may come to stand there
pub length_part : (ps : List (List Component)) (at : ℕ) → StandAt at (part_at ps at) → AllByRecursion (λ (c : Component). Has c.under c.members) (flat ps)
    → length (part_at ps at) ≤ wanted_at at (flat ps)
length_part ps at s among =
    part_count (λ c. is_among at c.members) ps at (λ c has. is_of c (all_has (λ (d : Component). part_of d.under ≡ at) c (part_at ps at) s.own has)
    (all_has (λ (d : Component). Has d.under d.members) c (flat ps) among (has_part c ps at has)))
  where
    is_of : (c : Component) → part_of c.under ≡ at → Has c.under c.members → is_among at c.members ≡ true
    is_of c e h = has_any (λ t. part_of t == at) c.members c.under h (grind (arith, nat_tests))

-- ---- those of a coordinator stand in its part alone

module _ (below : List ℕ) (k : ℕ) (small : k < 16) where
  not_here : (at : ℕ) (cs : List Component) → at ≢ k → AllByRecursion (λ (c : Component). part_of c.under ≡ at) cs → filter (is_under below k) cs ≡ []
  not_here at [] apart own = refl
  not_here at (c ∷ cs) apart own = ap (λ b. cond b (c ∷ filter (is_under below k) cs) (filter (is_under below k) cs)) (one c.under own.0) ∙ not_here at cs apart own.1
    where
      one : (a : TxnId) → part_of a ≡ at → (a.coord == k && is_ended below a) ≡ false
      one a e =
          let other : a.coord ≢ k = omega (arith, e, apart, small) in
          grind (arith, nat_tests)

  abbrev OwnAt : ℕ → List (List Component) → ℕ → Type 0
  OwnAt n ps i = AllByRecursion (λ (c : Component). part_of c.under ≡ n) (part_at ps i)

  -- the parts behind the first, by the next number
  own_next : (from : ℕ) (p : List Component) (ps : List (List Component)) → ((i : ℕ) → i < length (p ∷ ps) → OwnAt (from + i) (p ∷ ps) i) → (i : ℕ)
      → i < length ps → OwnAt (from + 1 + i) ps i
  own_next from p ps own i lt = subst (λ n. OwnAt n ps i) (omega arith) (own (suc i) (omega (arith, lt)))

  filter_parts : (from : ℕ) (ps : List (List Component)) → ((i : ℕ) → i < length ps → OwnAt (from + i) ps i)
      → (at : ℕ) → from + at ≡ k → filter (is_under below k) (flat ps) ≡ filter (is_under below k) (part_at ps at)
  filter_parts from [] own at e = refl
  filter_parts from (p ∷ ps) own zero e =
      filter-append (is_under below k) p (flat ps)
      ∙ ap (λ l. filter (is_under below k) p ++ l) (behind (from + 1) ps (own_next from p ps own) (omega (arith, e)))
      ∙ append-nil (filter (is_under below k) p)
    where
      behind : (from : ℕ) (ps : List (List Component)) → ((i : ℕ) → i < length ps → OwnAt (from + i) ps i) → k < from
          → filter (is_under below k) (flat ps) ≡ []
      behind from [] own lt = refl
      behind from (p ∷ ps) own lt =
          filter-append (is_under below k) p (flat ps)
          ∙ ap (λ l. l ++ filter (is_under below k) (flat ps)) (not_here (from + 0) p (omega (arith, lt)) (own 0 (omega arith)))
          ∙ behind (from + 1) ps (own_next from p ps own) (omega (arith, lt))
  filter_parts from (p ∷ ps) own (suc at) e =
      filter-append (is_under below k) p (flat ps)
      ∙ ap (λ l. l ++ filter (is_under below k) (flat ps)) (not_here (from + 0) p (omega (arith, e)) (own 0 (omega arith)))
      ∙ filter_parts (from + 1) ps (own_next from p ps own) at (omega (arith, e))

  pub ended_of_part : (ps : List (List Component)) → length ps ≡ 16 → ((i : ℕ) → i < 16 → StandAt i (part_at ps i)) → filter (is_under below k) (flat ps) ≡ filter (is_under below k) (part_at ps k)
  ended_of_part ps len each = filter_parts 0 ps (λ i lt. subst (λ n. OwnAt n ps i) (omega arith) (each i (omega (arith, lt, len))).own) k (omega arith)

empty_where_none : (p : Component → Bool) (cs : List Component) → AllByRecursion (λ c. p c ≡ false) cs → filter p cs ≡ []
empty_where_none p [] h = refl
empty_where_none p (c ∷ cs) h = ap (λ b. cond b (c ∷ filter p cs) (filter p cs)) h.0 ∙ empty_where_none p cs h.1

none_where_empty : (p : Component → Bool) (cs : List Component) → filter p cs ≡ [] → AllByRecursion (λ c. p c ≡ false) cs
none_where_empty p [] e = tt
none_where_empty p (c ∷ cs) e = go (p c) refl e (none_where_empty p cs)
  where
    go : (b : Bool) → p c ≡ b → cond b (c ∷ filter p cs) (filter p cs) ≡ [] → (filter p cs ≡ [] → AllByRecursion (λ c. p c ≡ false) cs) → (p c ≡ false) × AllByRecursion (λ c. p c ≡ false) cs
    go true is e rest = absurd (omega (arith, ap length e))
    go false is e rest = (is, rest e)

-- where none of the part does, none stands under an ended member of the coordinator
pub none_under : (below : List ℕ) (k : ℕ) → k < 16 → (ps : List (List Component)) → length ps ≡ 16 → ((i : ℕ) → i < 16 → StandAt i (part_at ps i))
    → AllByRecursion (λ c. is_under below k c ≡ false) (part_at ps k) → AllByRecursion (λ c. is_under below k c ≡ false) (flat ps)
none_under below k small ps len each none = none_where_empty (is_under below k) (flat ps) (ended_of_part below k small ps len each ∙ empty_where_none (is_under below k) (part_at ps k) none)

-- ---- all of it

-- a part is another
pub in_parts : (ps : List (List Component)) → length ps ≡ 16 → ((k : ℕ) → k < 16 → StandAt k (part_at ps k)) → (at : ℕ) → at < 16 → (new : List Component) → StandAt at new
    → AreStanding (flat (set ps at new)) → (wanted capacities : List ℕ) (room : ℕ) → HaveRoom (flat (set ps at new)) wanted capacities room → length wanted ≡ 16
    → AreInParts (set ps at new) wanted capacities room
in_parts ps count each at small new s standing wanted capacities room has counts = record {
  each = each_set ps at new (omega (arith, count, small)) each s;
  standing = standing;
  room = has;
  count = length-set ps at new ∙ count;
  counts = counts;
}

-- where it is one more
pub stand_more : (c : Component) (at : ℕ) (old new : List Component) → StandAt at old → IsPutBetween c old new → IsRising is_not_ahead new → part_of c.under ≡ at → StandAt at new
stand_more c at old new s put r e = record { rising = r; own = all_put c old new put (λ (d : Component). part_of d.under ≡ at) e s.own }
