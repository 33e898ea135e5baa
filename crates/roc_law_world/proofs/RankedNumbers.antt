-- The numbers of what passes, in a list and among what passes of it
use Rattle.std.proofs.Common.{◌≡◌, ◌≢◌, ◌↔◌, ◌∙◌, ◌⊎◌, inl, inr, ◌<◌, ◌≤◌, ◌+◌, ◌==◌, ℕ, zero, suc, Bool, true, false, not, cond, List, [], ◌∷◌, ◌++◌, Some, length, take, sym, ap, subst, arith}
use Rattle.std.proofs.lemmas.Bool.{false≢true, eqb-true, eq-eqb, not_from_false, false_from_ne_true}
use Rattle.std.proofs.lemmas.List.{length-append}
use Rattle.std.proofs.lemmas.Option.{slice_get_within}
use Rattle.std.proofs.lemmas.List.Elements.{filter-append}
use Rattle.std.specs.Prelude.{slice_get}
use Rattle.std.specs.List.{filter, range_with_len}
use Rattle.roc_merge_groups.proofs.Elements.{has_range, from_has_range}
use Rattle.roc_sequence.specs.Lists.{Has}
use Rattle.roc_sequence.proofs.Members.{has_append, has_left, has_right, has_filter, from_has_filter}
use Rattle.roc_law_world.specs.Rank.{rank}
use Rattle.roc_law_world.proofs.Ranks.{rank_before, rank_one, rank_append, rank_all}

pub found_front : {A : Type 0} (xs ys : List A) (k : ℕ) (a : A) → slice_get (xs ++ ys) k ≡ Some a → k < length xs → slice_get xs k ≡ Some a
found_front [] ys k a h l = absurd (omega arith)
found_front (x ∷ xs) ys zero a h l = h
found_front (x ∷ xs) ys (suc k) a h l = found_front xs ys k a h (omega arith)

-- ---- the numbers of messages that were not delivered

module _ {A : Type 0} (p : A → Bool) where
  -- what passes has its number in the one list where it has it in the other
  abbrev pub AreNumbered : (sent : List A) (old new : List ℕ) → Type 0
  AreNumbered sent old new =
      (k : ℕ) (m : A) → slice_get sent k ≡ Some m → p m ≡ true → Has (suc k) old ↔ Has (suc (rank p sent k)) new

  -- behind a front stand no fewer than in it
  rank_past : (xs ys : List A) (k : ℕ) → length xs ≤ k → length (filter p xs) ≤ rank p (xs ++ ys) k
  rank_past [] ys k l = omega arith
  rank_past (x ∷ xs) ys zero l = absurd (omega arith)
  rank_past (x ∷ xs) ys (suc k) l = go (p x) (rank_past xs ys k (omega arith))
    where
      go : (b : Bool) → length (filter p xs) ≤ rank p (xs ++ ys) k
          → length (cond b (x ∷ filter p xs) (filter p xs)) ≤ length (cond b (x ∷ filter p (take k (xs ++ ys))) (filter p (take k (xs ++ ys))))
      go true h = omega arith
      go false h = h

  module _ (sent more : List A) (old new : List ℕ) where
    -- where the first is so, and more is sent
    pub numbered_more : AreNumbered sent old new
        → AreNumbered (sent ++ more) (old ++ range_with_len (length sent + 1) (length more)) (new ++ range_with_len (length (filter p sent) + 1) (length (filter p more)))
    numbered_more h k m there is = elim (order k (length sent)) [
      | inl early ↦ before early
      | inr late ↦ behind late
    ]
      where
        order : (k n : ℕ) → (k < n) ⊎ (n ≤ k)
        order k zero = inr (omega arith)
        order zero (suc n) = inl (omega arith)
        order (suc k) (suc n) = elim (order k n) [ inl h ↦ inl (omega arith) | inr h ↦ inr (omega arith) ]

        Both : Type 0
        Both = Has (suc k) (old ++ range_with_len (length sent + 1) (length more)) ↔ Has (suc (rank p (sent ++ more) k)) (new ++ range_with_len (length (filter p sent) + 1) (length (filter p more)))

        before : k < length sent → Both
        before early =
            let at : slice_get sent k ≡ Some m = found_front sent more k m there early in
            let same : rank p (sent ++ more) k ≡ rank p sent k = rank_append p sent more k (omega arith) in
            let low : rank p sent k < length (filter p sent) = subst (λ n. rank p sent k < n) (rank_all p sent) (rank_before p sent k (length sent) m at is early) in
            let was = h k m at is in (
              (λ (u : Has (suc k) (old ++ range_with_len (length sent + 1) (length more))).
                  elim (has_append (suc k) old (range_with_len (length sent + 1) (length more)) u) [
                    | inl v ↦ has_left (suc (rank p (sent ++ more) k)) new (range_with_len (length (filter p sent) + 1) (length (filter p more))) (subst (λ n. Has (suc n) new) (sym same) (was.0 v))
                    | inr v ↦ (let q = from_has_range (length sent + 1) (length more) (suc k) v in let r = q.0 in absurd (omega arith))
                  ]),
              (λ (u : Has (suc (rank p (sent ++ more) k)) (new ++ range_with_len (length (filter p sent) + 1) (length (filter p more)))).
                  elim (has_append (suc (rank p (sent ++ more) k)) new (range_with_len (length (filter p sent) + 1) (length (filter p more))) u) [
                    | inl v ↦ has_left (suc k) old (range_with_len (length sent + 1) (length more)) (was.1 (subst (λ n. Has (suc n) new) same v))
                    | inr v ↦
                        (let q = from_has_range (length (filter p sent) + 1) (length (filter p more)) (suc (rank p (sent ++ more) k)) v in
                        let r = q.0 in
                        absurd (omega arith))
                  ]),
            )

        behind : length sent ≤ k → Both
        behind late =
            let within : k < length (sent ++ more) = slice_get_within (sent ++ more) k m there in
            let high : rank p (sent ++ more) k < length (filter p sent) + length (filter p more) =
            subst (λ n. rank p (sent ++ more) k < n) (rank_all p (sent ++ more) ∙ (ap length (filter-append p sent more) ∙ length-append (filter p sent) (filter p more)))
            (rank_before p (sent ++ more) k (length (sent ++ more)) m there is within)
            in
            let low : length (filter p sent) ≤ rank p (sent ++ more) k = rank_past sent more k late in
            let total = length-append sent more in (
              (λ (u : Has (suc k) (old ++ range_with_len (length sent + 1) (length more))).
                  has_right (suc (rank p (sent ++ more) k)) new (range_with_len (length (filter p sent) + 1) (length (filter p more)))
                  (has_range (length (filter p sent) + 1) (length (filter p more)) (suc (rank p (sent ++ more) k)) (omega arith) (omega arith))),
              (λ (u : Has (suc (rank p (sent ++ more) k)) (new ++ range_with_len (length (filter p sent) + 1) (length (filter p more)))).
                  has_right (suc k) old (range_with_len (length sent + 1) (length more)) (has_range (length sent + 1) (length more) (suc k) (omega arith) (omega arith))),
            )

  -- and one that passes comes
  pub numbered_less : (sent : List A) (old new : List ℕ) (k : ℕ) (m : A) → slice_get sent k ≡ Some m → p m ≡ true → AreNumbered sent old new
      → AreNumbered sent (filter (λ n. not (n == suc k)) old) (filter (λ n. not (n == suc (rank p sent k))) new)
  numbered_less sent old new k m at of h j a there is = (
    (λ (u : Has (suc j) (filter (λ n. not (n == suc k)) old)).
        (let q = from_has_filter (λ (n : ℕ). not (n == suc k)) (suc j) old u in
        let other : j ≢ k = λ e. false≢true (sym (ap not (eq-eqb (suc j) (suc k) (ap suc e))) ∙ q.1) in
        has_filter (λ (n : ℕ). not (n == suc (rank p sent k))) (suc (rank p sent j)) new ((h j a there is).0 q.0)
        (not_from_false (suc (rank p sent j) == suc (rank p sent k))
        (false_from_ne_true (suc (rank p sent j) == suc (rank p sent k)) (λ e. other (one (eqb-true (suc (rank p sent j)) (suc (rank p sent k)) e))))))),
    (λ (u : Has (suc (rank p sent j)) (filter (λ n. not (n == suc (rank p sent k))) new)).
        (let q = from_has_filter (λ (n : ℕ). not (n == suc (rank p sent k))) (suc (rank p sent j)) new u in
        let other : j ≢ k = λ e. false≢true (sym (ap not (eq-eqb (suc (rank p sent j)) (suc (rank p sent k)) (ap (λ n. suc (rank p sent n)) e))) ∙ q.1) in
        has_filter (λ (n : ℕ). not (n == suc k)) (suc j) old ((h j a there is).1 q.0)
        (not_from_false (suc j == suc k) (false_from_ne_true (suc j == suc k) (λ e. other (before (eqb-true (suc j) (suc k) e))))))),
  )
    where
      before : suc j ≡ suc k → j ≡ k
      before e = omega arith

      one : suc (rank p sent j) ≡ suc (rank p sent k) → j ≡ k
      one e = rank_one p sent j k a m there is at of (omega arith)

  -- and one that does not comes
  pub numbered_still : (sent : List A) (old new : List ℕ) (k : ℕ) (m : A) → slice_get sent k ≡ Some m → p m ≡ false → AreNumbered sent old new
      → AreNumbered sent (filter (λ n. not (n == suc k)) old) new
  numbered_still sent old new k m at of h j a there is = (
    (λ (u : Has (suc j) (filter (λ n. not (n == suc k)) old)). (h j a there is).0 (from_has_filter (λ (n : ℕ). not (n == suc k)) (suc j) old u).0),
    (λ (u : Has (suc (rank p sent j)) new).
        has_filter (λ (n : ℕ). not (n == suc k)) (suc j) old ((h j a there is).1 u)
        (not_from_false (suc j == suc k) (false_from_ne_true (suc j == suc k) (λ e. other (before (eqb-true (suc j) (suc k) e)))))),
  )
    where
      before : suc j ≡ suc k → j ≡ k
      before e = omega arith

      found_same : (sent : List A) (j k : ℕ) (a m : A) → slice_get sent j ≡ Some a → slice_get sent k ≡ Some m → j ≡ k → a ≡ m
      found_same sent j k a m there at e = cc

      other : j ≢ k
      other e =
          let same : a ≡ m = found_same sent j k a m there at e in
          false≢true (sym of ∙ (ap p (sym same) ∙ is))
