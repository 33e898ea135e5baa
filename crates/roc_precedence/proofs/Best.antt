-- Of several ids the first with a shortest round
use Rattle.std.proofs.Common.{◌≡◌, ℕ, zero, suc, ◌+◌, ◌<◌, ◌≤◌, ◌++◌, true, List, [], ◌∷◌, length, get_or, take, Option, Some, None, Vec, Global, sym, subst, ap, ◌∙◌, inl, inr, arith}
use Rattle.std.proofs.Math.Nat.{min-le_left}
use Rattle.std.proofs.lemmas.Bool.{false≢true}
use Rattle.std.proofs.lemmas.List.{get_or-take, length-take, take_more}
use Rattle.std.proofs.lemmas.Map.Keys.{Less-from_sorted}
use Rattle.std.specs.List.Sorted.{IsStrictlySortedBy}
use Rattle.std.specs.Option.{option_map}
use Rattle.std.specs.Ordering.{is_lt}
use Rattle.roc_sequence.specs.Places.{IsListed}
use Rattle.roc_sequence.proofs.Appended.{listed_front, listed_behind, listed_either}
use Rattle.roc_base.specs.declared.id.TxnId.{TxnId}
use Rattle.roc_base.specs.TxnId.{is_txn, txn_cmp, txn_lt}
use Rattle.roc_base.proofs.Ids.{is_lt-txn_cmp, txn_lt-asym, txn_lt-itself, unlisted_none}
use Rattle.roc_depgraph.proofs.Listed.{listed_one, in_one}
use Rattle.roc_depgraph.proofs.Searched.{stands_at}
use Rattle.roc_precedence.specs.declared.rounds.Round.{Round}
use Rattle.roc_precedence.specs.Inner.Rounds.{Walks, IsNearer, IsWithinMost, IsRound, HasNoRound, IsFirstRound, IsBestRound, IsRoundWithin, most_of, better as better_of}
use Rattle.roc_precedence.proofs.Back.{within_less}

-- in ids that rise what is before a place is below what is there
before_at : (ids : List TxnId) (i : ℕ) (none y : TxnId) → IsStrictlySortedBy txn_cmp ids → i < length ids → IsListed is_txn (take i ids) y → txn_lt y (get_or ids i none) ≡ true
before_at ids i none y rising h l =
    let at = stands_at (take i ids) y l in
    let p = at.place in
    let w = at.within in
    let short : length (take i ids) ≤ i = subst (λ n. n ≤ i) (sym (length-take i ids)) (min-le_left i (length ids)) in
    let here : p < i = omega arith in
    let e : get_or ids p none ≡ y = sym (get_or-take i ids p none here) ∙ at.is none in
    subst (λ v. txn_lt v (get_or ids i none) ≡ true) e
    (sym (is_lt-txn_cmp (get_or ids p none) (get_or ids i none)) ∙ ap is_lt (Less-from_sorted txn_cmp ids p i none rising here h))

module _ (E : TxnId → TxnId → Type 0) where
  pub best_start : (ids : List TxnId) → ids ≡ [] → IsBestRound E ids None
  best_start ids e x l = absurd (unlisted_none x (subst (λ xs. IsListed is_txn xs x) e l))

  none_shorter : (taken : List TxnId) (best : Option Round) → IsBestRound E taken best → (y : TxnId) → IsListed is_txn taken y → HasNoRound E (most_of best) y
  none_shorter taken None b y l = b y l
  none_shorter taken (Some r) b y l = λ j h w. let s = b.is.some in b.shortest y l (j, omega arith, w)

  module _ (taken : List TxnId) (best : Option Round) (x : TxnId) (b : IsBestRound E taken best) (rises : (y : TxnId) → IsListed is_txn taken y → txn_lt y x ≡ true) where
    module _ (levels : List (List TxnId)) (round : IsRound E x levels) (within : IsWithinMost (most_of best) (length levels)) where
      none_nearer : (y : TxnId) → IsListed is_txn taken y → ¬ IsNearer E (length levels) y y
      none_nearer y l r = let k = r.1 in none_shorter taken best b y l r.0 (within_less (most_of best) (suc r.0) (length levels) within (omega arith)) r.2

      none_as_long : (y : TxnId) → IsListed is_txn taken y → ¬ Walks E (length levels) y y
      none_as_long y l w = none_from (length levels) round.some within w
        where
          none_from : (n : ℕ) → 0 < n → IsWithinMost (most_of best) n → ¬ Walks E n y y
          none_from zero h k w = omega arith
          none_from (suc n) h k w = none_shorter taken best b y l n k w

      pub better : IsFirstRound E (taken ++ x ∷ []) x levels
      better = record {
        is = round;
        from = listed_behind is_txn taken (x ∷ []) x (in_one x);
        shortest = λ y l. elim (listed_either is_txn taken (x ∷ []) y l) [
          | inl k ↦ none_nearer y k
          | inr k ↦ subst (λ v. ¬ IsNearer E (length levels) v v) (sym (listed_one x y k.1)) round.shortest
        ];
        least = λ y l low. elim (listed_either is_txn taken (x ∷ []) y l) [
          | inl k ↦ none_as_long y k
          | inr k ↦ absurd (false≢true (sym (txn_lt-itself x) ∙ subst (λ v. txn_lt v x ≡ true) (listed_one x y k.1) low))
        ];
      }

  pub as_good : (taken : List TxnId) (best : Option Round) (x : TxnId) → IsBestRound E taken best → ((y : TxnId) → IsListed is_txn taken y → txn_lt y x ≡ true)
      → HasNoRound E (most_of best) x → IsBestRound E (taken ++ x ∷ []) best
  as_good taken None x b rises n = λ y l.
      elim (listed_either is_txn taken (x ∷ []) y l) [
        | inl k ↦ b y k
        | inr k ↦ subst (HasNoRound E None) (sym (listed_one x y k.1)) n
      ]
  as_good taken (Some r) x b rises n = record {
    is = b.is;
    from = listed_front is_txn taken (x ∷ []) r.of b.from;
    shortest = λ y l. elim (listed_either is_txn taken (x ∷ []) y l) [
      | inl k ↦ b.shortest y k
      | inr k ↦ subst (λ v. ¬ IsNearer E (length r.levels.items) v v) (sym (listed_one x y k.1)) (λ m. let h = m.1 in n m.0 (omega arith) m.2)
    ];
    least = λ y l low. elim (listed_either is_txn taken (x ∷ []) y l) [
      | inl k ↦ b.least y k low
      | inr k ↦ absurd (false≢true (sym (txn_lt-asym r.of x (rises r.of b.from)) ∙ subst (λ v. txn_lt v r.of ≡ true) (listed_one x y k.1) low))
    ];
  }

  -- one more id of a list that rises
  module _ (ids : List TxnId) (i : ℕ) (none x : TxnId) (rising : IsStrictlySortedBy txn_cmp ids) (h : i < length ids) (e : x ≡ get_or ids i none) (best : Option Round)
      (b : IsBestRound E (take i ids) best) where
    below : (y : TxnId) → IsListed is_txn (take i ids) y → txn_lt y x ≡ true
    below y l = subst (λ v. txn_lt y v ≡ true) (sym e) (before_at ids i none y rising h l)

    more : take i ids ++ x ∷ [] ≡ take (i + 1) ids
    more = ap (λ v. take i ids ++ v ∷ []) e ∙ sym (take_more ids i none h)

    pub best_better : (levels : List (List TxnId)) → IsRound E x levels × IsWithinMost (most_of best) (length levels) → IsFirstRound E (take (i + 1) ids) x levels
    best_better levels r = subst (λ l. IsFirstRound E l x levels) more (better (take i ids) best x b below levels r.0 r.1)

    pub best_kept : HasNoRound E (most_of best) x → IsBestRound E (take (i + 1) ids) best
    best_kept n = subst (λ l. IsBestRound E l best) more (as_good (take i ids) best x b below n)

    pub best_next : (most : Option ℕ) (found : Option (Vec (List TxnId) Global)) → most ≡ most_of best → IsRoundWithin E x most (option_map (λ (l : Vec (List TxnId) Global). l.items) found)
        → IsBestRound E (take (i + 1) ids) (better_of x best found)
    best_next most None e n = best_kept (subst (λ m. HasNoRound E m x) e n)
    best_next most (Some levels) e r = best_better levels.items (r.0, subst (λ m. IsWithinMost m (length levels.items)) e r.1)
