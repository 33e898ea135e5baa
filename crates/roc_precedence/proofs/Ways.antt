-- The least way along the levels of a round
use Rattle.std.proofs.Common.{◌≡◌, ℕ, suc, ◌++◌, true, false, ◌&&◌, List, [], ◌∷◌, length, get_or, Option, Some, None, refl, sym, subst, ap, ◌∙◌, inl, inr, arith, length-append, append_assoc, append-nil, unwrap_or}
use Rattle.std.proofs.lemmas.Bool.{false≢true, or_cases, and_parts}
use Rattle.std.proofs.lemmas.Bool.Decides.{nat_tests}
use Rattle.std.specs.Ordering.{partial_lt}
use Rattle.roc_base.specs.contracts.id.TxnIdPartialOrd.TheImpl.{partial_cmp-value}
use Rattle.std.proofs.lemmas.List.{get_or_append_left, get_or_push}
use Rattle.roc_sequence.specs.Places.{IsListed}
use Rattle.roc_sequence.proofs.Appended.{listed_front, listed_behind, listed_either}
use Rattle.roc_base.specs.declared.id.TxnId.{TxnId}
use Rattle.roc_base.specs.TxnId.{is_txn, txn_lt}
use Rattle.roc_base.specs.Equalities.{is_txn-true}
use Rattle.roc_base.proofs.Ids.{txn_lt-itself, txn_lt-trans, unlisted_none}
use Rattle.roc_depgraph.proofs.Listed.{listed_one, in_one}
use Rattle.roc_precedence.specs.Cycles.{stands_before}
use Rattle.roc_precedence.specs.Inner.Rounds.{Walks, IsNearer, IsLevel, LeadsInto, AreLevels, IsRound, IsWay, IsLeastWay, IsLeastBehind, IsLeastOrNone}
use Rattle.roc_precedence.proofs.Back.{step_nearer}
use Rattle.roc_precedence.proofs.OneCycle.{comes_same}

-- the order of ids that code has is the one of clauses
pub lt_is : (a b : TxnId) → partial_lt partial_cmp-value.it a b ≡ txn_lt a b
lt_is a b = grind (arith, nat_tests)

module _ (E : TxnId → TxnId → Type 0) where
  pub way_walks : (xs : List TxnId) (u t : TxnId) → IsWay E u xs t → Walks E (length xs) u t
  way_walks [] u t w = w
  way_walks (x ∷ xs) u t w = (w.1.0, w.1.1, way_walks xs w.1.0 t w.1.2)

  -- two ways of one length, of which one begins with the least that there is
  compared : (m : ℕ) (v t s : TxnId) (ys rest : List TxnId) → ¬ (txn_lt v t ≡ true) → IsWay E v ys s → length ys ≡ m → IsLeastWay E m t s rest → ¬ (stands_before ys rest ≡ true)
  compared m v t s [] [] low w n r h = false≢true h
  compared m v t s [] (x ∷ xs) low w n r h = let l = r.long in absurd (omega arith)
  compared m v t s (y ∷ ys) [] low w n r h = false≢true h
  compared m v t s (y ∷ ys) (x ∷ xs) low w n r h =
      elim (or_cases (txn_lt y x) (is_txn y x && stands_before ys xs) h) [
        | inl k ↦ low (subst (λ a. txn_lt a t ≡ true) w.0 (subst (λ a. txn_lt y a ≡ true) r.is.0 k))
        | inr k ↦ (
            let same : y ≡ x = is_txn-true y x (and_parts (is_txn y x) (stands_before ys xs) k).0 in
            let e : v ≡ t = sym w.0 ∙ (same ∙ r.is.0) in
            r.least (y ∷ ys) (subst (λ a. IsWay E a (y ∷ ys) s) e w) n h)
      ]

  pub record IsOnWay (s : TxnId) (total : ℕ) (way : List TxnId) (at : TxnId) (levels : List (List TxnId)) : Type 0 where
    pub back : AreLevels E s levels
    pub walks : Walks E (length levels) at s
    pub shortest : ¬ IsNearer E (length levels) at s
    -- a least way from here is one from the start
    pub goes_on : (rest : List TxnId) → IsLeastWay E (length levels) at s rest → IsLeastWay E total s s (way ++ rest)

  pub way_start : (s : TxnId) (levels : List (List TxnId)) (way : List TxnId) → IsRound E s levels → way ≡ [] → IsOnWay s (length levels) way s levels
  way_start s levels way r e = record {
    back = r.back;
    walks = r.closes;
    shortest = r.shortest;
    goes_on = λ rest w. subst (λ l. IsLeastWay E (length levels) s s (l ++ rest)) (sym e) w;
  }

  pub way_done : (s : TxnId) (total : ℕ) (way : List TxnId) (at : TxnId) (levels : List (List TxnId)) → IsOnWay s total way at levels → length levels ≡ 0 → IsLeastWay E total s s way
  way_done s total way at levels o e =
      subst (IsLeastWay E total s s) (append-nil way)
      (o.goes_on [] (record { is = subst (λ n. Walks E n at s) e o.walks; long = sym e; least = λ ys w n h. none ys (n ∙ e) h }))
    where
      none : (ys : List TxnId) → length ys ≡ 0 → ¬ (stands_before ys [] ≡ true)
      none [] n h = false≢true h
      none (y ∷ ys) n h = false≢true h

  module _ (s : TxnId) (total : ℕ) (way : List TxnId) (at : TxnId) (olds levels : List (List TxnId)) (level : List TxnId) (on : IsOnWay s total way at olds)
      (popped : olds ≡ levels ++ level ∷ []) where
    shorter : length olds ≡ suc (length levels)
    shorter = ap length popped ∙ (let d = length-append levels (level ∷ []) in omega arith)

    here : IsLevel E s (length levels) level
    here =
        let k = shorter in
        subst (IsLevel E s (length levels)) (ap (λ l. get_or l (length levels) []) popped ∙ get_or_push levels level [] (length levels) refl) (on.back (length levels) (omega arith))

    walks_here : Walks E (suc (length levels)) at s
    walks_here = subst (λ n. Walks E n at s) shorter on.walks

    not_nearer : ¬ IsNearer E (suc (length levels)) at s
    not_nearer r = on.shortest (subst (λ n. IsNearer E n at s) (sym shorter) r)

    in_level : (v : TxnId) → E at v → Walks E (length levels) v s → IsListed is_txn level v
    in_level v e w = elim (here.complete v w) [ inl h ↦ h | inr r ↦ absurd (not_nearer (step_nearer E s (length levels) at v e r)) ]

    pub leads_on : LeadsInto E level at
    leads_on = let w = walks_here in (w.0, in_level w.0 w.1 w.2, w.1)

    module _ (t : TxnId) (b : IsLeastBehind E at level t) where
      least_on : (rest ys : List TxnId) → IsLeastWay E (length levels) t s rest → IsWay E at ys s → length ys ≡ suc (length levels) → ¬ (stands_before ys (at ∷ rest) ≡ true)
      least_on rest [] r w n h = absurd (omega arith)
      least_on rest (y ∷ ys) r w n h =
          let long : length ys ≡ length levels = omega arith in
          let l = in_level w.1.0 w.1.1 (subst (λ i. Walks E i w.1.0 s) long (way_walks ys w.1.0 s w.1.2)) in
          compared (length levels) w.1.0 t s ys rest (b.least w.1.0 l w.1.1) w.1.2 long r (sym (comes_same y at ys rest w.0) ∙ h)

      on_from : (rest : List TxnId) → IsLeastWay E (length levels) t s rest → IsLeastWay E (suc (length levels)) at s (at ∷ rest)
      on_from rest r = record {
        is = (refl, (t, b.leads, r.is));
        long = ap suc r.long;
        least = λ ys w n h. least_on rest ys r w n h;
      }

      shorter_levels : AreLevels E s levels
      shorter_levels i h =
          let k = shorter in
          subst (IsLevel E s i) (ap (λ l. get_or l i []) popped ∙ get_or_append_left levels (level ∷ []) [] i h) (on.back i (omega arith))

      pub way_more : (longer : List TxnId) → longer ≡ way ++ at ∷ [] → IsOnWay s total longer t levels
      way_more longer e = record {
        back = shorter_levels;
        walks = here.sound t b.from;
        shortest = λ r. not_nearer (step_nearer E s (length levels) at t b.leads r);
        goes_on = λ rest r. subst (IsLeastWay E total s s) (sym (append_assoc way (at ∷ []) rest) ∙ ap (λ l. l ++ rest) (sym e))
            (on.goes_on (at ∷ rest) (subst (λ n. IsLeastWay E n at s (at ∷ rest)) (sym shorter) (on_from rest r)));
      }

  -- ---- the least of a level

  module _ (id other : TxnId) (level : List TxnId) where
    in_more : (y : TxnId) → IsListed is_txn level y → IsListed is_txn (level ++ other ∷ []) y
    in_more y l = listed_front is_txn level (other ∷ []) y l

    last : IsListed is_txn (level ++ other ∷ []) other
    last = listed_behind is_txn level (other ∷ []) other (in_one other)

    -- what holds of the level and of the other holds of all
    of_all : (P : TxnId → Type 0) → ((y : TxnId) → IsListed is_txn level y → P y) → P other → (y : TxnId) → IsListed is_txn (level ++ other ∷ []) y → P y
    of_all P f p y l = elim (listed_either is_txn level (other ∷ []) y l) [ inl k ↦ f y k | inr k ↦ subst P (sym (listed_one other y k.1)) p ]

    pub kept_out : (least : Option TxnId) → ¬ E id other → IsLeastOrNone E id level least → IsLeastOrNone E id (level ++ other ∷ []) least
    kept_out None out l = of_all (λ y. ¬ E id y) l out
    kept_out (Some x) out l = record {
      from = in_more x l.from;
      leads = l.leads;
      least = of_all (λ y. E id y → ¬ (txn_lt y x ≡ true)) l.least (λ e. absurd (out e));
    }

    pub first_in : E id other → IsLeastOrNone E id level None → IsLeastBehind E id (level ++ other ∷ []) other
    first_in e l = record {
      from = last;
      leads = e;
      least = of_all (λ y. E id y → ¬ (txn_lt y other ≡ true)) (λ y k f. absurd (l y k f)) (λ f h. false≢true (sym (txn_lt-itself other) ∙ h));
    }

    pub lesser_in : (kept : TxnId) → E id other → txn_lt other kept ≡ true → IsLeastBehind E id level kept → IsLeastBehind E id (level ++ other ∷ []) other
    lesser_in kept e low l = record {
      from = last;
      leads = e;
      least = of_all (λ y. E id y → ¬ (txn_lt y other ≡ true)) (λ y k f h. l.least y k f (txn_lt-trans y other kept h low)) (λ f h. false≢true (sym (txn_lt-itself other) ∙ h));
    }

    pub lesser_kept : (kept : TxnId) → txn_lt other kept ≡ false → IsLeastBehind E id level kept → IsLeastBehind E id (level ++ other ∷ []) kept
    lesser_kept kept low l = record {
      from = in_more kept l.from;
      leads = l.leads;
      least = of_all (λ y. E id y → ¬ (txn_lt y kept ≡ true)) l.least (λ f h. false≢true (sym low ∙ h));
    }

  pub least_start : (id : TxnId) (level : List TxnId) → level ≡ [] → IsLeastOrNone E id level None
  least_start id level e y l = absurd (unlisted_none y (subst (λ xs. IsListed is_txn xs y) e l))

  pub unwrapped : (id none : TxnId) (level : List TxnId) (least : Option TxnId) → LeadsInto E level id → IsLeastOrNone E id level least → IsLeastBehind E id level (unwrap_or least none)
  unwrapped id none level None h l = absurd (l h.0 h.1 h.2)
  unwrapped id none level (Some x) h l = l
