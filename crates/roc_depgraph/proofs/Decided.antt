-- What is known of all that is reached
use Rattle.std.proofs.Common.{◌≡◌, ◌<◌, Bool, true, false, not, List, [], ◌∷◌, length, filter, refl, sym, ◌∙◌, ap, subst, arith, inl, inr}
use Rattle.std.proofs.lemmas.Bool.{false≢true, not-true, not_from_false}
use Rattle.std.proofs.lemmas.List.Kept.{IsStrictlySortedBy-filter}
use Rattle.roc_sequence.specs.Places.{IsListed}
use Rattle.roc_sequence.proofs.Places.{listed_head}
use Rattle.roc_sequence.proofs.Filtered.{listed_filter, from_listed_filter}
use Rattle.roc_base.specs.declared.id.TxnId.{TxnId}
use Rattle.roc_base.specs.TxnId.{is_txn, txn_cmp}
use Rattle.roc_base.specs.Equalities.{is_txn-true, is_txn-same}
use Rattle.roc_depgraph.specs.declared.known.KnownList.{KnownList}
use Rattle.roc_depgraph.specs.Closure.{IsRisingListOf}
use Rattle.roc_depgraph.specs.Deps.{Precedes, is_known, IsKnown, IsDecided}
use Rattle.roc_depgraph.specs.Reach.{ReachesOrIs}

module _ (known : List KnownList) (id : TxnId) where
  abbrev pub Reached : TxnId → Type 0
  Reached u = ReachesOrIs (Precedes known) u id

  abbrev pub unknown_of : List TxnId → List TxnId
  unknown_of ids = filter (λ u. not (is_known known u)) ids

  pub known_of_decided : IsDecided known id → (u : TxnId) → Reached u → IsKnown known u
  known_of_decided d u (inl e) = subst (IsKnown known) (sym e) d.own
  known_of_decided d u (inr p) = d.ancestors u p

  module _ (ids : List TxnId) (all : IsRisingListOf Reached ids) where
    none_unknown : unknown_of ids ≡ [] → (u : TxnId) → Reached u → IsKnown known u
    none_unknown e u h = go (is_known known u) refl
      where
        go : (b : Bool) → is_known known u ≡ b → b ≡ true
        go true k = refl
        go false k =
            let l = listed_filter is_txn is_txn-true (λ u. not (is_known known u)) ids u (not_from_false (is_known known u) k) (all.complete u h) in
            let m = subst (λ l. IsListed is_txn l u) e l in
            absurd (omega arith)

    decided_from_none : unknown_of ids ≡ [] → IsDecided known id
    decided_from_none e = record { own = none_unknown e id (inl refl); ancestors = λ u p. none_unknown e u (inr p) }

    unknown_sound : (u : TxnId) → IsListed is_txn (unknown_of ids) u → Reached u × ¬ IsKnown known u
    unknown_sound u h =
        let f = from_listed_filter is_txn is_txn-true (λ u. not (is_known known u)) ids u h in
        (all.sound u f.1, λ k. false≢true (sym (not-true (is_known known u) f.0) ∙ k))

    unknown_rising : IsRisingListOf (λ u. Reached u × ¬ IsKnown known u) (unknown_of ids)
    unknown_rising =
        record {
          rising = IsStrictlySortedBy-filter txn_cmp (λ u. not (is_known known u)) ids all.rising;
          sound = unknown_sound;
          complete = λ u h. listed_filter is_txn is_txn-true (λ u. not (is_known known u)) ids u (not_true u h.1) (all.complete u h.0);
        }
      where
        not_true : (u : TxnId) → ¬ IsKnown known u → not (is_known known u) ≡ true
        not_true u n = go (is_known known u) refl
          where
            go : (b : Bool) → is_known known u ≡ b → not b ≡ true
            go true k = absurd (n k)
            go false k = refl

    undecided_from_some : 0 < length (unknown_of ids) → ¬ IsDecided known id
    undecided_from_some l d = go (unknown_of ids) refl l
      where
        go : (xs : List TxnId) → unknown_of ids ≡ xs → 0 < length xs → ⊥
        go [] e k = absurd (omega arith)
        go (x ∷ xs) e k =
            let f = unknown_sound x (subst (λ l. IsListed is_txn l x) (sym e) (listed_head is_txn x xs (is_txn-same x))) in
            f.1 (known_of_decided d x f.0)

    -- what `closure` answers, by what was found unknown
    pub whole : (unknown : List TxnId) → unknown ≡ unknown_of ids → length unknown ≡ 0 → IsDecided known id × IsRisingListOf Reached ids
    whole unknown e z = (decided_from_none (go (unknown_of ids) (ap length (sym e) ∙ z)), all)
      where
        go : (xs : List TxnId) → length xs ≡ 0 → xs ≡ []
        go [] k = refl
        go (x ∷ xs) k = absurd (omega arith)

    pub missing : (unknown : List TxnId) → unknown ≡ unknown_of ids → 0 < length unknown → (¬ IsDecided known id) × IsRisingListOf (λ u. Reached u × ¬ IsKnown known u) unknown
    missing unknown e l =
        let P : List TxnId → Type 0 = IsRisingListOf (λ u. Reached u × ¬ IsKnown known u) in
        (undecided_from_some (subst (λ xs. 0 < length xs) e l), subst P (sym e) unknown_rising)
