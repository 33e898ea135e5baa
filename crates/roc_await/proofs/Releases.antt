-- Lists without the entries that name some transactions of which no list is known
use Rattle.std.proofs.Common.{◌≡◌, inl, inr, ◌<◌, Bool, true, false, not, List, [], length, filter, Option, Some, None, is_some, unwrap_or, IsTrue, refl, sym, ap, subst, ◌∙◌}
use Rattle.std.proofs.lemmas.Bool.{false≢true, not-true, not_from_false}
use Rattle.std.proofs.lemmas.List.Kept.{IsStrictlySortedBy-filter}
use Rattle.std.specs.List.{list_any}
use Rattle.std.specs.Option.{option_map}
use Rattle.roc_sequence.specs.Places.{is_listed}
use Rattle.roc_sequence.proofs.Filtered.{from_listed_filter, listed_filter}
use Rattle.roc_sequence.proofs.Holds.{all_has, any_has, has_any}
use Rattle.roc_sequence.proofs.Members.{from_has_filter, has_filter}
use Rattle.roc_sequence.proofs.Places.{unlisted_test}
use Rattle.roc_base.specs.declared.id.TxnId.{TxnId}
use Rattle.roc_base.specs.TxnId.{is_txn, txn_cmp}
use Rattle.roc_base.specs.Equalities.{is_txn-true}
use Rattle.roc_base.specs.Edge.{Dependency}
use Rattle.roc_depgraph.specs.declared.known.KnownList.{KnownList}
use Rattle.roc_depgraph.specs.Deps.{list_of, is_known, Precedes, IsKnown, IsDecided}
use Rattle.roc_depgraph.specs.Reach.{Reaches, direct, through}
use Rattle.roc_depgraph.proofs.Chains.{weaker_chain}
use Rattle.roc_depgraph.proofs.Listed.{has_under}
use Rattle.roc_await.specs.declared.lack.Lack.{Lack}
use Rattle.roc_await.specs.Lacks.{IsMissing, IsLack, AreLacks}
use Rattle.roc_await.specs.Released.{AreReleased}
use Rattle.roc_await.specs.Inner.Shortened.{shortened, AreShortened}
use Rattle.roc_await.specs.Inner.Taken.{AreLacksNow}
use Rattle.roc_await.proofs.GrownLacks.{some_undecided}

-- what precedes another stands on a list that is known
preceded_known : (known : List KnownList) (u t : TxnId) → Precedes known u t → IsKnown known t
preceded_known known u t h = go (list_of t known) h
  where
    go : (o : Option (List Dependency)) → IsTrue (list_any (λ d. is_txn d.from u) (unwrap_or o [])) → is_some o ≡ true
    go None k = absurd (false≢true k)
    go (Some es) k = refl

reached_known : (known : List KnownList) (u t : TxnId) → Reaches (Precedes known) u t → IsKnown known t
reached_known known u t (direct e) = preceded_known known u t e
reached_known known u t (through {s = s} p e) = preceded_known known s t e

module _ (known left : List KnownList) (gone : List TxnId) (r : AreReleased known left gone) where
  abbrev is_gone : TxnId → Bool
  is_gone u = is_listed is_txn gone u

  abbrev stays : Dependency → Bool
  stays d = not (is_gone d.from)

  abbrev names : TxnId → Dependency → Bool
  names u d = is_txn d.from u

  -- ---- what is known, and what precedes

  pub same_known : (t : TxnId) → is_known left t ≡ is_known known t
  same_known t = ap is_some (r.lists t) ∙ go (list_of t known)
    where
      go : (o : Option (List Dependency)) → is_some (option_map (filter stays) o) ≡ is_some o
      go None = refl
      go (Some es) = refl

  known_stays : (t : TxnId) → IsKnown known t → is_gone t ≡ false
  known_stays t k = unlisted_test is_txn gone t (λ l. r.unknown t l k)

  -- an entry that is left was there, and names none of these; and one that names none of these is left
  edge_was : (u t : TxnId) → Precedes left u t → Precedes known u t × (is_gone u ≡ false)
  edge_was u t h = go (list_of t known) (subst (λ o. IsTrue (list_any (names u) (unwrap_or o []))) (r.lists t) h)
    where
      go : (o : Option (List Dependency)) → IsTrue (list_any (names u) (unwrap_or (option_map (filter stays) o) [])) → IsTrue (list_any (names u) (unwrap_or o [])) × (is_gone u ≡ false)
      go None k = absurd (false≢true k)
      go (Some es) k =
          let d = any_has (names u) (filter stays es) k in
          let f = from_has_filter stays d.0 es d.1 in
          (has_any (names u) es d.0 f.0 d.2, ap is_gone (sym (is_txn-true d.0.from u d.2)) ∙ not-true (is_gone d.0.from) f.1)

  edge_left : (u t : TxnId) → is_gone u ≡ false → Precedes known u t → Precedes left u t
  edge_left u t n h = subst (λ o. IsTrue (list_any (names u) (unwrap_or o []))) (sym (r.lists t)) (go (list_of t known) h)
    where
      go : (o : Option (List Dependency)) → IsTrue (list_any (names u) (unwrap_or o [])) → IsTrue (list_any (names u) (unwrap_or (option_map (filter stays) o) []))
      go None k = absurd (false≢true k)
      go (Some es) k =
          let d = any_has (names u) es k in
          let other = not_from_false (is_gone d.0.from) (ap is_gone (is_txn-true d.0.from u d.2) ∙ n) in
          has_any (names u) (filter stays es) d.0 (has_filter stays d.0 es d.1 other) d.2

  -- ---- chains: so they lead from all others as before

  pub chain_was : (u t : TxnId) → Reaches (Precedes left) u t → Reaches (Precedes known) u t
  chain_was u t p = weaker_chain (Precedes left) (Precedes known) (λ u t e. (edge_was u t e).0) u t p

  chain_other : (u t : TxnId) → Reaches (Precedes left) u t → is_gone u ≡ false
  chain_other u t (direct e) = (edge_was u t e).1
  chain_other u t (through {s = s} p e) = chain_other u s p

  pub chain_left : (u t : TxnId) → is_gone u ≡ false → Reaches (Precedes known) u t → Reaches (Precedes left) u t
  chain_left u t n (direct e) = direct (edge_left u t n e)
  chain_left u t n (through {s = s} p e) = through (chain_left u s n p) (edge_left s t (known_stays s (reached_known known u s p)) e)

  -- ---- what is missing, and what is decided

  missing_was : (t v : TxnId) → IsKnown known t → IsMissing left t v → IsMissing known t v × (is_gone v ≡ false)
  missing_was t v k (inl e, n) = absurd (n (subst (IsKnown left) (sym e) (same_known t ∙ k)))
  missing_was t v k (inr p, n) = ((inr (chain_was v t p), λ h. n (same_known v ∙ h)), chain_other v t p)

  missing_left : (t v : TxnId) → is_gone v ≡ false → IsMissing known t v → IsMissing left t v
  missing_left t v other (inl e, n) = (inl e, λ h. n (sym (same_known v) ∙ h))
  missing_left t v other (inr p, n) = (inr (chain_left v t other p), λ h. n (sym (same_known v) ∙ h))

  lack_left : (l : Lack) → IsLack known l → IsLack left (shortened gone l)
  lack_left l lack = record {
    known_of = same_known l.of ∙ lack.known_of;
    missing = record {
      rising = IsStrictlySortedBy-filter txn_cmp (λ v. not (is_gone v)) l.missing lack.missing.rising;
      sound = λ v h. let f = from_listed_filter is_txn is_txn-true (λ v. not (is_gone v)) l.missing v h in missing_left l.of v (not-true (is_gone v) f.0) (lack.missing.sound v f.1);
      complete = λ v m. let w = missing_was l.of v lack.known_of m in listed_filter is_txn is_txn-true (λ v. not (is_gone v)) l.missing v (not_from_false (is_gone v) w.1) (lack.missing.complete v w.0);
    };
  }

  pub decided_left : (t : TxnId) → IsDecided known t → IsDecided left t
  decided_left t d = record { own = same_known t ∙ d.own; ancestors = λ u p. same_known u ∙ d.ancestors u (chain_was u t p) }

  -- ---- all lacks

  pub released_now : (olds news : List Lack) → AreLacks known olds → AreShortened gone olds news → AreLacksNow known left news
  released_now olds news are s = record {
    stays = decided_left;
    each = λ l h. let w = s.only l h in subst (IsLack left) (sym w.is) (lack_left w.old (all_has (IsLack known) w.old olds are.each w.there));
    undecided = λ l h d.
        let w = s.only l h in
        some_undecided known w.old (all_has (IsLack known) w.old olds are.each w.there) (all_has (λ (x : Lack). 0 < length x.missing) w.old olds are.some w.there) (subst (λ (x : Lack). IsDecided known x.of) w.is d);
    all = λ t k. elim (are.all t (sym (same_known t) ∙ k)) [
      | inl d ↦ inl d
      | inr l ↦ (let w = has_under (λ (x : Lack). x.of) olds t l in inr (shortened gone w.0, s.each w.0 w.1, w.2))
    ];
  }
