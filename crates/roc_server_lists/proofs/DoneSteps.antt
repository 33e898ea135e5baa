-- Of what new lists name, those whose entries are done, as they are listed
use Rattle.std.proofs.Common.{◌≡◌, ◌==◌, ◌&&◌, ◌<◌, ◌≤◌, ℕ, suc, min, Bool, true, false, not, cond, List, [], ◌∷◌, ◌++◌, map, filter, refl, sym, ap, subst, ◌∙◌, inl, inr, arith}
use Rattle.std.proofs.lemmas.Bool.Decides.{nat_tests}
use Rattle.std.proofs.lemmas.List.Concat.{flat_map-append}
use Rattle.std.specs.List.Sorted.{IsStrictlySortedBy}
use Rattle.roc_sequence.specs.Lists.{Has}
use Rattle.roc_sequence.specs.Places.{is_listed, IsListed}
use Rattle.roc_sequence.proofs.Holds.{same_tests}
use Rattle.roc_sequence.proofs.Listed.{has_listed, has_under}
use Rattle.roc_sequence.proofs.Members.{from_has_filter, has_filter, has_map}
use Rattle.roc_sequence.proofs.Places.{listed_test, listed_true}
use Rattle.roc_sequence.proofs.Rising.{rising_filter}
use Rattle.roc_base.specs.declared.id.TxnId.{TxnId}
use Rattle.roc_base.specs.declared.node.Shard.{Shard}
use Rattle.roc_base.specs.Edge.{Dependency}
use Rattle.roc_base.specs.Edges.{comes_before, united, IsAllOf}
use Rattle.roc_base.specs.Equalities.{is_txn-true, is_txn-same}
use Rattle.roc_base.specs.TxnId.{is_txn, txn_cmp}
use Rattle.roc_base.proofs.Members.{has-united, IsAllOf-united}
use Rattle.roc_base.proofs.Rising.{sorted_from_rising}
use Rattle.roc_base.proofs.Union.{IsRising-united}
use Rattle.roc_depgraph.specs.declared.known.KnownList.{KnownList}
use Rattle.roc_step.specs.Below.{is_ended}
use Rattle.roc_step.specs.Links.{all_entries, least_naming}
use Rattle.roc_step.specs.State.{is_here}
use Rattle.roc_step.specs.declared.started.StartedGroup.{StartedGroup}
use Rattle.roc_step.proofs.LeastNaming.{least_append, least_below, least_bound, least_is}
use Rattle.roc_server_lists.specs.Inner.Finding.{is_done_at, is_done_with}
use Rattle.roc_server_lists.proofs.AlikeTests.{filter_alike}

-- ---- what new lists tell of a transaction is in one entry of what they name

-- the least of a number is the least of both
least_min : (id : TxnId) (a n : ℕ) (es : List Dependency) → least_naming id (min a n) es ≡ min a (least_naming id n es)
least_min id a n [] = refl
least_min id a n (e ∷ es) = go (is_txn e.from id) (λ m. least_min id a m es)
  where
    go : (b : Bool) → ((m : ℕ) → least_naming id (min a m) es ≡ min a (least_naming id m es)) → least_naming id (cond b (min (min a n) e.at.0) (min a n)) es ≡ min a (least_naming id (cond b (min n e.at.0) n) es)
    go true ih = let same : min (min a n) e.at.0 ≡ min a (min n e.at.0) = omega arith in ap (λ m. least_naming id m es) same ∙ ih (min n e.at.0)
    go false ih = ih n

-- an entry that is all of them has the least of their shards
least_all : (id : TxnId) (n : ℕ) (es : List Dependency) (d : Dependency) → IsAllOf id es d → least_naming id n es ≡ min d.at.0 n
least_all id n es d all =
    let one = all.at in
    let same : one.0.at.0 ≡ d.at.0 = ap (λ s. s.0) one.3 in
    let low : least_naming id n es ≤ one.0.at.0 = least_below id n es one.0 one.1 one.2 in
    let bound : least_naming id n es ≤ n = least_bound id n es in
    elim (least_is id n es) [
      | inl is ↦ omega (arith, same, low, bound, is)
      | inr w ↦ let covers : d.at.0 ≤ w.0.at.0 = (all.covers w.0 w.1 w.2).at in let is = w.3 in omega (arith, same, low, bound, covers, is)
    ]

module _ (shard : Shard) (started : List StartedGroup) (below : List ℕ) (known news : List KnownList) where
  -- so its entries are done by what it and known lists tell
  with_news : (d : Dependency) → Has d (united (all_entries news)) → is_done_with shard started below known d ≡ is_done_at shard started below (known ++ news) d.from
  with_news d has =
      let own : ℕ = suc shard.0 in
      let told : least_naming d.from own (all_entries (known ++ news)) ≡ least_naming d.from (least_naming d.from own (all_entries known)) (all_entries news) =
      ap (least_naming d.from own) (flat_map-append (λ (k : KnownList). k.edges) known news) ∙ least_append d.from own (all_entries known) (all_entries news) in
      let least : least_naming d.from (min d.at.0 own) (all_entries known) ≡ least_naming d.from own (all_entries (known ++ news)) =
      least_min d.from d.at.0 own (all_entries known)
      ∙ sym (told ∙ least_all d.from (least_naming d.from own (all_entries known)) (all_entries news) d (IsAllOf-united (all_entries news) d has)) in
      ap (λ n. is_ended below d.from && (not (is_here d.from started) && n == shard.0)) least

  pub done_with_news : map (λ (d : Dependency). d.from) (filter (is_done_with shard started below known) (united (all_entries news)))
      ≡ map (λ (d : Dependency). d.from) (filter (λ (d : Dependency). is_done_at shard started below (known ++ news) d.from) (united (all_entries news)))
  done_with_news =
      ap (map (λ (d : Dependency). d.from))
      (filter_alike (is_done_with shard started below known) (λ (d : Dependency). is_done_at shard started below (known ++ news) d.from) (united (all_entries news)) with_news)

-- ---- they are not done where it is of a lower shard than this one

unequal : (a n own : ℕ) → a ≤ n → n < own → (a == own) ≡ false
unequal a n own le lt = grind (arith, nat_tests)

pub told_lower : (shard : Shard) (started : List StartedGroup) (below : List ℕ) (known : List KnownList) (d : Dependency) → d.at.0 < shard.0 → is_done_with shard started below known d ≡ false
told_lower shard started below known d low =
    let most : ℕ = min d.at.0 (suc shard.0) in
    let lower : most < shard.0 = omega (arith, low) in
    ap (λ b. is_ended below d.from && (not (is_here d.from started) && b))
    (unequal (least_naming d.from most (all_entries known)) most shard.0 (least_bound d.from most (all_entries known)) lower)
    ∙ neither (is_ended below d.from) (not (is_here d.from started))
  where
    neither : (a b : Bool) → (a && (b && false)) ≡ false
    neither true true = refl
    neither true false = refl
    neither false b = refl

-- ---- they rise, and are all of them

module _ (done : TxnId → Bool) (named : List Dependency) (ids : List TxnId) (are : ids ≡ map (λ (d : Dependency). d.from) (filter (λ (d : Dependency). done d.from) (united named))) where
  pub done_rise : IsStrictlySortedBy txn_cmp ids
  done_rise =
      subst (IsStrictlySortedBy txn_cmp) (sym are)
      (sorted_from_rising (filter (λ (d : Dependency). done d.from) (united named)) (rising_filter comes_before (λ (d : Dependency). done d.from) (united named) (IsRising-united named)))

  pub done_listed : (d : Dependency) → Has d named → is_listed is_txn ids d.from ≡ done d.from
  done_listed d has = same_tests (is_listed is_txn ids d.from) (done d.from)
      (λ e.
      let l = listed_true is_txn ids d.from e in
      let u = has_under is_txn is_txn-true is_txn-same (λ (d : Dependency). d.from) (filter (λ (d : Dependency). done d.from) (united named)) d.from (subst (λ (ids : List TxnId). IsListed is_txn ids d.from) are l) in
      sym (ap done u.2) ∙ (from_has_filter (λ (d : Dependency). done d.from) u.0 (united named) u.1).1)
      (λ e.
      let z = has-united named d has in
      let there = has_filter (λ (d : Dependency). done d.from) z.0 (united named) z.1 (ap done z.2.from ∙ e) in
      listed_test is_txn ids d.from
      (subst (λ (ids : List TxnId). IsListed is_txn ids d.from) (sym are)
      (has_listed is_txn is_txn-true is_txn-same (map (λ (d : Dependency). d.from) (filter (λ (d : Dependency). done d.from) (united named))) d.from
      (subst (λ (t : TxnId). Has t (map (λ (d : Dependency). d.from) (filter (λ (d : Dependency). done d.from) (united named)))) z.2.from (has_map (λ (d : Dependency). d.from) z.0 (filter (λ (d : Dependency). done d.from) (united named)) there)))))
