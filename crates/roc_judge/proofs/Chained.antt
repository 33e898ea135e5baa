-- The pairs of all logs have the chains of goes-before
use Rattle.std.proofs.Common.{◌≡◌, ◌≢◌, Bool, true, false, cond, List, [], ◌∷◌, sym, ap, subst, ◌∙◌, inl, inr}
use Rattle.std.specs.List.{filter, flat_map}
use Rattle.roc_sequence.specs.Lists.{Has}
use Rattle.roc_sequence.specs.Places.{IsListed, is_listed}
use Rattle.roc_sequence.proofs.Members.{has_left, has_right, has_append, has_flat_map, from_has_flat_map, has_filter, from_has_filter}
use Rattle.roc_sequence.proofs.Places.{listed_true, listed_test}
use Rattle.roc_base.specs.declared.id.TxnId.{TxnId}
use Rattle.roc_base.specs.TxnId.{is_txn}
use Rattle.roc_depgraph.specs.Closure.{IsRisingListOf}
use Rattle.roc_depgraph.specs.Reach.{Reaches, ReachesOrIs, direct, through}
use Rattle.roc_depgraph.proofs.Chains.{joined_chain, weaker_chain, other_chain}
use Rattle.roc_component.specs.Components.{among}
use Rattle.roc_msg.specs.declared.outbox.Ran.{Ran}
use Rattle.roc_audit.specs.declared.entry.Entry.TheVariants.{Answered}
use Rattle.roc_audit.specs.History.{IsAnsweredBefore}
use Rattle.roc_audit.proofs.Histories.{answered_by_before}
use Rattle.roc_precedence.specs.declared.pair.Pair.{Pair}
use Rattle.roc_precedence.specs.Pairs.{IsPaired}
use Rattle.roc_precedence.specs.Orders.{HaveSameChains}
use Rattle.roc_judge.specs.declared.folded.Folded.{Folded}
use Rattle.roc_judge.specs.Before.{StandsBefore, IsBeforeIn, GoesBefore, candidates, told}
use Rattle.roc_judge.specs.Judged.{AnsweredAreDecided}
use Rattle.roc_judge.specs.Inner.Uses.{nobody, walk}
use Rattle.roc_judge.specs.Inner.Times.{time_walk}
use Rattle.roc_judge.specs.Inner.Pairs.{of_ids, fold_pairs}
use Rattle.roc_judge.proofs.Meeting.{walk_leads, from_walk, none_left, Stand, IsOfTwo}
use Rattle.roc_judge.proofs.Timed.{all_times_lead, from_times}

-- ---- filters

pub stands_filter : {A : Type 0} (test : A → Bool) (a b : A) (xs : List A) → StandsBefore a b xs → test a ≡ true → test b ≡ true → StandsBefore a b (filter test xs)
stands_filter test a b [] s e f = elim s [ ]
stands_filter {A} test a b (x ∷ xs) (inl (i, h)) e f =
    subst (λ (t : Bool). StandsBefore a b (cond t (x ∷ filter test xs) (filter test xs))) (sym (ap test (sym i) ∙ e)) (inl (i, has_filter test b xs h f))
stands_filter {A} test a b (x ∷ xs) (inr s) e f = go (test x) (stands_filter test a b xs s e f)
  where
    go : (t : Bool) → StandsBefore a b (filter test xs) → StandsBefore a b (cond t (x ∷ filter test xs) (filter test xs))
    go true k = inr k
    go false k = k

pub from_stands_filter : {A : Type 0} (test : A → Bool) (a b : A) (xs : List A) → StandsBefore a b (filter test xs) → StandsBefore a b xs
from_stands_filter test a b [] s = elim s [ ]
from_stands_filter {A} test a b (x ∷ xs) s = go (test x) s (from_stands_filter test a b xs)
  where
    go : (t : Bool) → StandsBefore a b (cond t (x ∷ filter test xs) (filter test xs)) → (StandsBefore a b (filter test xs) → StandsBefore a b xs) → StandsBefore a b (x ∷ xs)
    go true (inl (i, h)) ih = inl (i, (from_has_filter test b xs h).0)
    go true (inr k) ih = inr (ih k)
    go false k ih = inr (ih k)

pub stands_first : {A : Type 0} (a b : A) (xs : List A) → StandsBefore a b xs → Has a xs
stands_first a b [] s = elim s [ ]
stands_first a b (x ∷ xs) (inl (i, h)) = inl i
stands_first a b (x ∷ xs) (inr s) = inr (stands_first a b xs s)

-- ---- a chain of chains is a chain
flat_chain : (E F : TxnId → TxnId → Type 0) → ((u t : TxnId) → E u t → Reaches F u t) → (u t : TxnId) → Reaches E u t → Reaches F u t
flat_chain E F f u _ (direct e) = f u _ e
flat_chain E F f u t (through {s} p e) = joined_chain F u s t (flat_chain E F f u s p) (f s t e)

not_one : (E : TxnId → TxnId → Type 0) (u t a b : TxnId) → a ≡ u → b ≡ t → u ≢ t → ReachesOrIs E a b → Reaches E u t
not_one E u t a b e f n (inl i) = absurd (n (sym e ∙ (i ∙ f)))
not_one E u t a b e f n (inr r) = subst (λ x. Reaches E x t) e (subst (λ x. Reaches E a x) f r)

module _ (folds : List Folded) (ids : List TxnId) (all : IsRisingListOf (IsListed is_txn (candidates folds)) ids) (decided : AnsweredAreDecided folds) where
  abbrev M : List TxnId
  M = candidates folds

  abbrev pairs : List Pair
  pairs = flat_map (fold_pairs ids) folds

  in_ids : (t : TxnId) → IsListed is_txn M t → is_listed is_txn ids t ≡ true
  in_ids t l = listed_test is_txn ids t (all.complete t l)

  from_ids : (t : TxnId) → is_listed is_txn ids t ≡ true → IsListed is_txn M t
  from_ids t e = all.sound t (listed_true is_txn ids t e)

  abbrev passes : Ran → Bool
  passes b = is_listed is_txn ids b.id

  -- what a pair is of: goes-before in one log, of which the first is a candidate
  abbrev IsOne : TxnId → TxnId → Type 0
  IsOne u t = GoesBefore folds u t × IsListed is_txn M u

  one_used : (f : Folded) → Has f folds → (u t : TxnId) → IsOfTwo (Stand (λ x. ⊥) (of_ids ids f.ran) (of_ids ids f.waits)) u t → IsOne u t
  one_used f h u t two = go two.stands
    where
      go : Stand (λ x. ⊥) (of_ids ids f.ran) (of_ids ids f.waits) two.first two.second → IsOne u t
      go (inl s) = elim s.0 [ ]
      go (inr (inl s)) = (
        (
          f,
          h,
          inl (record {
            first = two.first;
            second = two.second;
            stands = from_stands_filter passes two.first two.second f.ran s;
            meets = two.meets;
            first_is = two.first_is;
            second_is = two.second_is;
            others = two.others;
          }),
        ),
        subst (IsListed is_txn M) two.first_is (from_ids two.first.id (from_has_filter passes two.first f.ran (stands_first two.first two.second (of_ids ids f.ran) s)).1),
      )
      go (inr (inr (a, b))) = (
        (
          f,
          h,
          inr (inl (record {
            first = two.first;
            second = two.second;
            ran = (from_has_filter passes two.first f.ran a).0;
            waits = (from_has_filter passes two.second f.waits b).0;
            meets = two.meets;
            first_is = two.first_is;
            second_is = two.second_is;
            others = two.others;
          })),
        ),
        subst (IsListed is_txn M) two.first_is (from_ids two.first.id (from_has_filter passes two.first f.ran a).1),
      )

  one_timed : (f : Folded) → Has f folds → (u t : TxnId) → IsAnsweredBefore f.told u t → IsOne u t
  one_timed f h u t b =
      let answer = answered_by_before f.told u t b in
      ((f, h, inr (inr b)), decided u answer.0 (has_flat_map (λ (g : Folded). g.told) (Answered u answer.0) f folds h answer.1))

  one_of_pair : (p : Pair) → Has p pairs → IsOne p.earlier p.later
  one_of_pair p h =
      let r = from_has_flat_map (fold_pairs ids) p folds h in
      let f = r.0 in
      elim (has_append p (walk (λ c. nobody) (of_ids ids f.ran) (of_ids ids f.waits)) (time_walk (λ t. 0) [] 0 f.told) r.2) [
        | inl i ↦ one_used f r.1 p.earlier p.later (from_walk (λ x. ⊥) (λ c. nobody) (of_ids ids f.ran) (of_ids ids f.waits) none_left p i)
        | inr i ↦ elim (from_times (λ t. 0) [] 0 f.told p i) [
          | inl k ↦ (let nothing : Has p.earlier [] = k.0 in elim nothing [ ])
          | inr k ↦ one_timed f r.1 p.earlier p.later k
        ]
      ]

  one_of_paired : (u t : TxnId) → IsPaired pairs u t → IsOne u t
  one_of_paired u t h = one_of_pair (record { later = t; earlier = u }) h

  -- the pairs of one log are edges
  used_edges : (f : Folded) → Has f folds → (p : Pair) → Has p (walk (λ c. nobody) (of_ids ids f.ran) (of_ids ids f.waits)) → IsPaired pairs p.earlier p.later
  used_edges f h p i = has_flat_map (fold_pairs ids) p f folds h (has_left p (walk (λ c. nobody) (of_ids ids f.ran) (of_ids ids f.waits)) (time_walk (λ t. 0) [] 0 f.told) i)

  timed_edges : (f : Folded) → Has f folds → (p : Pair) → Has p (time_walk (λ t. 0) [] 0 f.told) → IsPaired pairs p.earlier p.later
  timed_edges f h p i = has_flat_map (fold_pairs ids) p f folds h (has_right p (walk (λ c. nobody) (of_ids ids f.ran) (of_ids ids f.waits)) (time_walk (λ t. 0) [] 0 f.told) i)

  leads : (f : Folded) → Has f folds → (u t : TxnId) → IsListed is_txn M u → IsListed is_txn M t → IsBeforeIn f u t → Reaches (IsPaired pairs) u t
  leads f h u t lu lt (inl r) =
      let a = subst (λ x. is_listed is_txn ids x ≡ true) (sym r.first_is) (in_ids u lu) in
      let b = subst (λ x. is_listed is_txn ids x ≡ true) (sym r.second_is) (in_ids t lt) in
      not_one (IsPaired pairs) u t r.first.id r.second.id r.first_is r.second_is r.others
      (walk_leads (IsPaired pairs) (λ c. nobody) (of_ids ids f.ran) (of_ids ids f.waits) r.first r.second (used_edges f h) (inl (stands_filter passes r.first r.second f.ran r.stands a b)) r.meets)
  leads f h u t lu lt (inr (inl r)) =
      let a = subst (λ x. is_listed is_txn ids x ≡ true) (sym r.first_is) (in_ids u lu) in
      let b = subst (λ x. is_listed is_txn ids x ≡ true) (sym r.second_is) (in_ids t lt) in
      not_one (IsPaired pairs) u t r.first.id r.second.id r.first_is r.second_is r.others
      (walk_leads (IsPaired pairs) (λ c. nobody) (of_ids ids f.ran) (of_ids ids f.waits) r.first r.second (used_edges f h)
      (inr (has_filter passes r.first f.ran r.ran a, has_filter passes r.second f.waits r.waits b)) r.meets)
  leads f h u t lu lt (inr (inr b)) = all_times_lead (IsPaired pairs) f.told (timed_edges f h) u t b

  within : (u t : TxnId) → IsListed is_txn M t → Reaches (IsPaired pairs) u t → Reaches (among M (IsPaired pairs)) u t
  within u t l r =
      other_chain (IsPaired pairs) (among M (IsPaired pairs)) (IsListed is_txn M)
      (λ a b lb e. (one_of_paired a b e).1)
      (λ a b lb e. ((one_of_paired a b e).1, lb, e))
      u t l r

  pub paired_chains : HaveSameChains (IsPaired pairs) (GoesBefore folds) M
  paired_chains u t = (
    weaker_chain (among M (IsPaired pairs)) (among M (GoesBefore folds)) (λ a b e. (e.0, e.1, (one_of_paired a b e.2).0)) u t,
    flat_chain (among M (GoesBefore folds)) (among M (IsPaired pairs)) (λ a b e. within a b e.1 (leads e.2.0 e.2.1 a b e.0 e.1 e.2.2)) u t,
  )
