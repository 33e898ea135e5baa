-- Components that rise by the members under which they stand, and what comes first of them
use Rattle.std.proofs.Common.{◌≡◌, ◌<◌, ◌≤◌, ◌∙◌, ℕ, zero, suc, Bool, true, false, cond, not, List, [], ◌∷◌, ◌++◌, length, filter, take, drop, get_or, refl, sym, ap, inl, inr, arith}
use Rattle.std.proofs.lemmas.Bool.Decides.{nat_tests}
use Rattle.std.specs.List.{AllByRecursion, AllWithin}
use Rattle.std.specs.List.Sorted.{IsPartitionedBy}
use Rattle.roc_sequence.specs.Lists.{Has}
use Rattle.roc_sequence.specs.Rising.{IsRising}
use Rattle.roc_base.specs.declared.id.TxnId.{TxnId}
use Rattle.roc_base.specs.TxnId.{txn_lt}
use Rattle.roc_base.proofs.Ids.{txn_lt-asym}
use Rattle.roc_server_taken.specs.declared.components.Component.{Component}
use Rattle.roc_server_taken.specs.Inner.Over.{is_not_ahead}
use Rattle.roc_server_taken.proofs.TurnOrder.{all_between, from_all_between}

-- ---- one more, and one less

pub rising_between : (c : Component) (xs ys : List Component) → IsRising is_not_ahead (xs ++ ys)
    → AllByRecursion (λ (a : Component). txn_lt a.under c.under ≡ true) xs → AllByRecursion (λ (b : Component). txn_lt b.under c.under ≡ false) ys → IsRising is_not_ahead (xs ++ c ∷ ys)
rising_between c [] ys r h k = (later ys k, r)
  where
    later : (ys : List Component) → AllByRecursion (λ (b : Component). txn_lt b.under c.under ≡ false) ys → AllByRecursion (λ (b : Component). is_not_ahead c b ≡ true) ys
    later [] k = tt
    later (b ∷ ys) k = (ap not k.0, later ys k.1)
rising_between c (a ∷ xs) ys r h k =
    (all_between (λ (y : Component). is_not_ahead a y ≡ true) c xs ys (ap not (txn_lt-asym a.under c.under h.0)) r.0, rising_between c xs ys r.1 h.1 k)

pub rising_without : (c : Component) (xs ys : List Component) → IsRising is_not_ahead (xs ++ c ∷ ys) → IsRising is_not_ahead (xs ++ ys)
rising_without c [] ys r = r.1
rising_without c (a ∷ xs) ys r = ((from_all_between (λ (y : Component). is_not_ahead a y ≡ true) c xs ys r.0).1, rising_without c xs ys r.1)

-- ---- those that pass a test, before those that do not

module _ (p : Component → Bool) (P : Component → Type 0) (through : (a b : Component) → P a → is_not_ahead a b ≡ true → p b ≡ true → p a ≡ true) where
  pub parted : (cs : List Component) → IsRising is_not_ahead cs → AllByRecursion P cs → IsPartitionedBy p cs
  parted [] r h i j d le lt e = absurd (omega arith)
  parted (c ∷ cs) r h zero zero d le lt e = e
  parted (c ∷ cs) r h zero (suc j) d le lt e = through c (get_or cs j d) h.0 (later cs j r.0 (omega arith)) e
    where
      later : (cs : List Component) (j : ℕ) → AllByRecursion (λ (b : Component). is_not_ahead c b ≡ true) cs → j < length cs → is_not_ahead c (get_or cs j d) ≡ true
      later [] j a lt = absurd (omega arith)
      later (b ∷ ys) zero a lt = a.0
      later (b ∷ ys) (suc j) a lt = later ys j a.1 (omega arith)
  parted (c ∷ cs) r h (suc i) zero d le lt e = absurd (omega arith)
  parted (c ∷ cs) r h (suc i) (suc j) d le lt e = parted cs r.1 h.1 i j d (omega arith) (omega arith) e

module _ {A : Type 0} (p : A → Bool) where
  none_pass : (xs : List A) → AllByRecursion (λ x. p x ≡ false) xs → filter p xs ≡ []
  none_pass [] h = refl
  none_pass (x ∷ xs) h = ap (λ b. cond b (x ∷ filter p xs) (filter p xs)) h.0 ∙ none_pass xs h.1

  -- the front of a list is what passes
  pub front_passes : (xs : List A) (n : ℕ) → AllByRecursion (λ x. p x ≡ true) (take n xs) → AllByRecursion (λ x. p x ≡ false) (drop n xs) → take n xs ≡ filter p xs
  front_passes xs zero a h = sym (none_pass xs h)
  front_passes [] (suc n) a h = refl
  front_passes (x ∷ xs) (suc n) a h = ap (λ l. x ∷ l) (front_passes xs n a.1 h) ∙ sym (ap (λ b. cond b (x ∷ filter p xs) (filter p xs)) a.0)

-- of two, where the one behind comes before an id the other does
pub before_through : (id : TxnId) (a b : Component) → is_not_ahead a b ≡ true → txn_lt b.under id ≡ true → txn_lt a.under id ≡ true
before_through id a b h k = lt_through a.under b.under id h k
  where
    lt_through : (a b id : TxnId) → not (txn_lt b a) ≡ true → txn_lt b id ≡ true → txn_lt a id ≡ true
    lt_through a b id h k = grind (arith, nat_tests)

module _ {A : Type 0} (P : A → Type 0) where
  pub all_front : (xs : List A) (i : ℕ) → i ≤ length xs → AllWithin P xs 0 i → AllByRecursion P (take i xs)
  all_front xs zero le h = tt
  all_front [] (suc i) le h = tt
  all_front (x ∷ xs) (suc i) le h = (h zero x (omega arith) (omega arith), all_front xs i (omega arith) (λ k d low high. h (suc k) d (omega arith) (omega arith)))

  pub all_rest : (xs : List A) (i : ℕ) → AllWithin P xs i (length xs) → AllByRecursion P (drop i xs)
  all_rest [] zero h = tt
  all_rest [] (suc i) h = tt
  all_rest (x ∷ xs) zero h = (h zero x (omega arith) (omega arith), all_rest xs zero (λ k d low high. h (suc k) d (omega arith) (omega arith)))
  all_rest (x ∷ xs) (suc i) h = all_rest xs i (λ k d low high. h (suc k) d (omega arith) (omega arith))

-- what stands at a place is there
pub has_place : {A : Type 0} (xs : List A) (i : ℕ) (d : A) → i < length xs → Has (get_or xs i d) xs
has_place [] i d h = absurd (omega arith)
has_place (x ∷ xs) zero d h = inl refl
has_place (x ∷ xs) (suc i) d h = inr (has_place xs i d (omega arith))
