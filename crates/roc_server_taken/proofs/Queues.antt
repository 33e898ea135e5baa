-- Parts as they are kept, in queues
use Rattle.std.proofs.Common.{◌≡◌, ◌≢◌, ◌<◌, ◌≤◌, ◌+◌, ◌==◌, ℕ, zero, suc, Bool, true, false, List, [], ◌∷◌, length, map, get_or, refl, subst, arith}
use Rattle.std.proofs.Common.{Global}
use Rattle.std.proofs.lemmas.Bool.Decides.{nat_tests}
use Rattle.std.proofs.Math.ListN.{set}
use Rattle.std.specs.VecDeque.{deque_capacity, deque_items}
use Rattle.std.specs.declared.collections.VecDeque.{VecDeque}
use Rattle.roc_server_taken.specs.declared.components.Component.{Component}
use Rattle.roc_server_taken.specs.Inner.Standing.{part_at}

-- ---- a number of each

module _ {X : Type 0} (f : X → ℕ) where
  more : (xs : List X) (at : ℕ) (x d : X) → f (get_or xs at d) ≤ f x → (k : ℕ) → get_or (map f xs) k 0 ≤ get_or (map f (set xs at x)) k 0
  more [] at x d le k = omega arith
  more (y ∷ xs) zero x d le zero = le
  more (y ∷ xs) zero x d le (suc k) = omega arith
  more (y ∷ xs) (suc at) x d le zero = omega arith
  more (y ∷ xs) (suc at) x d le (suc k) = more xs at x d le k

  now : (xs : List X) (at : ℕ) (x : X) → at < length xs → get_or (map f (set xs at x)) at 0 ≡ f x
  now [] at x lt = absurd (omega (arith, lt))
  now (y ∷ xs) zero x lt = refl
  now (y ∷ xs) (suc at) x lt = now xs at x (omega (arith, lt))

  -- what is no more than the number of each stays so where one has another number that is no less
  pub within_more : (xs : List X) (at : ℕ) (x d : X) → f (get_or xs at d) ≤ f x → (k n : ℕ) → n ≤ get_or (map f xs) k 0 → n ≤ get_or (map f (set xs at x)) k 0
  within_more xs at x d le k n h = omega (arith, h, more xs at x d le k)

  pub within_upto : (xs : List X) (at : ℕ) (x d : X) (n : ℕ → ℕ) → at < length xs → f (get_or xs at d) ≤ f x → n at ≤ f x → ((k : ℕ) → k < at → n k ≤ get_or (map f xs) k 0)
      → (k : ℕ) → k < at + 1 → n k ≤ get_or (map f (set xs at x)) k 0
  within_upto xs at x d n len le here before k lt = go (k == at) refl
    where
      go : (b : Bool) → (k == at) ≡ b → n k ≤ get_or (map f (set xs at x)) k 0
      go true e =
          let same : at ≡ k = grind (arith, nat_tests) in
          subst (λ i. n i ≤ get_or (map f (set xs at x)) i 0) same (omega (arith, here, now xs at x len))
      go false e =
          let apart : k ≢ at = grind (arith, nat_tests) in
          omega (arith, before k (omega (arith, lt, apart)), more xs at x d le k)

map_at : {X Y : Type 0} (f : X → Y) (xs : List X) (at : ℕ) (d : X) (e : Y) → at < length xs → get_or (map f xs) at e ≡ f (get_or xs at d)
map_at f [] at d e lt = absurd (omega (arith, lt))
map_at f (y ∷ xs) zero d e lt = refl
map_at f (y ∷ xs) (suc at) d e lt = map_at f xs at d e (omega (arith, lt))

-- ---- queues of components

abbrev pub Queue : Type 0
Queue = VecDeque Component Global

abbrev pub seen : List Queue → List (List Component)
seen ds = map deque_items ds

pub part_is : (ds : List Queue) (at : ℕ) (d : Queue) → at < length ds → part_at (seen ds) at ≡ deque_items (get_or ds at d)
part_is ds at d lt = map_at deque_items ds at d [] lt

pub capacity_is : (ds : List Queue) (at : ℕ) (d : Queue) → at < length ds → get_or (map deque_capacity ds) at 0 ≡ deque_capacity (get_or ds at d)
capacity_is ds at d lt = map_at deque_capacity ds at d 0 lt

pub capacity_small : (ds : List Queue) (at : ℕ) → get_or (map deque_capacity ds) at 0 < 9223372036854775808
capacity_small [] at = omega arith
capacity_small (d ∷ ds) zero = d.small.0
capacity_small (d ∷ ds) (suc at) = capacity_small ds at
