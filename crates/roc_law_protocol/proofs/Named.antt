-- What is named in lists that are put together is named in their parts
use Rattle.std.proofs.Common.{ℕ, pos, negsuc, ◌-◌, ◌<◌, ◌%◌, Bool, List, ◌∷◌, arith}
use Rattle.std.proofs.Math.Nat.{mod-lt}
use Rattle.std.specs.Prelude.{ℤ, filter, flat_map}
use Rattle.std.specs.List.{AllByRecursion}
use Rattle.roc_sequence.proofs.Holds.{all_has, has_all, all_append}
use Rattle.roc_sequence.proofs.Members.{from_has_flat_map}
use Rattle.roc_base.specs.Edge.{Dependency}
use Rattle.roc_base.specs.Edges.{united}
use Rattle.roc_base.proofs.Union.{AllByRecursion-united}
use Rattle.roc_msg.specs.InPlace.{in_place}
use Rattle.roc_msg.specs.declared.outbox.Outgoing.{Outgoing}
use Rattle.roc_plan.specs.Groups.{Plan, shard_of}
use Rattle.roc_law_protocol.specs.Fits.{IsNode, AreSeenHere, NamesNodes}
use Rattle.roc_coord.proofs.Keeping.{all_filter}

-- the shard of a place is one of the plan's
pub shard_below : (plan : Plan) → 0 < plan.program.shards → (place : ℤ) → shard_of plan place < plan.program.shards
shard_below plan some (pos a) = mod-lt a some
shard_below plan some (negsuc a) = below plan.program.shards (a % plan.program.shards) some
  where
    below : (n r : ℕ) → 0 < n → n - 1 - r < n
    below n r l = omega arith

module _ {A : Type 0} (P : A → Type 0) where
  pub all_in_place : (before : A → A → Bool) (a : A) (xs : List A) → P a → AllByRecursion P xs → AllByRecursion P (in_place before a xs)
  all_in_place before a xs p h = all_append P (filter (λ x. before x a) xs) (a ∷ filter (λ x. before a x) xs) (all_filter P (λ x. before x a) xs h) (p, all_filter P (λ x. before a x) xs h)

  pub all_flat : {B : Type 0} (f : B → List A) (xs : List B) → AllByRecursion (λ x. AllByRecursion P (f x)) xs → AllByRecursion P (flat_map f xs)
  all_flat f xs h = has_all P (flat_map f xs) (λ a k. (let q = from_has_flat_map f a xs k in all_has P a (f q.0) (all_has (λ x. AllByRecursion P (f x)) q.0 xs h q.1) q.2))

module _ (servers coords : ℕ) where
  pub seen_united : (es : List Dependency) → AreSeenHere servers coords es → AreSeenHere servers coords (united es)
  seen_united es h = AllByRecursion-united (λ d. d.at.0 < servers) (λ a b e k l. omega arith) es h

  -- it is sent to a node that is there, and names only such
  abbrev pub IsOutHere : Outgoing → Type 0
  IsOutHere out = IsNode servers coords out.to × NamesNodes servers coords out.msg
