-- The first fault of rules in a row
use Rattle.std.proofs.Common.{ℕ, List, [], ◌∷◌, ◌++◌, inl, inr}
use Rattle.roc_cluster.specs.declared.fault.ClusterFault.{ClusterFault}
use Rattle.roc_cluster.specs.declared.fault.ClusterFault.TheVariants.{Toml, Field, Twice, Gap, NoMemory}
use Rattle.roc_cluster.specs.Rules.{Rule, IsFirstBroken}
use Rattle.roc_cluster.specs.Inner.Judged.{AreKept, Names}

-- the first fault stands behind what is kept
pub behind_kept : (shards : ℕ) (xs ys : List Rule) (fault : ClusterFault) → AreKept shards xs → IsFirstBroken shards ys fault → IsFirstBroken shards (xs ++ ys) fault
behind_kept shards [] ys fault kept first = first
behind_kept shards (x ∷ xs) ys fault kept first = inr (kept.0, behind_kept shards xs ys fault kept.1 first)

-- more rules behind it change nothing
pub before_more : (shards : ℕ) (xs ys : List Rule) (fault : ClusterFault) → IsFirstBroken shards xs fault → IsFirstBroken shards (xs ++ ys) fault
before_more shards [] ys fault first = absurd first
before_more shards (x ∷ xs) ys fault (inl broken) = inl broken
before_more shards (x ∷ xs) ys fault (inr r) = inr (r.0, before_more shards xs ys fault r.1)

-- where all are kept, there is none
pub kept_has_none : (shards : ℕ) (xs : List Rule) (fault : ClusterFault) → AreKept shards xs → ¬ IsFirstBroken shards xs fault
kept_has_none shards [] fault kept first = first
kept_has_none shards (x ∷ xs) fault kept (inl broken) = kept.0 fault broken
kept_has_none shards (x ∷ xs) fault kept (inr r) = kept_has_none shards xs fault kept.1 r.1

-- the same of a fault that a function tells
pub names_behind : (shards : ℕ) (xs ys : List Rule) (fault : ClusterFault) → AreKept shards xs → Names shards ys fault → Names shards (xs ++ ys) fault
names_behind shards xs ys NoMemory kept n = n
names_behind shards xs ys Toml kept n = n
names_behind shards xs ys (Field name) kept n = behind_kept shards xs ys (Field name) kept n
names_behind shards xs ys (Twice shard) kept n = behind_kept shards xs ys (Twice shard) kept n
names_behind shards xs ys (Gap shard) kept n = behind_kept shards xs ys (Gap shard) kept n

pub names_before : (shards : ℕ) (xs ys : List Rule) (fault : ClusterFault) → Names shards xs fault → Names shards (xs ++ ys) fault
names_before shards xs ys NoMemory n = n
names_before shards xs ys Toml n = n
names_before shards xs ys (Field name) n = before_more shards xs ys (Field name) n
names_before shards xs ys (Twice shard) n = before_more shards xs ys (Twice shard) n
names_before shards xs ys (Gap shard) n = before_more shards xs ys (Gap shard) n
