-- Walks from a vertex to a goal over open vertices, and from which vertices there is one of so many
use Rattle.std.specs.Prelude.{◌≡◌, ℕ, zero, suc, ◌<◌, ◌≤◌, Bool, false, not, ◌&&◌, IsTrue, List, [], ◌∷◌, ◌++◌, length, slice_index_or}
use Rattle.std.specs.List.{AllByRecursion, filter, list_any}
use Rattle.roc_sequence.specs.Lists.{Has}
use Rattle.roc_scgraph.specs.declared.vertex.Vertex.{Vertex}
use Rattle.roc_scgraph.specs.Graph.{are_siblings, is_vertex}
use Rattle.roc_scgraph.specs.Cycles.{steps_to}
use Rattle.roc_witness.specs.Order.{stands_before}
use Rattle.roc_witness.specs.Inner.Table.{joins}

-- a step of a walk from `start`: `start` itself leads only out of its instance
abbrev pub may_step : (table : List (List Bool)) (start : Vertex) → Vertex → Vertex → Bool
may_step table start a b = joins table a b && not (is_vertex start a && are_siblings a b)

-- the way from a vertex to the goal
pub record IsWalk (may_step : Vertex → Vertex → Bool) (vertices : List Vertex) (from goal : Vertex) (way : List Vertex) : Type 0 where
  pub within : AllByRecursion (λ v. Has v vertices) way
  pub joined : AllByRecursion (λ n. IsTrue (may_step n.0 n.1)) (steps_to from way goal)

-- one of so many vertices, and no other of as many comes before it
pub record IsLeastWalk (may_step : Vertex → Vertex → Bool) (vertices : List Vertex) (from goal : Vertex) (count : ℕ) (way : List Vertex) : Type 0 where
  pub walk : IsWalk may_step vertices from goal way
  pub long : length way ≡ count
  pub least : (other : List Vertex) → IsWalk may_step vertices from goal other → length other ≡ count → stands_before other way ≡ false

abbrev pub HasNoWalk : (may_step : Vertex → Vertex → Bool) (vertices : List Vertex) (from goal : Vertex) (count : ℕ) → Type 0
HasNoWalk may_step vertices from goal count = (other : List Vertex) → IsWalk may_step vertices from goal other → length other ≡ count → ⊥

-- the least walk was added to a list
pub record IsLeastAdded (may_step : Vertex → Vertex → Bool) (vertices : List Vertex) (from goal : Vertex) (count : ℕ) (old new : List Vertex) : Type 0 where
  pub way : List Vertex
  pub added : new ≡ old ++ way
  pub least : IsLeastWalk may_step vertices from goal count way

-- the open vertices that lead to one of these
abbrev pub reaching : (may_step : Vertex → Vertex → Bool) (vertices targets : List Vertex) → List Vertex
reaching may_step vertices targets = filter (λ v. list_any (may_step v) targets) vertices

-- those from which a walk begins that has so many vertices, itself counted; the goal for none
abbrev pub level : (may_step : Vertex → Vertex → Bool) (vertices : List Vertex) (goal : Vertex) → ℕ → List Vertex
level may_step vertices goal zero = goal ∷ []
level may_step vertices goal (suc count) = reaching may_step vertices (level may_step vertices goal count)

abbrev pub AreLevels : (may_step : Vertex → Vertex → Bool) (vertices : List Vertex) (goal : Vertex) → List (List Vertex) → Type 0
AreLevels may_step vertices goal levels = (k : ℕ) → k < length levels → slice_index_or levels k [] ≡ level may_step vertices goal k

-- the list is these, a shortest walk of at most six vertices and of the shortest the least, and the goal
pub record IsShortestWalk (may_step : Vertex → Vertex → Bool) (vertices : List Vertex) (from goal : Vertex) (front : List Vertex) (cycle : List Vertex) : Type 0 where
  pub way : List Vertex
  pub is : cycle ≡ (front ++ way) ++ goal ∷ []
  pub few : length way ≤ 6
  pub walk : IsWalk may_step vertices from goal way
  pub shortest : (other : List Vertex) → IsWalk may_step vertices from goal other → length way ≤ length other
  pub least : (other : List Vertex) → IsWalk may_step vertices from goal other → length other ≡ length way → stands_before other way ≡ false

abbrev pub HasNoShortWalk : (may_step : Vertex → Vertex → Bool) (vertices : List Vertex) (from goal : Vertex) (most : ℕ) → Type 0
HasNoShortWalk may_step vertices from goal most = (other : List Vertex) → IsWalk may_step vertices from goal other → length other ≤ most → ⊥
