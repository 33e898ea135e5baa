-- Cycles that show why two pieces cannot be apart: docs/CHECKER.md, "Witnesses"
use Rattle.std.specs.Prelude.{◌≡◌, ◌≤◌, Bool, IsTrue, List, [], ◌∷◌, ◌++◌, length}
use Rattle.roc_program.specs.Program.{Workload}
use Rattle.roc_program.specs.declared.piece_id.PieceId.{PieceId}
use Rattle.roc_scgraph.specs.declared.vertex.Vertex.{Vertex}
use Rattle.roc_scgraph.specs.Cycles.{first_instance, IsUnreorderable}
use Rattle.roc_witness.specs.Order.{stands_before}

-- an unreorderable cycle that begins with the first instance of one piece and ends with that of the other, so that their S-edge closes it
pub record IsCycleOf (program : Workload) (is_immediate : PieceId → Bool) (p q : PieceId) (cycle : List Vertex) : Type 0 where
  pub between : List Vertex
  pub ends : cycle ≡ first_instance p ∷ (between ++ first_instance q ∷ [])
  pub unreorderable : IsUnreorderable program is_immediate cycle

-- of these cycles one of the shortest, and of the shortest the least
pub record IsShortestOf (program : Workload) (is_immediate : PieceId → Bool) (p q : PieceId) (cycle : List Vertex) : Type 0 where
  pub is : IsCycleOf program is_immediate p q cycle
  pub shortest : (other : List Vertex) → IsCycleOf program is_immediate p q other → length cycle ≤ length other
  pub least : (other : List Vertex) → IsCycleOf program is_immediate p q other → length other ≡ length cycle → ¬ IsTrue (stands_before other cycle)
