-- Cycles of the SC-graph that no reordering undoes: docs/CHECKER.md, "Unreorderable cycles"
use Rattle.std.specs.Prelude.{◌≡◌, ◌≢◌, ℕ, Bool, true, false, ◌≤◌, IsTrue, List, [], ◌∷◌, length, Option, Some, None}
use Rattle.std.specs.List.{AllByRecursion, list_any}
use Rattle.roc_sequence.specs.Places.{NoneTwice}
use Rattle.roc_program.specs.Program.{Workload}
use Rattle.roc_program.specs.Pieces.{HasPiece}
use Rattle.roc_conflict.specs.Contended.{is_contended}
use Rattle.roc_program.specs.declared.piece_id.PieceId.{PieceId}
use Rattle.roc_scgraph.specs.declared.vertex.Vertex.{Vertex}
use Rattle.roc_scgraph.specs.declared.vertex.Instance.TheVariants.{First}
use Rattle.roc_scgraph.specs.declared.vertex.Kind.{Kind}
use Rattle.roc_scgraph.specs.declared.vertex.Kind.TheVariants.{S, C}
use Rattle.roc_scgraph.specs.Graph.{piece_id, is_vertex, edge}

-- each of a list with the next one, and the last of them with one more
abbrev pub steps_to : Vertex → List Vertex → Vertex → List (Vertex × Vertex)
steps_to a [] end = (a, end) ∷ []
steps_to a (b ∷ bs) end = (a, b) ∷ steps_to b bs end

-- the neighbours on a cycle: each vertex with the next one, and the last with the first
abbrev pub neighbours : List Vertex → List (Vertex × Vertex)
neighbours [] = []
neighbours (a ∷ bs) = steps_to a bs a

-- an S-edge, or a C-edge with immediate pieces at both ends
abbrev pub is_fixed : Option Kind → Bool
is_fixed None = false
is_fixed (Some S) = true
is_fixed (Some (C immediate)) = immediate

abbrev pub is_sibling_edge : Option Kind → Bool
is_sibling_edge None = false
is_sibling_edge (Some S) = true
is_sibling_edge (Some (C immediate)) = false

abbrev pub is_conflict_edge : Option Kind → Bool
is_conflict_edge None = false
is_conflict_edge (Some S) = false
is_conflict_edge (Some (C immediate)) = true

-- At least three vertices, none twice, each joined with the next and the last with the first, by an S-edge and a C-edge at least, and each
-- C-edge has immediate pieces at both ends
pub record IsUnreorderable (program : Workload) (is_immediate : PieceId → Bool) (cycle : List Vertex) : Type 0 where
  pub long : 3 ≤ length cycle
  pub distinct : NoneTwice is_vertex cycle
  pub present : AllByRecursion (λ v. HasPiece program (piece_id v)) cycle
  pub fixed : AllByRecursion (λ n. IsTrue (is_fixed (edge program is_immediate n.0 n.1))) (neighbours cycle)
  pub some_sibling : IsTrue (list_any (λ n. is_sibling_edge (edge program is_immediate n.0 n.1)) (neighbours cycle))
  pub some_conflict : IsTrue (list_any (λ n. is_conflict_edge (edge program is_immediate n.0 n.1)) (neighbours cycle))

-- the first instance of a piece
abbrev pub first_instance : PieceId → Vertex
first_instance p = record { proc = p.proc; piece = p.piece; instance = First }

-- two pieces of a procedure are contended
pub record HasTwoContended (program : Workload) (is_immediate : PieceId → Bool) (proc : ℕ) : Type 0 where
  pub one : PieceId
  pub other : PieceId
  pub one_of : one.proc ≡ proc
  pub other_of : other.proc ≡ proc
  pub apart : one ≢ other
  pub one_contended : IsTrue (is_contended program is_immediate one)
  pub other_contended : IsTrue (is_contended program is_immediate other)
