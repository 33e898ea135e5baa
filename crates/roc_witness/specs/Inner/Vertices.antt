-- The vertices of a program's graph, in their order
use Rattle.std.specs.Prelude.{ℕ, Bool, not, ◌&&◌, List, [], ◌∷◌, length}
use Rattle.std.specs.List.{flat_map, filter, range_with_len}
use Rattle.roc_program.specs.Program.{Workload}
use Rattle.roc_program.specs.Pieces.{pieces_in}
use Rattle.roc_scgraph.specs.declared.vertex.Vertex.{Vertex}
use Rattle.roc_scgraph.specs.declared.vertex.Instance.TheVariants.{First, Second}
use Rattle.roc_scgraph.specs.Graph.{is_vertex}

-- the two instances of a piece
abbrev pub instances_of : (proc piece : ℕ) → List Vertex
instances_of proc piece = record { proc = proc; piece = piece; instance = First } ∷ record { proc = proc; piece = piece; instance = Second } ∷ []

abbrev pub vertices_in : Workload → ℕ → List Vertex
vertices_in program proc = flat_map (instances_of proc) (range_with_len 0 (length (pieces_in program proc)))

abbrev pub vertices : Workload → List Vertex
vertices program = flat_map (vertices_in program) (range_with_len 0 (length program.procedures))

-- those but for the ends of the cycle and the vertex from which it leaves their instance
abbrev pub is_open : (p start q : Vertex) → Vertex → Bool
is_open p start q v = not (is_vertex v p) && (not (is_vertex v start) && not (is_vertex v q))

abbrev pub open_vertices : List Vertex → (p start q : Vertex) → List Vertex
open_vertices vertices p start q = filter (is_open p start q) vertices
