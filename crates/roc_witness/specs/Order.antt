-- The order of lists of vertices: docs/CHECKER.md, "Witnesses"
use Rattle.std.specs.Prelude.{Bool, true, false, ◌&&◌, ◌||◌, List, [], ◌∷◌}
use Rattle.roc_scgraph.specs.declared.vertex.Vertex.{Vertex}
use Rattle.roc_scgraph.specs.Graph.{is_vertex}
use Rattle.roc_scgraph.specs.Order.{is_before}

-- by the first place at which they differ; a list comes before one that begins with it
abbrev pub stands_before : List Vertex → List Vertex → Bool
stands_before [] [] = false
stands_before [] (b ∷ bs) = true
stands_before (a ∷ rest) [] = false
stands_before (a ∷ rest) (b ∷ bs) = is_before a b || (is_vertex a b && stands_before rest bs)
