-- The SC-graph of a program: docs/CHECKER.md, "The graph". Its vertices are the pieces of two instances of each procedure
use Rattle.std.specs.Prelude.{Bool, true, false, ◌&&◌, ◌==◌, Option, Some, None, if◌then◌else◌}
use Rattle.roc_program.specs.Program.{Workload}
use Rattle.roc_program.specs.Conflict.{are_in_conflict}
use Rattle.roc_program.specs.declared.piece_id.PieceId.{PieceId}
use Rattle.roc_scgraph.specs.declared.vertex.Vertex.{Vertex}
use Rattle.roc_scgraph.specs.declared.vertex.Instance.{Instance}
use Rattle.roc_scgraph.specs.declared.vertex.Instance.TheVariants.{First, Second}
use Rattle.roc_scgraph.specs.declared.vertex.Kind.{Kind}
use Rattle.roc_scgraph.specs.declared.vertex.Kind.TheVariants.{S, C}

-- the piece that a vertex stands for
abbrev pub piece_id : Vertex → PieceId
piece_id v = record { proc = v.proc; piece = v.piece }

abbrev pub is_instance : Instance → Instance → Bool
is_instance First First = true
is_instance First Second = false
is_instance Second First = false
is_instance Second Second = true

-- the two belong to one instance of one procedure
abbrev pub are_siblings : Vertex → Vertex → Bool
are_siblings a b = (a.proc == b.proc) && is_instance a.instance b.instance

-- the two vertices are one
abbrev pub is_vertex : Vertex → Vertex → Bool
is_vertex a b = are_siblings a b && (a.piece == b.piece)

-- An S-edge joins two pieces of one instance. A C-edge joins pieces of two instances that conflict; it is immediate where both pieces are
abbrev pub edge : Workload → (PieceId → Bool) → Vertex → Vertex → Option Kind
edge program is_immediate a b =
    if are_siblings a b then (if a.piece == b.piece then None else Some S)
    else if are_in_conflict program (piece_id a) (piece_id b) then Some (C (is_immediate (piece_id a) && is_immediate (piece_id b)))
    else None
